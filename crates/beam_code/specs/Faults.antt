-- The errors of this crate, and the faults of the definitions.
use Rattle.std.specs.Prelude.{◌≡◌, ℕ, Result, Ok, Err}
use Rattle.beam_model.specs.Prelude.{CodeFault, unsupported_opcode, bad_operand}
use Rattle.beam_model.specs.CodeChunk.{truncated}
use Rattle.beam_code.specs.declared.error.CodeError.{CodeError}
use Rattle.beam_code.specs.declared.error.CodeError.TheVariants.{UnsupportedOpcode, BadOperand, Truncated, NoMemory}

abbrev pub number_of : CodeError → ℕ
number_of (UnsupportedOpcode n at) = 1
number_of (BadOperand at) = 2
number_of Truncated = 3
number_of NoMemory = 4

-- reading has the fault that the error names, unless memory ran out
abbrev pub Fails : {X : Type 0} → CodeError → Result X CodeFault → Type 0
Fails (UnsupportedOpcode n at) read = read ≡ Err (unsupported_opcode n at)
Fails (BadOperand at) read = read ≡ Err (bad_operand at)
Fails Truncated read = read ≡ Err truncated
Fails NoMemory read = Unit {0}

-- the view of a function's result is the result of reading, unless memory ran out
abbrev pub Gives : {X Y : Type 0} → (X → Y) → Result X CodeError → Result Y CodeFault → Type 0
Gives view (Ok x) read = read ≡ Ok (view x)
Gives view (Err e) read = Fails e read
