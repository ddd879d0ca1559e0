-- The errors of this crate, and the faults of the definitions.
use Rattle.std.specs.Prelude.{◌≡◌, ℕ, List, ◌++◌, Result, Ok, Err}
use Rattle.beam_model.specs.Prelude.{OperandFault, unsupported_operand, bad_sign}
use Rattle.beam_model.specs.Compact.{truncated, integer_too_large}
use Rattle.beam_operand.specs.declared.error.OperandError.{OperandError}
use Rattle.beam_operand.specs.declared.error.OperandError.TheVariants.{Truncated, UnsupportedOperand, IntegerTooLarge, BadSign, NoMemory}

abbrev pub number_of : OperandError → ℕ
number_of Truncated = 1
number_of UnsupportedOperand = 2
number_of IntegerTooLarge = 3
number_of BadSign = 4
number_of NoMemory = 5

-- reading has the fault that the error names, unless memory ran out
abbrev pub Fails : {X : Type 0} → OperandError → Result X OperandFault → Type 0
Fails Truncated read = read ≡ Err truncated
Fails UnsupportedOperand read = read ≡ Err unsupported_operand
Fails IntegerTooLarge read = read ≡ Err integer_too_large
Fails BadSign read = read ≡ Err bad_sign
Fails NoMemory read = Unit {0}

-- the view of a function's result is the result of reading, unless memory ran out
abbrev pub Gives : {X Y : Type 0} → (X → Y) → Result X OperandError → Result Y OperandFault → Type 0
Gives view (Ok x) read = read ≡ Ok (view x)
Gives view (Err e) read = Fails e read

-- new is old with the bytes of the spelling at its end
abbrev pub Appends : List ℕ → List ℕ → Result (List ℕ) OperandFault → Type 0
Appends old new (Ok text) = new ≡ old ++ text
Appends old new (Err e) = ⊥

-- new is old with some bytes at its end
abbrev pub Begins : List ℕ → List ℕ → Type 0
Begins old new = (more : List ℕ) × (new ≡ old ++ more)
