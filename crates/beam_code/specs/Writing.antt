-- The answers of this crate's writers against the definitions of writing.
use Rattle.std.specs.Prelude.{◌≡◌, ℕ, List, ◌++◌, Option, Some, None, option_map, Result, Ok, Err}
use Rattle.beam_code.specs.declared.error.CodeError.{CodeError}
use Rattle.beam_code.specs.declared.error.CodeError.TheVariants.{UnsupportedOpcode, BadOperand, Truncated, NoMemory}

-- the output so far, and the bytes that are written after it
abbrev pub with_before : List ℕ → Option (List ℕ) → Option (List ℕ)
with_before old written = option_map (λ bytes. old ++ bytes) written

-- a refusal: the definition has no bytes to write, unless memory ran out
abbrev pub Refuses : CodeError → Option (List ℕ) → Type 0
Refuses (UnsupportedOpcode n at) written = ⊥
Refuses (BadOperand at) written = written ≡ None
Refuses Truncated written = ⊥
Refuses NoMemory written = Unit {0}

-- the result, with old before and new after the call, is the result of writing
abbrev pub Adds : {X : Type 0} → List ℕ → List ℕ → Result X CodeError → Option (List ℕ) → Type 0
Adds old new (Ok x) written = with_before old written ≡ Some new
Adds old new (Err e) written = Refuses e written
