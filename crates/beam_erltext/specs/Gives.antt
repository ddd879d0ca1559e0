-- The result of a reader against the definition of reading a text.
use Rattle.std.specs.Prelude.{◌≡◌, ℕ, Result, Ok, Err}
use Rattle.beam_erltext.specs.declared.read_fault.ReadFault.{ReadFault}
use Rattle.beam_erltext.specs.declared.read_fault.ReadFault.TheVariants as faults

-- reading has this fault, unless memory ran out
abbrev pub Fails : {Y : Type 0} → ReadFault → Result Y ℕ → Type 0
Fails faults.NoMemory read = Unit {0}
Fails (faults.At left) read = read ≡ Err left

-- the view of the result is the result of reading, unless memory ran out
abbrev pub Gives : {X Y : Type 0} → (X → Y) → Result X ReadFault → Result Y ℕ → Type 0
Gives view (Ok x) read = read ≡ Ok (view x)
Gives view (Err e) read = Fails e read
