-- What a run has written to the output when it fails.
use Rattle.std.specs.Prelude.{◌≡◌, ℕ, List, Option}
use Rattle.beam_print.specs.Begun.{IsBegun}
use Rattle.beam_tools.specs.declared.fault.RunFault.{RunFault}
use Rattle.beam_tools.specs.declared.fault.RunFault.TheVariants.{Unwritten}

-- a beginning of a text that the run may print
abbrev pub IsBegunOf : (List ℕ → Type 0) → Option (List ℕ) → Option (List ℕ) → Type 0
IsBegunOf Prints old new = (text : List ℕ) × Prints text × IsBegun old new text

-- where the output fails, a beginning of what the run prints was written; every other fault comes before anything is printed
abbrev pub Leaves : {O : Type 0} → (O → Option (List ℕ)) → (List ℕ → Type 0) → RunFault → O → O → Type 0
Leaves contents Prints Unwritten old new = IsBegunOf Prints (contents old) (contents new)
Leaves contents Prints _ old new = new ≡ old
