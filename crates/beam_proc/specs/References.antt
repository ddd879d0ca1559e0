-- References of this node by their numbers.
use Rattle.std.specs.Prelude.{ℕ, ◌==◌, ◌&&◌, if◌then◌else◌, List, [], ◌∷◌, Option, Some, None, codes}
use Rattle.beam_machine.specs.declared.process.Monitor.{Monitor}
use Rattle.beam_machine.specs.Prelude.{without_monitor}
use Rattle.beam_model.specs.Prelude.{same_text}
use Rattle.beam_term.specs.Prelude.{TermValue, reference_term}

-- the number that the words of a reference spell
abbrev pub number_of_words : List ℕ → Option ℕ
number_of_words (n ∷ a ∷ b ∷ []) = if a == 0 && b == 0 then Some n else None
number_of_words _ = None

-- the number of the own reference that a term is
abbrev pub reference_number : TermValue → Option ℕ
reference_number (reference_term host creation words) = if same_text host (codes "nonode@nohost") && creation == 0 then number_of_words words else None
reference_number _ = None

abbrev pub left_without : Option ℕ → List Monitor → List Monitor
left_without None ms = ms
left_without (Some n) ms = without_monitor n ms
