-- Earlier code and the node's code now. (This node's own.)
use Rattle.std.specs.Prelude.{◌≡◌, ◌≤◌, ◌⊎◌, Bool, true, false, ◌==◌, ◌&&◌, [], ◌∷◌, Option, Some, None}
use Rattle.beam_machine.specs.Prelude.{Code, Instance, State}
use Rattle.beam_model.specs.Prelude.{same_text}

-- the instance is current or old in one of the modules
abbrev pub IsIn : Code → Instance → Type 0
IsIn [] i = ⊥
IsIn (v ∷ rest) i = (v.current ≡ Some i) ⊎ ((v.old ≡ Some i) ⊎ IsIn rest i)

-- the code's instances are of the node's life, and an instance that the node has with the number of one of them is that one
abbrev pub IsEarlierCode : Code → State → Type 0
IsEarlierCode code s = (i : Instance) → IsIn code i → (i.number ≤ s.instances) × ((j : Instance) → IsIn s.code j → j.number ≡ i.number → j ≡ i)

abbrev pub same_number : Option Instance → Option Instance → Bool
same_number (Some i) (Some j) = i.number == j.number
same_number None None = true
same_number _ _ = false

-- the same modules in the same order, with current and old instances of the same numbers
abbrev pub same_numbers : Code → Code → Bool
same_numbers [] [] = true
same_numbers (v ∷ code) (w ∷ others) = same_text v.name w.name && (same_number v.current w.current && (same_number v.old w.old && same_numbers code others))
same_numbers _ _ = false
