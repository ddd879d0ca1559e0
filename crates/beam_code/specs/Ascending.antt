-- Labels that stand in the order of their numbers.
use Rattle.std.specs.Prelude.{ℕ, ◌+◌, nat_lt, if◌then◌else◌, List, [], ◌∷◌, Option, Some, None, option_map}
use Rattle.beam_model.specs.declared.instruction.Instruction.{Instruction}
use Rattle.beam_model.specs.Prelude.{label_of}

-- the least number that the next label may have
abbrev pub bound_after : ℕ → Option ℕ → ℕ
bound_after least None = least
bound_after least (Some label) = label + 1

-- one label more in front; None where it is below the least number that it may have
abbrev pub with_label : ℕ → ℕ → Option ℕ → Option (List (ℕ × ℕ)) → Option (List (ℕ × ℕ))
with_label least end None labels = labels
with_label least end (Some label) labels = if nat_lt label least then None else option_map (λ ls. (label, end) ∷ ls) labels

-- each label with the byte after it, in a list of instructions that end at these bytes; None where they don't ascend from the least
unfoldable pub ascending_from : ℕ → List Instruction → List ℕ → Option (List (ℕ × ℕ))
ascending_from least (i ∷ rest) (end ∷ ends) = with_label least end (label_of i) (ascending_from (bound_after least (label_of i)) rest ends)
ascending_from least _ _ = Some []
