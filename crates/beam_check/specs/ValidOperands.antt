-- All that is asked of operands: that the labels that they name are defined, the natives known, and kinds and limits kept.
use Rattle.std.specs.Prelude.{ℕ, Bool, ◌&&◌}
use Rattle.beam_model.specs.declared.instruction.Operand.{Operand}
use Rattle.beam_model.specs.declared.instruction.Instruction.{Instruction}
use Rattle.beam_model.specs.declared.opcode.Kind.{Kind}
use Rattle.beam_model.specs.Prelude.{Listing, kinds_of, is_known, is_within, all_operands, are_labels_lawful, are_natives_known, are_limits_met}
use Rattle.beam_check.specs.LabelSet.{is_target}

abbrev pub is_valid : (ℕ → Bool) → Kind → Operand → Bool
is_valid marked kind o = is_target marked kind o && is_known kind o && is_within kind o

abbrev pub are_valid : (ℕ → Bool) → Instruction → Bool
are_valid marked i = all_operands (is_valid marked) (kinds_of i.opcode) i.operands

-- the three rules of operands; labels that are defined twice, or are no less than the count, break the first
abbrev pub are_operands_valid : Listing → Bool
are_operands_valid l = are_labels_lawful l && are_natives_known l && are_limits_met l
