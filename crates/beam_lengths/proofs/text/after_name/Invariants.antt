use Rattle.std.proofs.Common.{◌≡◌, ◌+◌, length, drop}
use Rattle.std.specs.List.{flat_map}
use Rattle.beam_model.specs.Prelude.{escaped}
use Rattle.beam_lengths.proofs.text.after_name.Given as goal

-- what is left, with the whole name, is what there was, with the remaining bytes
abbrev pub invariant-loop-byte : goal.invariant-loop-byte
invariant-loop-byte l = l.left + length (flat_map escaped l.name) ≡ l.initial.left + length (flat_map escaped (drop l.byte-index l.name))
