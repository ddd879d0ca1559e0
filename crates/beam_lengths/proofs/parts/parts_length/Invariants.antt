use Rattle.std.proofs.Common.{◌≡◌, ◌+◌, length, take}
use Rattle.beam_machine.specs.TextParts.{parts_text}
use Rattle.beam_lengths.proofs.parts.parts_length.Given as goal

-- what is left and the parts so far make the limit
abbrev pub invariant-loop-part : goal.invariant-loop-part
invariant-loop-part l = l.left + length (parts_text (take l.part-index l.parts)) ≡ l.fn.most
