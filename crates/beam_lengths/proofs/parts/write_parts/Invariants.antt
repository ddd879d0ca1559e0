use Rattle.std.proofs.Common.{◌≡◌, ◌++◌, take}
use Rattle.beam_machine.specs.TextParts.{parts_text}
use Rattle.beam_lengths.proofs.parts.write_parts.Given as goal

-- the parts so far were appended
abbrev pub invariant-loop-part : goal.invariant-loop-part
invariant-loop-part l = l.out.items ≡ l.fn.out.items ++ parts_text (take l.part-index l.parts)
