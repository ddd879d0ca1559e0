use Rattle.std.proofs.Common.{◌≡◌, ◌++◌, take}
use Rattle.beam_listing.proofs.instruction.append.Given as goal

abbrev pub invariant-loop-part : goal.invariant-loop-part
invariant-loop-part l = l.parts.items ≡ l.initial.parts.items ++ take l.part-index l.more
