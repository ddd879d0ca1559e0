use Rattle.std.proofs.Common.{◌≡◌, ◌++◌, ◌-◌, length, take, drop}
use Rattle.beam_tools.specs.Prelude.{up_to}
use Rattle.beam_tools.proofs.place.up_to.Given as goal

-- no mark was passed
abbrev pub invariant-loop-end : goal.invariant-loop-end
invariant-loop-end l = take l.end l.text ++ up_to l.mark (drop l.end l.text) ≡ up_to l.mark l.text

abbrev pub decreases-loop-end : goal.decreases-loop-end
decreases-loop-end l = length l.text - l.end
