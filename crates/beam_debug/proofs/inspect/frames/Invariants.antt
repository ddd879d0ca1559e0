use Rattle.std.proofs.Common.{◌≡◌, ◌++◌, length, map}
use Rattle.beam_machine.specs.Prelude.{frame_view}
use Rattle.beam_debug.specs.Prelude.{frame_seen}
use Rattle.beam_debug.proofs.inspect.frames.Given as goal

abbrev pub invariant-loop-walk : goal.invariant-loop-walk
invariant-loop-walk l = map frame_seen l.views.items ++ map (frame_view l.table) l.walk ≡ map (frame_view l.table) l.fn.process.frames

abbrev pub decreases-loop-walk : goal.decreases-loop-walk
decreases-loop-walk l = length l.walk
