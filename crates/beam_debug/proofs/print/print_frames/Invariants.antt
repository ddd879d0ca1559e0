use Rattle.std.proofs.Common.{◌≡◌, ◌++◌, length, map}
use Rattle.beam_machine.specs.Prelude.{frames_text}
use Rattle.beam_debug.specs.Prelude.{frame_seen}
use Rattle.beam_debug.proofs.print.print_frames.Given as goal

-- the text so far and the frames that are left make the text of all frames
abbrev pub invariant-loop-frame : goal.invariant-loop-frame
invariant-loop-frame l = l.out ++ frames_text (map frame_seen l.rest) ≡ l.initial.out ++ frames_text (map frame_seen l.fn.frames)

abbrev pub decreases-loop-frame : goal.decreases-loop-frame
decreases-loop-frame l = length l.rest
