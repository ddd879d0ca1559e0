use Rattle.beam_debug.proofs.Printed.{frame_first}
use Rattle.beam_debug.proofs.print.print_frames.Goals as goal

pub loop-frame-preserved : goal.loop-frame-preserved
loop-frame-preserved c =
    frame_first c.loop-frame.out c.print_frame.new.out _ c.in-Some.frame.now c.in-Some.older.now c.loop-frame.rest.now
    c.in-Some.ensures.cases.0 c.in_ok-print_frame.ensures c.loop-frame.invariant
