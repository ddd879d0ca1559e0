use denote.Param.Send.{sendable}
use Rattle.beam_sched.proofs.schedulers.fn.run_in_scope.scope.Goals as goal

-- the helpers may be sent, since the caller has them so
pub run_helped-requires-send-H : goal.run_helped-requires-send-H
run_helped-requires-send-H g c κs w = let r = c.requires in search (sendable) depth 20
