use denote.Param.Send.{sendable}
use Rattle.beam_sched.proofs.Crossing.{Shared_sync, ThreadContexts_sync}
use Rattle.beam_sched.proofs.schedulers.start_worker.Goals as goal

pub spawn_scoped-requires-send-F : goal.spawn_scoped-requires-send-F
spawn_scoped-requires-send-F g c κs w = let t = c.type_bounds in search (sendable, Shared_sync, ThreadContexts_sync) depth 20
