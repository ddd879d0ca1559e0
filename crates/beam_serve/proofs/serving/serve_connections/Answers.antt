use denote.Param.Send.{sendable}
use Rattle.beam_serve.proofs.Crossing.{ServeGate_sync, ServeHelper_send}
use Rattle.beam_serve.proofs.serving.serve_connections.Goals as goal

pub run_with_helpers-schedulers-requires-send-H : goal.run_with_helpers-schedulers-requires-send-H
run_with_helpers-schedulers-requires-send-H g c κs w = let t = c.type_bounds in search (sendable, ServeHelper_send) depth 20

pub run_with_helpers-schedulers-requires-sync-G : goal.run_with_helpers-schedulers-requires-sync-G
run_with_helpers-schedulers-requires-sync-G g c κs w = let t = c.type_bounds in search (sendable, ServeGate_sync) depth 20
