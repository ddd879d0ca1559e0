use denote.RattleType.{RattleType}
use denote.Ref.{NamedLft, ShrRef}
use denote.Struct.Field.{row_field}
use denote.Param.Send.{IsSend, IsSync, sendable, shr_send}
use denote.Param.SendFields.{as_row_send, declared_send}
use Rattle.std.proofs.alloc.Global.TheSendSync as Global
use Rattle.beam_queue.specs.declared.brand.QueueBrand as QueueBrand
use Rattle.beam_receipts.specs.declared.brand.NodeBrand as NodeBrand
use Rattle.beam_serve.proofs.Crossing.{SeatDesk_send}
use Rattle.session_tests.proofs.concurrent_sessions.ClientSource.TheSendSync as ClientSource_crossing
use Rattle.session_tests.specs.contracts.concurrent_sessions.SessionThread as SessionThread
use Rattle.session_tests.proofs.concurrent_sessions.receive.Goals as goal

SessionThread_send : (l : NamedLft) (B R : RattleType) (g : NodeBrand.Ghosts B.Denot) (q : QueueBrand.Ghosts B.Denot) → IsSync R → IsSend (SessionThread.the_row l B R g q)
SessionThread_send l B R g q r = declared_send (SessionThread.the_type l B R g q)
    (as_row_send (row_field (ShrRef l.mir l.lft R)) (shr_send l.mir l.lft R r), (Global.the_send, ((search (sendable, ClientSource_crossing.the_send) depth 9), (SeatDesk_send l B R g q r, tt))))

pub run_with_helpers-contexts-requires-send-H : goal.run_with_helpers-contexts-requires-send-H
run_with_helpers-contexts-requires-send-H g c κs w = let t = c.type_bounds in search (sendable, SessionThread_send) depth 20
