-- The threads that serve connections may be made from their values, and the gate of the workers may be shared: one fact for each type, from
-- those of its fields.
use denote.RattleType.{RattleType}
use denote.Ref.{NamedLft, ShrRef}
use denote.Hole.{as_row}
use denote.Struct.Field.{row_field, shr_ref_field}
use denote.Param.Send.{IsSend, IsSync, sendable, shr_send, shr_sync, view_send}
use denote.Param.SendFields.{as_row_send, as_row_sync, declared_send, declared_sync, variants_send}
use Rattle.std.proofs.alloc.Global.TheSendSync as Global
use Rattle.std.proofs.option.Option.TheSendSync as Option
use Rattle.beam_queue.specs.declared.brand.QueueBrand as QueueBrand
use Rattle.beam_receipts.specs.declared.brand.NodeBrand as NodeBrand
use Rattle.beam_sched.proofs.Crossing.{Shared_sync}
use Rattle.beam_sched.proofs.thread_context.ThreadContext.TheSendSync as ThreadContext_crossing
use Rattle.beam_sched.specs.contracts.shared.Shared as Shared
use Rattle.beam_serve.proofs.connection_thread.ServeOptions.TheSendSync as ServeOptions_crossing
use Rattle.beam_serve.proofs.acceptor.Acceptor.TheSendSync as Acceptor_crossing
use Rattle.beam_serve.proofs.memory_reserve.MemoryReserve.TheSendSync as MemoryReserve_crossing
use Rattle.beam_serve.proofs.readiness.Readiness.TheSendSync as Readiness_crossing
use Rattle.beam_serve.proofs.http_state.HttpDoor.TheSendSync as HttpDoor_crossing
use Rattle.beam_sockets.proofs.open_sockets.OpenSockets.TheSendSync as OpenSockets_crossing
use Rattle.beam_serve.specs.contracts.connection_thread.ConnectionThread as ConnectionThread
use Rattle.beam_serve.specs.contracts.http_thread.HttpThread as HttpThread
use Rattle.beam_serve.specs.contracts.acceptor.Acceptor as Acceptor
use Rattle.beam_serve.specs.contracts.seat_desk.SeatDesk as SeatDesk
use Rattle.beam_serve.specs.contracts.seat_desk.SeatDesk.TheInside as SeatDesk_inside
use Rattle.beam_serve.specs.contracts.serve_gate.ServeGate as ServeGate
use Rattle.beam_serve.specs.contracts.serve_helper.ServeHelper as ServeHelper
use Rattle.beam_disk_journal.proofs.Crossing.{JournalLink_send, JournalLink_sync, JournalThread_send}

-- ---- a `&` to what may be shared

runtime_send : (l : NamedLft) (R : RattleType) → IsSync R → IsSend (as_row (row_field (ShrRef l.mir l.lft R)))
runtime_send l R r = as_row_send (row_field (ShrRef l.mir l.lft R)) (shr_send l.mir l.lft R r)

runtime_sync : (l : NamedLft) (R : RattleType) → IsSync R → IsSync (as_row (row_field (ShrRef l.mir l.lft R)))
runtime_sync l R r = as_row_sync (row_field (ShrRef l.mir l.lft R)) (shr_sync l.mir l.lft R r)

Shared_send : (l : NamedLft) (B : RattleType) (g : NodeBrand.Ghosts B.Denot) → IsSend (as_row (shr_ref_field l (Shared.the_row B g) tt))
Shared_send l B g = as_row_send (shr_ref_field l (Shared.the_row B g) tt) (shr_send l.mir l.lft _ (Shared_sync B g))

Shared_ref_sync : (l : NamedLft) (B : RattleType) (g : NodeBrand.Ghosts B.Denot) → IsSync (as_row (shr_ref_field l (Shared.the_row B g) tt))
Shared_ref_sync l B g = as_row_sync (shr_ref_field l (Shared.the_row B g) tt) (shr_sync l.mir l.lft _ (Shared_sync B g))

Acceptor_send : (l : NamedLft) → IsSend (as_row (shr_ref_field l (Acceptor.the_row l) tt))
Acceptor_send l = as_row_send (shr_ref_field l (Acceptor.the_row l) tt) (shr_send l.mir l.lft _ (Acceptor_crossing.the_sync l))

-- ---- the threads, and the gate

pub SeatDesk_send : (l : NamedLft) (B R : RattleType) (g : NodeBrand.Ghosts B.Denot) (q : QueueBrand.Ghosts B.Denot) → IsSync R → IsSend (SeatDesk.the_row l B R g q)
SeatDesk_send l B R g q r = view_send _ _ _ _ _ (declared_send (SeatDesk_inside.the_type l B R g q) (runtime_send l R r, (Shared_send l B g, (ThreadContext_crossing.the_send B g q, (Option.the_send _ (shr_send l.mir l.lft _ MemoryReserve_crossing.the_sync), (Option.the_send _ (JournalLink_send l B g), tt))))))

pub ConnectionThread_send : (l : NamedLft) (B R : RattleType) (g : NodeBrand.Ghosts B.Denot) (q : QueueBrand.Ghosts B.Denot) → IsSync R → IsSend (ConnectionThread.the_row l B R g q)
ConnectionThread_send l B R g q r = declared_send (ConnectionThread.the_type l B R g q)
    (runtime_send l R r, (Global.the_send, (Shared_send l B g, (Acceptor_send l, ((search sendable), (SeatDesk_send l B R g q r, (ServeOptions_crossing.the_send, tt)))))))

pub HttpThread_send : (l : NamedLft) (B R : RattleType) (g : NodeBrand.Ghosts B.Denot) → IsSync R → IsSend (HttpThread.the_row l B R g)
HttpThread_send l B R g r = declared_send (HttpThread.the_type l B R g)
    (runtime_send l R r, (Global.the_send, (Shared_send l B g, (Acceptor_send l, ((shr_send l.mir l.lft _ (HttpDoor_crossing.the_sync l)), ((search sendable), tt))))))

pub ServeHelper_send : (l : NamedLft) (B R : RattleType) (g : NodeBrand.Ghosts B.Denot) (q : QueueBrand.Ghosts B.Denot) → IsSync R → IsSend (ServeHelper.the_row l B R g q)
ServeHelper_send l B R g q r = variants_send (ServeHelper.enum l B R g q) ((ConnectionThread_send l B R g q r, tt), ((JournalThread_send l B R g r, tt), ((HttpThread_send l B R g r, tt), tt)))

pub ServeGate_sync : (l : NamedLft) (B R : RattleType) (g : NodeBrand.Ghosts B.Denot) → IsSync R → IsSync (ServeGate.the_row l B R g)
ServeGate_sync l B R g r = declared_sync (ServeGate.the_type l B R g) (runtime_sync l R r, (Shared_ref_sync l B g, ((shr_sync l.mir l.lft _ OpenSockets_crossing.the_sync), ((shr_sync l.mir l.lft _ MemoryReserve_crossing.the_sync), ((shr_sync l.mir l.lft _ Readiness_crossing.the_sync), ((Option.the_sync _ (JournalLink_sync l B g)), ((search sendable), ((search sendable), tt))))))))
