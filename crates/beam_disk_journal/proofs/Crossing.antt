-- The thread of the journal's file may be made from its values, and its link may be shared: one fact for each type, from those of its fields.
use denote.RattleType.{RattleType}
use denote.Ref.{NamedLft, ShrRef}
use denote.Hole.{as_row}
use denote.Struct.Field.{row_field, shr_ref_field}
use denote.Param.Send.{IsSend, IsSync, sendable, shr_send, shr_sync, view_send}
use denote.Param.SendFields.{as_row_send, declared_send, declared_sync}
use Rattle.std.proofs.Crossing.{crosses, Vec-send}
use Rattle.std.proofs.alloc.Global.TheSendSync as Global
use Rattle.std.proofs.option.Option.TheSendSync as Option
use Rattle.std.proofs.sync.Condvar.TheSendSync as Condvar
use Rattle.beam_block_file.proofs.file_shelf.FileShelf.TheSendSync as FileShelf_crossing
use Rattle.beam_block_file.specs.contracts.file_shelf.FileShelfShelf.TheImpl as FileShelf_shelf
use Rattle.beam_block_file.specs.declared.shelf.Shelf as Shelf
use Rattle.beam_journal_file.proofs.error.WriteFailed.TheSendSync as WriteFailed_crossing
use Rattle.beam_journal_file.proofs.writer.JournalWriter.TheSendSync as JournalWriter_crossing
use Rattle.beam_receipts.proofs.drain.DrainReceipt.TheSendSync as DrainReceipt_crossing
use Rattle.beam_receipts.specs.declared.brand.NodeBrand as NodeBrand
use Rattle.beam_sched.proofs.Crossing.{Entry_send, Shared_sync}
use Rattle.beam_sched.specs.contracts.shared.Shared as Shared
use Rattle.beam_disk_journal.proofs.disk_journal.FileCounts.TheSendSync as FileCounts_crossing
use Rattle.beam_sockets.proofs.open_sockets.OpenSockets.TheSendSync as OpenSockets_crossing
use Rattle.beam_disk_journal.specs.contracts.disk_journal.DiskJournal as DiskJournal
use Rattle.beam_disk_journal.specs.contracts.disk_journal.Progress as Progress
use Rattle.beam_disk_journal.specs.contracts.journal_link.JournalLink as JournalLink
use Rattle.beam_disk_journal.specs.contracts.journal_thread.JournalThread as JournalThread
use Rattle.beam_disk_journal.specs.contracts.node_file.NodeFile as NodeFile
use Rattle.beam_disk_journal.specs.contracts.node_file.NodeFile.TheInside as NodeFile_inside
use Rattle.beam_tools.proofs.line.SyncMode.TheSendSync as SyncMode_crossing

-- ---- a `&` to what may be shared

runtime_send : (l : NamedLft) (R : RattleType) → IsSync R → IsSend (as_row (row_field (ShrRef l.mir l.lft R)))
runtime_send l R r = as_row_send (row_field (ShrRef l.mir l.lft R)) (shr_send l.mir l.lft R r)

Shared_send : (l : NamedLft) (B : RattleType) (g : NodeBrand.Ghosts B.Denot) → IsSend (as_row (shr_ref_field l (Shared.the_row B g) tt))
Shared_send l B g = as_row_send (shr_ref_field l (Shared.the_row B g) tt) (shr_send l.mir l.lft _ (Shared_sync B g))

-- ---- the journal's file

NodeFile_send : (B S : RattleType) (g : NodeBrand.Ghosts B.Denot) (s : Shelf.Ghosts S.Denot) → IsSend S → IsSend (NodeFile.the_row B S g s)
NodeFile_send B S g s f = view_send _ _ _ _ _ (declared_send (NodeFile_inside.the_type B S g s)
    (Global.the_send, ((JournalWriter_crossing.the_send S s f), ((DrainReceipt_crossing.the_send B g), ((Vec-send _ Entry_send), ((search sendable), tt))))))

Progress_send : (B S : RattleType) (g : NodeBrand.Ghosts B.Denot) (s : Shelf.Ghosts S.Denot) → IsSend S → IsSend (Progress.the_row B S g s)
Progress_send B S g s f = declared_send (Progress.the_type B S g s) ((Option.the_send _ (NodeFile_send B S g s f)), (FileCounts_crossing.the_send, ((search sendable), ((search sendable), ((Option.the_send _ WriteFailed_crossing.the_send), ((Option.the_send _ (search sendable)), ((search sendable), tt)))))))

DiskJournal_sync : (B S : RattleType) (g : NodeBrand.Ghosts B.Denot) (s : Shelf.Ghosts S.Denot) → IsSend S → IsSync (DiskJournal.the_row B S g s)
DiskJournal_sync B S g s f = let p = Progress_send B S g s f in declared_sync (DiskJournal.the_type B S g s)
    (search crosses, (Condvar.the_sync, (Condvar.the_sync, (search crosses, (SyncMode_crossing.the_sync, ((search sendable), tt))))))

pub JournalLink_send : (l : NamedLft) (B : RattleType) (g : NodeBrand.Ghosts B.Denot) → IsSend (JournalLink.the_row l B g)
JournalLink_send l B g = declared_send (JournalLink.the_type l B g)
    ((shr_send l.mir l.lft _ (DiskJournal_sync B _ g FileShelf_shelf.ghosts FileShelf_crossing.the_send)), ((shr_send l.mir l.lft _ OpenSockets_crossing.the_sync), tt))

pub JournalLink_sync : (l : NamedLft) (B : RattleType) (g : NodeBrand.Ghosts B.Denot) → IsSync (JournalLink.the_row l B g)
JournalLink_sync l B g = declared_sync (JournalLink.the_type l B g)
    ((shr_sync l.mir l.lft _ (DiskJournal_sync B _ g FileShelf_shelf.ghosts FileShelf_crossing.the_send)), ((shr_sync l.mir l.lft _ OpenSockets_crossing.the_sync), tt))

-- ---- the thread of the file

pub JournalThread_send : (l : NamedLft) (B R : RattleType) (g : NodeBrand.Ghosts B.Denot) → IsSync R → IsSend (JournalThread.the_row l B R g)
JournalThread_send l B R g r = declared_send (JournalThread.the_type l B R g)
    (runtime_send l R r, (Shared_send l B g, (JournalLink_send l B g, (FileShelf_crossing.the_send, ((search sendable), ((search sendable), ((search sendable), tt)))))))
