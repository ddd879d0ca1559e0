-- A node that threads share may cross threads: no part of it holds a token of a thread. One fact for each type, from those of its
-- fields, lowest first: `X_send` for `Send`, `X_sync` for `Sync`. A type that gets a field gets its fact here.
use denote.RattleType.{RattleType}
use denote.Ref.{NamedLft}
use denote.Hole.{as_row}
use denote.Struct.Field.{bool-field, i64-field, u16-field, u32-field, u64-field, u8-field, usize-field, row_field}
use denote.Param.Send.{IsSend, IsSync, sendable, view_send, view_sync}
use denote.Param.SendFields.{as_row_send, declared_send, declared_sync, owner_send, variants_send, variants_sync}
use Rattle.std.proofs.Crossing.{crosses, Arc-send, Arc-sync, Vec-send, Vec-sync, Box-send, Box-sync, Deque-send}
use Rattle.std.proofs.alloc.Global.TheSendSync as Global
use Rattle.std.proofs.option.Option.TheSendSync as Option
use Rattle.indexmap.proofs.map.IndexMap.TheSendSync as IndexMap
use Rattle.std.proofs.collections.BTreeMap.TheSendSync as BTreeMap
use Rattle.beam_agenda.proofs.flags.Flags.TheLaws.TheKnot as FlagsKnot
use Rattle.beam_agenda.proofs.times.Times.TheLaws.TheKnot as TimesKnot
use Rattle.beam_agenda.specs.contracts.agenda.Agenda as Agenda
use Rattle.beam_agenda.specs.contracts.agenda.Agenda.TheInside as Agenda_inside
use Rattle.beam_agenda.specs.contracts.flags.Flags as Flags
use Rattle.beam_agenda.specs.contracts.times.Times as Times
use Rattle.beam_code.proofs.instruction.ChunkLayout.TheSendSync as ChunkLayout_crossing
use Rattle.beam_code.specs.contracts.bytes.CodeBytes as CodeBytes
use Rattle.beam_code.specs.contracts.bytes.CodeBytes.TheInside as CodeBytes_inside
use Rattle.beam_codesrv.specs.contracts.code_table.CodeTable as CodeTable
use Rattle.beam_codesrv.specs.contracts.code_table.CodeTable.TheInside as CodeTable_inside
use Rattle.beam_codesrv.specs.contracts.versions.Instance as Instance
use Rattle.beam_codesrv.specs.contracts.versions.Instance.TheInside as Instance_inside
use Rattle.beam_codesrv.specs.contracts.versions.Versions as Versions
use Rattle.beam_codesrv.specs.contracts.versions.Versions.TheInside as Versions_inside
use Rattle.beam_core.specs.contracts.node.Core as Core
use Rattle.beam_core.specs.contracts.node.Core.TheInside as Core_inside
use Rattle.beam_debug.proofs.debug_state.DebugState.TheSendSync as DebugState_crossing
use Rattle.beam_debug.specs.contracts.debugger.Debugger as Debugger
use Rattle.beam_debug.specs.contracts.debugger.Debugger.TheInside as Debugger_inside
use Rattle.beam_image.proofs.entry_points.EntryPoints.TheSendSync as EntryPoints_crossing
use Rattle.beam_shapes.proofs.label_rows.LabelRows.TheSendSync as LabelRows_crossing
use Rattle.beam_image.proofs.chunk_copies.ChunkCopies.TheSendSync as ChunkCopies_crossing
use Rattle.beam_image.proofs.record_table.RecordTable.TheSendSync as RecordTable_crossing
use Rattle.beam_image.specs.contracts.code.LinkedCode as LinkedCode
use Rattle.beam_image.specs.contracts.code.LinkedCode.TheInside as LinkedCode_inside
use Rattle.beam_image.specs.contracts.image_inner.ImageInner as ImageInner
use Rattle.beam_image.specs.contracts.image_inner.ImageInner.TheInside as ImageInner_inside
use Rattle.beam_image.specs.contracts.image.Image as Image
use Rattle.beam_image.specs.contracts.image.Image.TheInside as Image_inside
use Rattle.beam_image.specs.contracts.operand_lists.OperandList as OperandList
use Rattle.beam_image.specs.contracts.operand_lists.OperandLists as OperandLists
use Rattle.beam_journal.proofs.entry_counts.EntryCounts.TheSendSync as EntryCounts_crossing
use Rattle.beam_journal.specs.contracts.entry.Entry as Entry
use Rattle.beam_journal.specs.contracts.entry.Entry.TheInside as Entry_inside
use Rattle.beam_journal.specs.contracts.drained_events.DrainedEvents as DrainedEvents
use Rattle.beam_journal.specs.contracts.node_journal.NodeJournal as NodeJournal
use Rattle.beam_journal.specs.contracts.node_journal.NodeJournal.TheInside as NodeJournal_inside
use Rattle.beam_machine.proofs.action.Registers.TheSendSync as Registers_crossing
use Rattle.beam_machine.proofs.action.SizeChoices.TheSendSync as SizeChoices_crossing
use Rattle.beam_machine.proofs.callee.Callee.TheSendSync as Callee_crossing
use Rattle.beam_machine.proofs.choice_index.ChoiceIndex.TheSendSync as ChoiceIndex_crossing
use Rattle.beam_machine.proofs.debug.Spot.TheSendSync as Spot_crossing
use Rattle.beam_machine.proofs.event.UpgradeMode.TheSendSync as UpgradeMode_crossing
use Rattle.beam_machine.proofs.process.Deadline.TheSendSync as Deadline_crossing
use Rattle.beam_machine.proofs.process.Goes.TheSendSync as Goes_crossing
use Rattle.beam_machine.specs.contracts.action.Choice as Choice
use Rattle.beam_machine.specs.contracts.action.Source as Source
use Rattle.beam_machine.specs.contracts.action.Sources as Sources
use Rattle.beam_machine.specs.contracts.action.Sources.TheInside as Sources_inside
use Rattle.beam_machine.specs.contracts.action.Update as Update
use Rattle.beam_machine.specs.contracts.action.Updates as Updates
use Rattle.beam_machine.specs.contracts.action.Updates.TheInside as Updates_inside
use Rattle.beam_machine.specs.contracts.choices.Choices as Choices
use Rattle.beam_machine.specs.contracts.choices.Choices.TheInside as Choices_inside
use Rattle.beam_machine.specs.contracts.choices.ChoiceTable as ChoiceTable
use Rattle.beam_machine.specs.contracts.debug.DebugEvent as DebugEvent
use Rattle.beam_machine.specs.contracts.event.Event as Event
use Rattle.beam_machine.specs.contracts.event.Images as Images
use Rattle.beam_machine.specs.contracts.event.Images.TheInside as Images_inside
use Rattle.beam_machine.specs.contracts.event.SpawnArguments as SpawnArguments
use Rattle.beam_machine.specs.contracts.event.SpawnArguments.TheInside as Terms_inside
use Rattle.beam_machine.specs.contracts.lent.Constant as Constant
use Rattle.beam_machine.specs.contracts.lent.Constant.TheInside as Constant_inside
use Rattle.beam_machine.specs.contracts.lent.MaybeOwned as ConstantKept
use Rattle.beam_machine.specs.contracts.process.Signal as Signal
use Rattle.beam_machine.specs.contracts.process.Status as Status
use Rattle.beam_mailbox.specs.contracts.Mailbox as Mailbox
use Rattle.beam_mailbox.specs.contracts.Mailbox.TheInside as Mailbox_inside
use Rattle.beam_mailbox.specs.contracts.chunk.Chunk as Chunk
use Rattle.beam_mailbox.specs.contracts.chunk.Chunk.TheInside as Chunk_inside
use Rattle.beam_model.proofs.exception.Class.TheSendSync as Class_crossing
use Rattle.beam_model.proofs.exception.Fault.TheSendSync as Fault_crossing
use Rattle.beam_model.proofs.function.Export.TheSendSync as Export_crossing
use Rattle.beam_model.proofs.function.Import.TheSendSync as Import_crossing
use Rattle.beam_model.proofs.native.Native.TheSendSync as Native_crossing
use Rattle.beam_model.proofs.place.Place.TheSendSync as Place_crossing
use Rattle.beam_model.specs.contracts.exception.Exception as Exception
use Rattle.beam_proc.specs.contracts.entry.EntryState as EntryState
use Rattle.beam_proc.specs.contracts.entry.ProcessEntry as ProcessEntry
use Rattle.beam_proc.specs.contracts.entry.ProcessEntry.TheInside as ProcessEntry_inside
use Rattle.beam_proc.specs.contracts.known.Atoms as Atoms
use Rattle.beam_proc.specs.contracts.known.Known as Known
use Rattle.beam_proc.specs.contracts.known.Known.TheInside as Known_inside
use Rattle.beam_proc.specs.contracts.process.Process as Process
use Rattle.beam_proc.specs.contracts.process.Process.TheInside as Process_inside
use Rattle.beam_receipts.proofs.keeper.Keeper.TheSendSync as Keeper_crossing
use Rattle.beam_queue.specs.declared.brand.QueueBrand as QueueBrand
use Rattle.beam_receipts.specs.declared.brand.NodeBrand as NodeBrand
use Rattle.beam_sched.proofs.short_slice_token.ShortSliceToken.TheSendSync as ShortSliceToken_crossing
use Rattle.beam_sched.proofs.journal_usage.JournalUsage.TheSendSync as JournalUsage_crossing
use Rattle.beam_sched.proofs.worker_tally.WorkerTallies.TheSendSync as WorkerTallies_crossing
use Rattle.beam_sched.proofs.command_tally.CommandTally.TheSendSync as CommandTally_crossing
use Rattle.beam_sched.proofs.idle_workers.IdleWorkers.TheSendSync as IdleWorkers_crossing
use Rattle.beam_sched.proofs.scan_state.ScanState.TheSendSync as ScanState_crossing
use Rattle.beam_sched.proofs.queue_states.QueueStates.TheSendSync as QueueStates_crossing
use Rattle.beam_sched.proofs.node_clock.NodeClock.TheSendSync as NodeClock_crossing
use Rattle.beam_sched.proofs.pool.Pool.TheSendSync as Pool_crossing
use Rattle.beam_sched.proofs.scan_hint.ScanHint.TheSendSync as ScanHint_crossing
use Rattle.beam_sched.proofs.thread_context.ThreadContext.TheSendSync as ThreadContext_crossing
use Rattle.beam_sched.specs.contracts.locked_node.LockedNode as LockedNode
use Rattle.beam_sched.specs.contracts.pool.Pool as Pool
use Rattle.beam_sched.specs.contracts.shared.Shared as Shared
use Rattle.beam_sched.specs.contracts.thread_context.ThreadContext as ThreadContext
use Rattle.beam_shared.proofs.checked_out.CheckoutEntry.TheSendSync as CheckoutEntry_crossing
use Rattle.beam_shared.specs.contracts.code_context.ContextParts as ContextParts
use Rattle.beam_shared.specs.contracts.code_context.ContextParts.TheInside as ContextParts_inside
use Rattle.beam_shared.specs.contracts.code_context.CodeContext as CodeContext
use Rattle.beam_shared.specs.contracts.code_context.CodeContext.TheInside as CodeContext_inside
use Rattle.beam_shared.specs.contracts.node.Node as Node
use Rattle.beam_shared.specs.contracts.node.Node.TheInside as Node_inside
use Rattle.beam_stack.specs.contracts.frames.Frames as Frames
use Rattle.beam_stack.specs.contracts.frames.Frames.TheInside as Frames_inside
use Rattle.beam_stack.specs.contracts.word.PackedWord as PackedWord
use Rattle.beam_stack.specs.contracts.word.Word as Word
use Rattle.beam_stack.specs.contracts.word.Word.TheInside as Word_inside
use Rattle.beam_state.proofs.monitor_index.MonitorIndex.TheSendSync as MonitorIndex_crossing
use Rattle.beam_state.specs.contracts.processes.Processes as Processes
use Rattle.beam_state.specs.contracts.processes.Processes.TheInside as Processes_inside
use Rattle.beam_state.specs.contracts.state.State as State
use Rattle.beam_state.specs.contracts.state.State.TheInside as State_inside
use Rattle.beam_term.proofs.atom.Atom.TheSendSync as Atom_crossing
use Rattle.beam_term.proofs.identifier.Pid.TheSendSync as Pid_crossing
use Rattle.beam_term.proofs.identifier.Reference.TheSendSync as Reference_crossing
use Rattle.beam_term.proofs.term.Term.TheLaws.TheKnot as TermKnot
use Rattle.beam_term.specs.contracts.term.Term as Term
use Rattle.beam_watches.specs.contracts.shared_monitors.SharedMonitors as SharedMonitors
use Rattle.beam_watches.specs.contracts.shared_monitors.SharedMonitors.TheInside as SharedMonitors_inside
use Rattle.beam_watches.specs.contracts.segment.Segment as Segment
use Rattle.beam_watches.specs.contracts.segment.Segment.TheInside as Segment_inside
use Rattle.beam_watches.specs.contracts.monitors.Monitors as Monitors
use Rattle.beam_watches.specs.contracts.monitors.Monitors.TheInside as Monitors_inside

bool_send : IsSend (as_row bool-field)
bool_send = search sendable

bool_sync : IsSync (as_row bool-field)
bool_sync = search sendable

i64_send : IsSend (as_row i64-field)
i64_send = search sendable

i64_sync : IsSync (as_row i64-field)
i64_sync = search sendable

u16_send : IsSend (as_row u16-field)
u16_send = search sendable

u16_sync : IsSync (as_row u16-field)
u16_sync = search sendable

u32_send : IsSend (as_row u32-field)
u32_send = search sendable

u32_sync : IsSync (as_row u32-field)
u32_sync = search sendable

u64_send : IsSend (as_row u64-field)
u64_send = search sendable

u8_send : IsSend (as_row u8-field)
u8_send = search sendable

usize_send : IsSend (as_row usize-field)
usize_send = search sendable

usize_sync : IsSync (as_row usize-field)
usize_sync = search sendable

pub Term_send : IsSend Term.the_row
Term_send = TermKnot.both_send-Term i64_send Atom_crossing.the_send (Arc-send _ Reference_crossing.the_send Reference_crossing.the_sync) (Arc-send _ Pid_crossing.the_send Pid_crossing.the_sync) Arc-send u16_send (λ h s y. Vec-send h s)
    i64_sync Atom_crossing.the_sync (Arc-sync _ Reference_crossing.the_send Reference_crossing.the_sync) (Arc-sync _ Pid_crossing.the_send Pid_crossing.the_sync) Arc-sync u16_sync (λ h s y. Vec-sync h y)

pub Term_sync : IsSync Term.the_row
Term_sync = TermKnot.both_sync-Term i64_send Atom_crossing.the_send (Arc-send _ Reference_crossing.the_send Reference_crossing.the_sync) (Arc-send _ Pid_crossing.the_send Pid_crossing.the_sync) Arc-send u16_send (λ h s y. Vec-send h s)
    i64_sync Atom_crossing.the_sync (Arc-sync _ Reference_crossing.the_send Reference_crossing.the_sync) (Arc-sync _ Pid_crossing.the_send Pid_crossing.the_sync) Arc-sync u16_sync (λ h s y. Vec-sync h y)

pub ConstantKept_send : (l : NamedLft) → IsSend (ConstantKept.the_row l)
ConstantKept_send l = let s = Term_send in let y = Term_sync in variants_send (ConstantKept.enum l) ((Term_send, tt), (((search (sendable, crosses) depth 9), tt), tt))

pub Constant_send : (l : NamedLft) → IsSend (Constant.the_row l)
Constant_send l = view_send _ _ _ _ _ (declared_send (Constant_inside.the_type l) (ConstantKept_send l, tt))

pub Source_send : (l : NamedLft) → IsSend (Source.the_row l)
Source_send l = variants_send (Source.enum l) ((Constant_send l, tt), ((u32_send, tt), ((u32_send, tt), tt)))

pub Sources_send : IsSend Sources.the_row
Sources_send = view_send _ _ _ _ _ (declared_send Sources_inside.the_type ((Vec-send _ (Source_send _)), tt))

pub Update_send : IsSend Update.the_row
Update_send = declared_send Update.the_type (u32_send, (Source_send _, tt))

pub Updates_send : IsSend Updates.the_row
Updates_send = view_send _ _ _ _ _ (declared_send Updates_inside.the_type ((Vec-send _ Update_send), tt))

pub Choice_send : IsSend Choice.the_row
Choice_send = declared_send Choice.the_type (Source_send _, ((Option.the_send _ (search sendable)), tt))

pub ChoiceTable_send : IsSend ChoiceTable.the_row
ChoiceTable_send = declared_send ChoiceTable.the_type ((Vec-send _ Choice_send), (bool_send, ((Option.the_send _ ChoiceIndex_crossing.the_send), tt)))

pub Choices_send : IsSend Choices.the_row
Choices_send = view_send _ _ _ _ _ (declared_send Choices_inside.the_type ((Box-send _ ChoiceTable_send), tt))

pub CodeBytes_send : IsSend CodeBytes.the_row
CodeBytes_send = view_send _ _ _ _ _ (declared_send CodeBytes_inside.the_type ((Vec-send _ Atom_crossing.the_send), ((Vec-send _ Term_send), ((Vec-send _ Import_crossing.the_send), ((Vec-send _ Term_send), ((Vec-send _ (search sendable)), (ChunkLayout_crossing.the_send, tt)))))))

pub OperandList_send : IsSend OperandList.the_row
OperandList_send = variants_send OperandList.enum ((Choices_send, tt), ((SizeChoices_crossing.the_send, tt), ((Sources_send, tt), ((Registers_crossing.the_send, tt), ((Updates_send, tt), tt)))))

pub OperandLists_send : IsSend OperandLists.the_row
OperandLists_send = declared_send OperandLists.the_type ((Vec-send _ OperandList_send), ((search (sendable, crosses, BTreeMap.the_send) depth 20), tt))

pub LinkedCode_send : IsSend LinkedCode.the_row
LinkedCode_send = view_send _ _ _ _ _ (declared_send LinkedCode_inside.the_type (CodeBytes_send, ((Vec-send _ Callee_crossing.the_send), (OperandLists_send, (LabelRows_crossing.the_send, ((Vec-send _ (Option.the_send _ Native_crossing.the_send)), tt))))))

pub ImageInner_send : IsSend ImageInner.the_row
ImageInner_send = let b = declared_send ImageInner_inside.the_type (Atom_crossing.the_send, ((Vec-send _ Export_crossing.the_send), (u32_send, (u32_send, (ChunkCopies_crossing.the_send, (LinkedCode_send, (RecordTable_crossing.the_send, (EntryPoints_crossing.the_send, tt)))))))) in search (view_send) depth 9

pub ConstantKept_sync : (l : NamedLft) → IsSync (ConstantKept.the_row l)
ConstantKept_sync l = let s = Term_send in let y = Term_sync in variants_sync (ConstantKept.enum l) ((Term_sync, tt), (((search (sendable, crosses) depth 9), tt), tt))

pub Constant_sync : (l : NamedLft) → IsSync (Constant.the_row l)
Constant_sync l = view_sync _ _ _ _ _ (declared_sync (Constant_inside.the_type l) (ConstantKept_sync l, tt))

pub Source_sync : (l : NamedLft) → IsSync (Source.the_row l)
Source_sync l = variants_sync (Source.enum l) ((Constant_sync l, tt), ((u32_sync, tt), ((u32_sync, tt), tt)))

pub Sources_sync : IsSync Sources.the_row
Sources_sync = view_sync _ _ _ _ _ (declared_sync Sources_inside.the_type ((Vec-sync _ (Source_sync _)), tt))

pub Update_sync : IsSync Update.the_row
Update_sync = declared_sync Update.the_type (u32_sync, (Source_sync _, tt))

pub Updates_sync : IsSync Updates.the_row
Updates_sync = view_sync _ _ _ _ _ (declared_sync Updates_inside.the_type ((Vec-sync _ Update_sync), tt))

pub Choice_sync : IsSync Choice.the_row
Choice_sync = declared_sync Choice.the_type (Source_sync _, ((Option.the_sync _ (search sendable)), tt))

pub ChoiceTable_sync : IsSync ChoiceTable.the_row
ChoiceTable_sync = declared_sync ChoiceTable.the_type ((Vec-sync _ Choice_sync), (bool_sync, ((Option.the_sync _ ChoiceIndex_crossing.the_sync), tt)))

pub Choices_sync : IsSync Choices.the_row
Choices_sync = view_sync _ _ _ _ _ (declared_sync Choices_inside.the_type ((Box-sync _ ChoiceTable_sync), tt))

pub CodeBytes_sync : IsSync CodeBytes.the_row
CodeBytes_sync = view_sync _ _ _ _ _ (declared_sync CodeBytes_inside.the_type ((Vec-sync _ Atom_crossing.the_sync), ((Vec-sync _ Term_sync), ((Vec-sync _ Import_crossing.the_sync), ((Vec-sync _ Term_sync), ((Vec-sync _ (search sendable)), (ChunkLayout_crossing.the_sync, tt)))))))

pub OperandList_sync : IsSync OperandList.the_row
OperandList_sync = variants_sync OperandList.enum ((Choices_sync, tt), ((SizeChoices_crossing.the_sync, tt), ((Sources_sync, tt), ((Registers_crossing.the_sync, tt), ((Updates_sync, tt), tt)))))

pub OperandLists_sync : IsSync OperandLists.the_row
OperandLists_sync = declared_sync OperandLists.the_type ((Vec-sync _ OperandList_sync), ((search (sendable, crosses, BTreeMap.the_sync) depth 20), tt))

pub LinkedCode_sync : IsSync LinkedCode.the_row
LinkedCode_sync = view_sync _ _ _ _ _ (declared_sync LinkedCode_inside.the_type (CodeBytes_sync, ((Vec-sync _ Callee_crossing.the_sync), (OperandLists_sync, (LabelRows_crossing.the_sync, ((Vec-sync _ (Option.the_sync _ Native_crossing.the_sync)), tt))))))

pub ImageInner_sync : IsSync ImageInner.the_row
ImageInner_sync = let b = declared_sync ImageInner_inside.the_type (Atom_crossing.the_sync, ((Vec-sync _ Export_crossing.the_sync), (u32_sync, (u32_sync, (ChunkCopies_crossing.the_sync, (LinkedCode_sync, (RecordTable_crossing.the_sync, (EntryPoints_crossing.the_sync, tt)))))))) in search (view_sync) depth 9

pub Image_send : IsSend Image.the_row
Image_send = view_send _ _ _ _ _ (declared_send Image_inside.the_type ((Arc-send _ ImageInner_send ImageInner_sync), tt))

pub Instance_send : IsSend Instance.the_row
Instance_send = view_send _ _ _ _ _ (declared_send Instance_inside.the_type (u32_send, (Image_send, tt)))

pub Versions_send : IsSend Versions.the_row
Versions_send = view_send _ _ _ _ _ (declared_send Versions_inside.the_type ((Option.the_send _ Instance_send), ((Option.the_send _ Instance_send), tt)))

pub CodeTable_send : IsSend CodeTable.the_row
CodeTable_send = view_send _ _ _ _ _ (declared_send CodeTable_inside.the_type ((let k = Atom_crossing.the_send in let v = Versions_send in search (sendable, crosses, IndexMap.the_send) depth 20), ((let v = Image_send in search (sendable, crosses, IndexMap.the_send) depth 20), tt)))

pub PackedWord_send : IsSend PackedWord.the_row
PackedWord_send = variants_send PackedWord.enum ((bool_send, tt), ((bool_send, (u32_send, (usize_send, (u32_send, tt)))), ((Term_send, tt), ((u32_send, (u32_send, (usize_send, tt))), tt))))

pub Word_send : IsSend Word.the_row
Word_send = view_send _ _ _ _ _ (declared_send Word_inside.the_type (PackedWord_send, tt))

pub Frames_send : IsSend Frames.the_row
Frames_send = view_send _ _ _ _ _ (declared_send Frames_inside.the_type ((Vec-send _ Word_send), (usize_send, tt)))

pub Chunk_send : IsSend Chunk.the_row
Chunk_send = view_send _ _ _ _ _ (declared_send Chunk_inside.the_type ((Arc-send _ (Vec-send _ Term_send) (Vec-sync _ Term_sync)), ((Vec-send _ (search sendable)), tt)))

pub Mailbox_send : IsSend Mailbox.the_row
Mailbox_send = view_send _ _ _ _ _ (declared_send Mailbox_inside.the_type ((Deque-send _ Chunk_send), ((Deque-send _ Term_send), (usize_send, (usize_send, (usize_send, (usize_send, tt)))))))

pub Signal_send : IsSend Signal.the_row
Signal_send = variants_send Signal.enum ((Term_send, tt), ((u32_send, (Term_send, tt)), ((u32_send, (Term_send, tt)), tt)))

pub SharedMonitors_send : IsSend SharedMonitors.the_row
SharedMonitors_send = let s = Term_send in let y = Term_sync in view_send _ _ _ _ _ (declared_send SharedMonitors_inside.the_type ((search (sendable, crosses) depth 20), ((Vec-send _ (search sendable)), (usize_send, tt))))

pub Segment_send : IsSend Segment.the_row
Segment_send = view_send _ _ _ _ _ (declared_send Segment_inside.the_type ((Option.the_send _ SharedMonitors_send), tt))

pub Monitors_send : IsSend Monitors.the_row
Monitors_send = view_send _ _ _ _ _ (declared_send Monitors_inside.the_type (Global.the_send, (Segment_send, (Segment_send, tt))))

pub Exception_send : IsSend Exception.the_row
Exception_send = variants_send Exception.enum ((Fault_crossing.the_send, tt), ((Class_crossing.the_send, (Term_send, tt)), tt))

pub Status_send : IsSend Status.the_row
Status_send = variants_send Status.enum (tt, (tt, ((Term_send, (Term_send, tt)), tt)))

pub Atoms_send : IsSend Atoms.the_row
Atoms_send = declared_send Atoms.the_type (Term_send, (Term_send, (Term_send, (Term_send, (Atom_crossing.the_send, tt)))))

pub Atoms_sync : IsSync Atoms.the_row
Atoms_sync = declared_sync Atoms.the_type (Term_sync, (Term_sync, (Term_sync, (Term_sync, (Atom_crossing.the_sync, tt)))))

pub Known_send : IsSend Known.the_row
Known_send = view_send _ _ _ _ _ (declared_send Known_inside.the_type ((Arc-send _ Atoms_send Atoms_sync), tt))

pub Process_send : IsSend Process.the_row
Process_send = view_send _ _ _ _ _ (declared_send Process_inside.the_type (Global.the_send, (u32_send, ((Option.the_send _ Atom_crossing.the_send), ((Vec-send _ Term_send), (Frames_send, (Goes_crossing.the_send, (Mailbox_send, ((Vec-send _ Signal_send), ((Option.the_send _ Deadline_crossing.the_send), ((Option.the_send _ Exception_send), (Status_send, (Monitors_send, (Term_send, (Known_send, tt)))))))))))))))

pub EntryState_send : IsSend EntryState.the_row
EntryState_send = variants_send EntryState.enum (((Box-send _ Process_send), tt), ((u32_send, (Term_send, (Term_send, tt))), tt))

pub ProcessEntry_send : IsSend ProcessEntry.the_row
ProcessEntry_send = view_send _ _ _ _ _ (declared_send ProcessEntry_inside.the_type (EntryState_send, tt))

pub Flags_send : IsSend Flags.the_row
Flags_send = FlagsKnot.send-Flags Global.the_send (Vec-send _ u8_send) Box-send

pub Times_send : IsSend Times.the_row
Times_send = TimesKnot.send-Times Global.the_send (Vec-send _ (Option.the_send _ u64_send)) Box-send

pub Agenda_send : IsSend Agenda.the_row
Agenda_send = view_send _ _ _ _ _ (declared_send Agenda_inside.the_type (Flags_send, (Times_send, ((Option.the_send _ u64_send), tt))))

pub Processes_send : IsSend Processes.the_row
Processes_send = let b = declared_send Processes_inside.the_type ((Vec-send _ ProcessEntry_send), ((let k = Atom_crossing.the_send in search (sendable, crosses, IndexMap.the_send) depth 20), (Agenda_send, (MonitorIndex_crossing.the_send, (bool_send, ((Option.the_send _ Known_send), tt)))))) in search (view_send) depth 9

pub State_send : IsSend State.the_row
State_send = view_send _ _ _ _ _ (declared_send State_inside.the_type (Global.the_send, (Processes_send, (u64_send, (u32_send, (u32_send, tt))))))

pub Core_send : IsSend Core.the_row
Core_send = view_send _ _ _ _ _ (declared_send Core_inside.the_type (Global.the_send, (CodeTable_send, (State_send, tt))))

pub Debugger_send : IsSend Debugger.the_row
Debugger_send = view_send _ _ _ _ _ (declared_send Debugger_inside.the_type (Global.the_send, (Core_send, (DebugState_crossing.the_send, tt))))

pub Terms_send : IsSend SpawnArguments.the_row
Terms_send = view_send _ _ _ _ _ (declared_send Terms_inside.the_type ((Vec-send _ Term_send), tt))

pub Images_send : (I : RattleType) → IsSend I → IsSend (Images.the_row I)
Images_send I i-send = view_send _ _ _ _ _ (declared_send (Images_inside.the_type I) ((Vec-send _ i-send), tt))

pub Event_send : (I : RattleType) → IsSend I → IsSend (Event.the_row I)
Event_send I i-send = variants_send (Event.enum I) (((as_row_send (row_field I) i-send), tt), (((as_row_send (row_field I) i-send), tt), ((UpgradeMode_crossing.the_send, ((as_row_send (row_field (Images.the_row I)) (Images_send I i-send)), tt)), ((Atom_crossing.the_send, tt), ((Atom_crossing.the_send, tt), ((Atom_crossing.the_send, tt), ((Atom_crossing.the_send, tt), ((Atom_crossing.the_send, (Atom_crossing.the_send, (Terms_send, tt))), ((Term_send, (Term_send, tt)), ((u32_send, (u32_send, tt)), ((u32_send, tt), ((u64_send, tt), ((u32_send, tt), tt)))))))))))))

pub DebugEvent_send : (I : RattleType) → IsSend I → IsSend (DebugEvent.the_row I)
DebugEvent_send I i-send = variants_send (DebugEvent.enum I) (((Event_send _ i-send), tt), ((Spot_crossing.the_send, tt), ((Spot_crossing.the_send, tt), ((u32_send, tt), ((u32_send, tt), ((u32_send, tt), tt))))))

pub Entry_send : IsSend Entry.the_row
Entry_send = view_send _ _ _ _ _ (declared_send Entry_inside.the_type ((DebugEvent_send _ Image_send), ((Option.the_send _ (search sendable)), tt)))

-- it has no bytes and owns nothing
DrainedEvents_send : IsSend DrainedEvents.the_row
DrainedEvents_send = owner_send DrainedEvents.the_type tt (λ d. tt) (λ k x w. tt)

pub NodeJournal_send : IsSend NodeJournal.the_row
NodeJournal_send = view_send _ _ _ _ _ (declared_send NodeJournal_inside.the_type (Global.the_send, (DrainedEvents_send, (u64_send, ((Vec-send _ Entry_send), (u32_send, (EntryCounts_crossing.the_send, tt)))))))

pub ContextParts_send : IsSend ContextParts.the_row
ContextParts_send = let b = declared_send ContextParts_inside.the_type (CodeTable_send, ((Vec-send _ Place_crossing.the_send), tt)) in search (view_send) depth 9

pub Image_sync : IsSync Image.the_row
Image_sync = view_sync _ _ _ _ _ (declared_sync Image_inside.the_type ((Arc-sync _ ImageInner_send ImageInner_sync), tt))

pub Instance_sync : IsSync Instance.the_row
Instance_sync = view_sync _ _ _ _ _ (declared_sync Instance_inside.the_type (u32_sync, (Image_sync, tt)))

pub Versions_sync : IsSync Versions.the_row
Versions_sync = view_sync _ _ _ _ _ (declared_sync Versions_inside.the_type ((Option.the_sync _ Instance_sync), ((Option.the_sync _ Instance_sync), tt)))

pub CodeTable_sync : IsSync CodeTable.the_row
CodeTable_sync = view_sync _ _ _ _ _ (declared_sync CodeTable_inside.the_type ((let k = Atom_crossing.the_sync in let v = Versions_sync in search (sendable, crosses, IndexMap.the_sync) depth 20), ((let v = Image_sync in search (sendable, crosses, IndexMap.the_sync) depth 20), tt)))

pub ContextParts_sync : IsSync ContextParts.the_row
ContextParts_sync = let b = declared_sync ContextParts_inside.the_type (CodeTable_sync, ((Vec-sync _ Place_crossing.the_sync), tt)) in search (view_sync) depth 9

pub CodeContext_send : IsSend CodeContext.the_row
CodeContext_send = let b = declared_send CodeContext_inside.the_type ((Arc-send _ ContextParts_send ContextParts_sync), tt) in search (view_send) depth 9

pub Node_send : (B : RattleType) (g : NodeBrand.Ghosts B.Denot) → IsSend (Node.the_row B g)
Node_send B g = view_send _ _ _ _ _ (declared_send (Node_inside.the_type B g) (Global.the_send, (Debugger_send, (NodeJournal_send, ((Keeper_crossing.the_send B g), ((Vec-send _ CheckoutEntry_crossing.the_send), (u64_send, ((Option.the_send _ CodeContext_send), tt))))))))

pub LockedNode_send : (B : RattleType) (g : NodeBrand.Ghosts B.Denot) → IsSend (LockedNode.the_row B g)
LockedNode_send B g = declared_send (LockedNode.the_type B g) (Node_send B g, (QueueStates_crossing.the_send, (ScanState_crossing.the_send, tt)))

pub Shared_sync : (B : RattleType) (g : NodeBrand.Ghosts B.Denot) → IsSync (Shared.the_row B g)
Shared_sync B g = let m = LockedNode_send B g in declared_sync (Shared.the_type B g) (search crosses, (ScanHint_crossing.the_sync, (IdleWorkers_crossing.the_sync, (ShortSliceToken_crossing.the_sync, (NodeClock_crossing.the_sync, (JournalUsage_crossing.the_sync, (u32_sync, (WorkerTallies_crossing.the_sync, (CommandTally_crossing.the_sync, tt)))))))))

-- the thread contexts of workers, and of senders of commands
pub ThreadContexts_sync : (B : RattleType) (g : NodeBrand.Ghosts B.Denot) (q : QueueBrand.Ghosts B.Denot) → IsSync (Pool.the_row (ThreadContext.the_row B g q))
ThreadContexts_sync B g q = Pool_crossing.the_sync _ (ThreadContext_crossing.the_send B g q)
