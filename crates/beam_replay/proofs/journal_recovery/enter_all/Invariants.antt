use Rattle.std.proofs.Common.{map}
use Rattle.beam_journal_file.specs.JournalRead.{HasRead, ReadsOn}
use Rattle.beam_machine.specs.Prelude.{sent_event_of}
use Rattle.beam_recall.specs.Recalling.{AreNumbered}
use Rattle.beam_replay.proofs.journal_recovery.enter_all.Given as goal

abbrev pub invariant-loop : goal.invariant-loop
invariant-loop g l = record {
  numbered : AreNumbered l.node.seats l.seats.items;
  read : HasRead l.initial.reader (map sent_event_of l.initial.node.journal) → HasRead l.reader (map sent_event_of l.node.journal);
  on : ReadsOn l.initial.reader l.reader;
}
