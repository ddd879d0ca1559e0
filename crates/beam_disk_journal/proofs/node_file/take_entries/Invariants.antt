use Rattle.std.proofs.Common.{◌≡◌, ◌-◌, List, drop, length}
use Rattle.beam_machine.specs.Prelude.{SentEvent}
use Rattle.beam_disk_journal.specs.WrittenEntries.{HasAllBut}
use Rattle.beam_disk_journal.proofs.node_file.take_entries.Given as goal

abbrev pub invariant-loop-next : goal.invariant-loop-next
invariant-loop-next g l = record {
  taken : (sent : List SentEvent) → HasAllBut sent l.initial.writer (drop l.initial.next l.entries) → HasAllBut sent l.writer (drop l.next l.entries);
  file : (l.writer.file ≡ l.initial.writer.file) × (l.writer.written ≡ l.initial.writer.written);
}

abbrev pub decreases-loop-next : goal.decreases-loop-next
decreases-loop-next g l = length l.entries - l.next
