use Rattle.std.proofs.Common.{List, drop, map, subst, sym}
use Rattle.beam_machine.specs.Prelude.{SentEvent, sent_event_of}
use Rattle.beam_disk_journal.specs.WrittenEntries.{HasAllBut}
use Rattle.beam_disk_journal.proofs.node_file.NodeFile.fill.Goals as goal

pub invariant_of-self : goal.invariant_of-self
invariant_of-self g c =
    let i = c.self.inside in
    let sent : List SentEvent = map sent_event_of i.receipt in
    subst (λ (left : List SentEvent). HasAllBut sent c.take_entries.new.writer (drop c.take_entries.new.next left)) c.deref.ensures.value
    (c.take_entries.ensures.taken sent (subst (λ (left : List SentEvent). HasAllBut sent i.writer (drop i.next left)) (sym c.deref.ensures.value) c.self.invariant))
