use Rattle.std.proofs.Common.{drop, map}
use Rattle.beam_machine.specs.Prelude.{sent_event_of}
use Rattle.beam_disk_journal.proofs.WrittenEntries.{page_written}
use Rattle.beam_disk_journal.proofs.node_file.NodeFile.write.Goals as goal

pub invariant_of-self : goal.invariant_of-self
invariant_of-self g c =
    let i = c.self.inside in
    page_written c.write.result (map sent_event_of i.receipt) i.writer c.write.new.self (drop i.next i.left.items)
    c.write.ensures.written c.write.ensures.count c.write.ensures.kept c.write.ensures.page c.self.invariant
