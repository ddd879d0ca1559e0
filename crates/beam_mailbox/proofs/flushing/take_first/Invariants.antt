use Rattle.std.proofs.Common.{◌≡◌, ◌-◌, length}
use Rattle.beam_machine.specs.Prelude.{is_of_reference}
use Rattle.beam_model.specs.Prelude.{without_first}
use Rattle.beam_mailbox.proofs.Flushed.{from}
use Rattle.beam_mailbox.proofs.flushing.take_first.Given as goal

abbrev pub invariant-loop-mailbox : goal.invariant-loop-mailbox
invariant-loop-mailbox l = from (is_of_reference l.reference) l.mailbox.position l.mailbox.messages ≡ without_first (is_of_reference l.fn.reference) l.fn.mailbox.messages

abbrev pub decreases-loop-mailbox : goal.decreases-loop-mailbox
decreases-loop-mailbox l = length l.mailbox.messages - l.mailbox.position
