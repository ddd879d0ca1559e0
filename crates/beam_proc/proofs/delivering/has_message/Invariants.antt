use Rattle.std.proofs.Common.{◌≡◌, length}
use Rattle.beam_machine.specs.declared.process.Status.{Status}
use Rattle.beam_mailbox.specs.Messages.{messages_of}
use Rattle.beam_proc.specs.Prelude.{woken}
use Rattle.beam_proc.proofs.delivering.has_message.Given as goal

abbrev pub invariant-loop-signal : goal.invariant-loop-signal
invariant-loop-signal l = (status : Status) → woken (messages_of l.rest) status ≡ woken (messages_of l.fn.signals) status

abbrev pub decreases-loop-signal : goal.decreases-loop-signal
decreases-loop-signal l = length l.rest
