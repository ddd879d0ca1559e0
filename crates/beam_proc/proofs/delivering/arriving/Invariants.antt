use Rattle.std.proofs.Common.{◌≡◌, ◌++◌, length}
use Rattle.beam_mailbox.specs.Messages.{messages_of}
use Rattle.beam_proc.specs.Prelude.{arriving, but_of}
use Rattle.beam_proc.proofs.delivering.arriving.Given as goal

abbrev pub invariant-loop-signal : goal.invariant-loop-signal
invariant-loop-signal l = messages_of l.messages.items ++ arriving (but_of l.seen.keys l.fn.monitors) l.rest ≡ arriving l.fn.monitors l.fn.signals

abbrev pub decreases-loop-signal : goal.decreases-loop-signal
decreases-loop-signal l = length l.rest
