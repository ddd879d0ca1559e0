use Rattle.std.proofs.Common.{◌≡◌, ◌≤◌, ◌+◌, ◌++◌, reverse, vec_len}
use Rattle.std.specs.VecDeque.{deque_len, deque_capacity}
use Rattle.beam_mailbox.specs.Messages.{messages_of}
use Rattle.beam_mailbox.proofs.deliveries.append_all.Given as goal

abbrev pub invariant-loop-signal : goal.invariant-loop-signal
invariant-loop-signal l = record {
  moved : l.messages.items ++ messages_of (reverse l.signals.items) ≡ l.fn.messages.items ++ messages_of l.fn.signals.items;
  room : deque_len l.messages + vec_len l.signals ≤ deque_capacity l.messages;
}

abbrev pub decreases-loop-signal : goal.decreases-loop-signal
decreases-loop-signal l = vec_len l.signals
