use Rattle.std.proofs.Common.{◌≡◌, ◌≤◌, ◌+◌, ◌-◌, ◌++◌, vec_len}
use Rattle.std.specs.VecDeque.{deque_len}
use Rattle.std.specs.Vec.{vec_capacity}
use Rattle.beam_mailbox.proofs.chunk.move_first.Given as goal

abbrev pub invariant-loop-queue : goal.invariant-loop-queue
invariant-loop-queue l = record {
  moved : l.messages.items ++ l.queue.items ≡ l.fn.queue.items;
  enough : 256 ≤ vec_len l.messages + deque_len l.queue;
  at_most : vec_len l.messages ≤ 256;
  room : 256 ≤ vec_capacity l.messages;
}

abbrev pub decreases-loop-queue : goal.decreases-loop-queue
decreases-loop-queue l = 256 - vec_len l.messages
