use Rattle.std.proofs.Common.{◌≡◌, ◌≤◌, length, drop}
use Rattle.beam_model.specs.Prelude.{operands_at}
use Rattle.beam_code.specs.Prelude.{put_last}
use Rattle.beam_code.proofs.instruction.operands.Given as goal

abbrev pub invariant-loop-kind : goal.invariant-loop-kind
invariant-loop-kind l = record {
  low : l.at ≤ l.next;
  high : l.next ≤ length l.code;
  read : put_last l.pool.items (operands_at l.atoms l.imports l.literals l.code (drop l.kind-index l.kinds) l.next) ≡ put_last l.initial.pool.items (operands_at l.atoms l.imports l.literals l.code l.kinds l.at);
}
