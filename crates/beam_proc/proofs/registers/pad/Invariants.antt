use Rattle.std.proofs.Common.{◌≡◌, ◌+◌, ◌++◌, replicate, vec_len, vec_capacity}
use Rattle.beam_term.specs.Prelude.{nil_term}
use Rattle.beam_proc.proofs.registers.pad.Given as goal

abbrev pub invariant-loop-done : goal.invariant-loop-done
invariant-loop-done l = record {
  items : l.x.items ≡ l.fn.x.items ++ replicate l._done nil_term;
  len : vec_len l.x ≡ vec_len l.fn.x + l._done;
  capacity : vec_capacity l.x ≡ vec_capacity l.fn.x;
}
