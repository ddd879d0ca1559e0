use Rattle.std.proofs.Common.{◌≡◌, ◌≤◌, ◌+◌, ◌-◌, ◌++◌, replicate, vec_len, vec_capacity}
use Rattle.beam_term.specs.Prelude.{nil_term}
use Rattle.beam_stack.specs.Word as word
use Rattle.beam_stack.proofs.word.push_nils.Given as goal

abbrev pub invariant-loop-done : goal.invariant-loop-done
invariant-loop-done l = record {
  items : l.words.items ≡ l.fn.words.items ++ replicate l._done (word.Value nil_term);
  room : vec_len l.words + (l.count - l._done) ≤ vec_capacity l.words;
}
