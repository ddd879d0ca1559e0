use Rattle.std.proofs.Common.{◌≡◌, ◌≤◌, ◌+◌, ◌-◌, ◌++◌, drop, length, vec_len, vec_capacity}
use Rattle.beam_stack.proofs.word.copy_words.Given as goal

abbrev pub invariant-loop-word : goal.invariant-loop-word
invariant-loop-word l = record {
  copies : l.copies.items ++ drop l.word-index l.words ≡ l.words;
  room : vec_len l.copies + (length l.words - l.word-index) ≤ vec_capacity l.copies;
}
