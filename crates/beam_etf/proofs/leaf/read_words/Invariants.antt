use Rattle.std.proofs.Common.{◌≡◌, ◌-◌, vec_len}
use Rattle.beam_model.specs.Prelude.{words_at}
use Rattle.beam_etf.proofs.Words.{before_words}
use Rattle.beam_etf.proofs.leaf.read_words.Given as goal

-- the words so far, and then those of the rest, are the result
abbrev pub invariant-loop : goal.invariant-loop
invariant-loop l = (vec_len l.words ≡ l.counter) × (before_words l.words.items (words_at (l.fn.count - l.counter) l.rest) ≡ words_at l.fn.count l.fn.bytes)
