use Rattle.std.proofs.Common.{arith}
use Rattle.std.specs.Int.{w64}
use Rattle.std.proofs.lemmas.Int.{ints, to_z-of_z}
use Rattle.beam_etf.proofs.Integers.{small_is, word_below, word_above, big_below, big_above}
use Rattle.beam_etf.proofs.writing.write_integer.Goals as goal

pub returns-then-n : goal.returns-then-n
returns-then-n c = rw (big_below c.args.n (omega (arith, ints))) (rw (to_z-of_z w64 c.args.n c.ranges.n) at c.write_big.ensures)

pub returns-then-n-lt0 : goal.returns-then-n-lt0
returns-then-n-lt0 c = rw (word_below c.args.n (omega (arith, ints)) (omega (arith, ints))) (rw (to_z-of_z w64 c.args.n c.ranges.n) at c.write_word.ensures)

pub returns-then-n-lt256 : goal.returns-then-n-lt256
returns-then-n-lt256 c = rw (small_is c.args.n (omega (arith, ints)) (omega (arith, ints))) (rw (to_z-of_z w64 c.args.n c.ranges.n) at c.write_small.ensures)

pub returns-then-n-2 : goal.returns-then-n-2
returns-then-n-2 c = rw (word_above c.args.n (omega (arith, ints)) (omega (arith, ints))) (rw (to_z-of_z w64 c.args.n c.ranges.n) at c.write_word-then-n-2.ensures)

pub returns-else-n-2 : goal.returns-else-n-2
returns-else-n-2 c = rw (big_above c.args.n (omega (arith, ints))) (rw (to_z-of_z w64 c.args.n c.ranges.n) at c.write_big-else-n-2.ensures)
