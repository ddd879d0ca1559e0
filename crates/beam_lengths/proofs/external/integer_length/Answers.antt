use Rattle.std.proofs.Common.{arith}
use Rattle.std.specs.Int.{w64}
use Rattle.std.proofs.lemmas.Int.{ints, to_z-of_z}
use Rattle.beam_lengths.proofs.Forms.{length_below, length_above, length_small, length_word_below, length_word_above}
use Rattle.beam_lengths.proofs.external.integer_length.Goals as goal

pub returns-then-n : goal.returns-then-n
returns-then-n c =
    let is = rw (to_z-of_z w64 c.args.n c.ranges.n) at c.big_length.ensures.value in
    omega (arith, is, length_below c.args.n (omega (arith, ints)) (omega (arith, is, c.big_length.ensures.few)))

pub returns-then-n-lt0 : goal.returns-then-n-lt0
returns-then-n-lt0 c = omega (arith, length_word_below c.args.n (omega (arith, ints)) (omega (arith, ints)))

pub returns-then-n-lt256 : goal.returns-then-n-lt256
returns-then-n-lt256 c = omega (arith, length_small c.args.n (omega (arith, ints)) (omega (arith, ints)))

pub returns-then-n-2 : goal.returns-then-n-2
returns-then-n-2 c = omega (arith, length_word_above c.args.n (omega (arith, ints)) (omega (arith, ints)))

pub returns-else-n-2 : goal.returns-else-n-2
returns-else-n-2 c =
    let is = rw (to_z-of_z w64 c.args.n c.ranges.n) at c.big_length-else-n-2.ensures.value in
    omega (arith, is, length_above c.args.n (omega (arith, ints)) (omega (arith, is, c.big_length-else-n-2.ensures.few)))
