use Rattle.std.proofs.Common.{ℕ, ◌+◌, ◌*◌, ◌/◌, ◌∙◌, length-take, arith}
use Rattle.beam_agenda.proofs.Counting.{found, passed, ended}
use Rattle.beam_agenda.proofs.flags.first_in_group.Goals as goal

pub returns-then-numbers-at-ne0 : goal.returns-then-numbers-at-ne0
returns-then-numbers-at-ne0 c = found (16 * (c.args.from / 16) + 16) c.loop-at.at c.args.numbers.now (omega arith) (omega arith) c.if-numbers-at-ne0.true ∙ c.loop-at.invariant

pub loop-at-preserved : goal.loop-at-preserved
loop-at-preserved c = passed (16 * (c.args.from / 16) + 16) c.loop-at.at c.args.numbers.now (omega arith) (omega arith) c.if-numbers-at-ne0.false ∙ c.loop-at.invariant

pub returns : goal.returns
returns c =
    let end : ℕ = 16 * (c.args.from / 16) + 16 in
    ended end c.loop-at.at c.args.numbers.now (omega (arith, length-take end c.args.numbers.now)) ∙ c.loop-at.invariant
