use Rattle.std.proofs.Common.{take, subst, sym, take_all}
use Rattle.std.proofs.lemmas.List.Elements.{All-more, All-same}
use Rattle.beam_term.specs.Prelude.{IsTerm}
use Rattle.beam_asm.proofs.asm.are_terms.Goals as goal

pub loop-literal-preserved : goal.loop-literal-preserved
loop-literal-preserved c =
    All-more IsTerm c.args.literals.now c.loop-literal.literal-index c.literal-item.result c.loop-literal-test.true c.loop-literal.invariant (subst IsTerm c.literal-item.is c.depth-lawful.ensures.lawful)

pub returns : goal.returns
returns c =
    let i = c.loop-literal.literal-index in
    All-same IsTerm c.args.literals.now (take i c.args.literals.now) (sym (take_all i c.args.literals.now c.loop-literal-test.false)) c.loop-literal.invariant
