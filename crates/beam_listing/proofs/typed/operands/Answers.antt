use Rattle.std.proofs.Common.{take, subst, sym, take_all}
use Rattle.std.proofs.lemmas.List.Elements.{All-more, All-same}
use Rattle.beam_listing.specs.Typed.{IsOperand}
use Rattle.beam_listing.proofs.typed.operands.Goals as goal

pub loop-one-preserved : goal.loop-one-preserved
loop-one-preserved c =
    All-more IsOperand c.args.operands.now c.loop-one.one-index c.one-item.result c.loop-one-test.true c.loop-one.invariant (subst IsOperand c.one-item.is c.operand.ensures)

pub returns : goal.returns
returns c =
    let i = c.loop-one.one-index in
    All-same IsOperand c.args.operands.now (take i c.args.operands.now) (sym (take_all i c.args.operands.now c.loop-one-test.false)) c.loop-one.invariant
