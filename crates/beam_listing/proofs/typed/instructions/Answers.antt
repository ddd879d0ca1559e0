use Rattle.std.proofs.Common.{take, subst, sym, take_all}
use Rattle.std.proofs.lemmas.List.Elements.{All-more, All-same}
use Rattle.beam_listing.specs.Typed.{AreOperands, IsOperand}
use Rattle.beam_listing.proofs.typed.instructions.Goals as goal

pub loop-instruction-preserved : goal.loop-instruction-preserved
loop-instruction-preserved c =
    All-more AreOperands c.args.instructions.now c.loop-instruction.instruction-index c.instruction-item.result c.loop-instruction-test.true c.loop-instruction.invariant (subst AreOperands c.instruction-item.is (All-same IsOperand c.instruction-item.result.operands c.as_slice.result.now (sym c.as_slice.ensures) c.operands.ensures))

pub returns : goal.returns
returns c =
    let i = c.loop-instruction.instruction-index in
    All-same AreOperands c.args.instructions.now (take i c.args.instructions.now) (sym (take_all i c.args.instructions.now c.loop-instruction-test.false)) c.loop-instruction.invariant
