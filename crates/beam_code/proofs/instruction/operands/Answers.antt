use Rattle.std.proofs.Common.{arith}
use Rattle.std.proofs.lemmas.Result.{err_from_is_err_and}
use Rattle.beam_model.specs.Prelude.{operands_at}
use Rattle.beam_code.specs.Prelude.{put_last}
use Rattle.beam_code.proofs.Loops.{operand_more, operand_fails, operands_done}
use Rattle.beam_code.proofs.instruction.operands.Goals as goal

pub returns-in_err-operand-clause-exact : goal.returns-in_err-operand-clause-exact
returns-in_err-operand-clause-exact c =
    let p = err_from_is_err_and c.from_residual.result c.from_residual.ensures.1 in
    rw (p.1, p.2) (operand_fails c.in_err-operand.field-0.0 c.args.atoms.now c.args.imports.now c.args.literals.now c.args.code.now c.args.kinds.now c.loop-kind.kind-index _ c.loop-kind.next c.loop-kind.pool.items
    (put_last c.args.pool.now.items (operands_at c.args.atoms.now c.args.imports.now c.args.literals.now c.args.code.now c.args.kinds.now c.args.at)) c.loop-kind-test.true c.in_err-operand.ensures.exact c.loop-kind.invariant.read)

pub loop-kind-preserved : goal.loop-kind-preserved
loop-kind-preserved c =
    let e = c.in_ok-operand.ensures in
    record {
      low = omega (arith, e.next.0, c.loop-kind.invariant.low);
      high = e.next.1;
      read = rw c.in_ok-push.ensures.items (operand_more c.args.atoms.now c.args.imports.now c.args.literals.now c.args.code.now c.args.kinds.now c.loop-kind.kind-index _ c.loop-kind.next c.in_ok-operand.behind c.loop-kind.pool.items c.in_ok-operand.operand
          (put_last c.args.pool.now.items (operands_at c.args.atoms.now c.args.imports.now c.args.literals.now c.args.code.now c.args.kinds.now c.args.at)) c.loop-kind-test.true e.exact c.loop-kind.invariant.read);
    }

pub returns-clause-exact : goal.returns-clause-exact
returns-clause-exact c =
    operands_done c.args.atoms.now c.args.imports.now c.args.literals.now c.args.code.now c.args.kinds.now c.loop-kind.kind-index c.loop-kind.next c.loop-kind.pool.items
    (put_last c.args.pool.now.items (operands_at c.args.atoms.now c.args.imports.now c.args.literals.now c.args.code.now c.args.kinds.now c.args.at)) c.loop-kind-test.false c.loop-kind.invariant.read
