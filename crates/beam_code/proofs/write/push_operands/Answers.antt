use Rattle.std.proofs.Common.{ap}
use Rattle.std.proofs.lemmas.List.{nil_from_length}
use Rattle.std.proofs.lemmas.Result.{err_from_is_err_and}
use Rattle.beam_model.specs.Prelude.{operand_bytes, operands_bytes}
use Rattle.beam_code.proofs.Written.{goes_on, stops, finishes}
use Rattle.beam_code.proofs.write.push_operands.Goals as goal

pub returns-in_err-push_operand : goal.returns-in_err-push_operand
unfolding operands_bytes
returns-in_err-push_operand c =
    let p = err_from_is_err_and c.from_residual.result c.from_residual.ensures.1 in
    rw (p.1, p.2) (stops c.in_err-push_operand.field-0.0 c.loop-operand.out.items c.args.out.now.items (operand_bytes c.args.numbering.now c.in-Some.operand.now) (operands_bytes c.args.numbering.now c.in-Some.others.now) (operands_bytes c.args.numbering.now c.loop-operand.rest.now) (operands_bytes c.args.numbering.now c.args.operands.now) (ap (operands_bytes c.args.numbering.now) c.in-Some.ensures.cases.0) c.in_err-push_operand.ensures c.loop-operand.invariant)

pub loop-operand-preserved : goal.loop-operand-preserved
unfolding operands_bytes
loop-operand-preserved c =
    goes_on c.loop-operand.out.items c.push_operand.new.out.items c.args.out.now.items (operand_bytes c.args.numbering.now c.in-Some.operand.now) (operands_bytes c.args.numbering.now c.in-Some.others.now) (operands_bytes c.args.numbering.now c.loop-operand.rest.now) (operands_bytes c.args.numbering.now c.args.operands.now) (ap (operands_bytes c.args.numbering.now) c.in-Some.ensures.cases.0) c.in_ok-push_operand.ensures c.loop-operand.invariant

pub returns : goal.returns
unfolding operands_bytes
returns c = finishes c.loop-operand.out.items c.args.out.now.items (operands_bytes c.args.numbering.now c.loop-operand.rest.now) (operands_bytes c.args.numbering.now c.args.operands.now) (ap (operands_bytes c.args.numbering.now) (nil_from_length c.loop-operand.rest.now c.in_default.ensures.cases)) c.loop-operand.invariant
