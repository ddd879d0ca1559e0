use Rattle.std.proofs.lemmas.Result.{err_from_is_err_and}
use Rattle.beam_operand.proofs.Writing.{starts, goes_on, fails, finishes, begins}
use Rattle.beam_operand.proofs.write.push_members.Goals as goal

pub loop-member-init : goal.loop-member-init
loop-member-init c = starts c.args.out.now.items c.args.members.now

pub loop-member-preserved : goal.loop-member-preserved
loop-member-preserved c =
    goes_on c.args.out.now.items c.loop-member.out.items c.push_single.new.out.items c.args.members.now c.loop-member.member-index _ c.loop-member-test.true c.loop-member.invariant c.in_ok-push_single.ensures.ok

pub returns-in_err-push_single-clause-fault : goal.returns-in_err-push_single-clause-fault
returns-in_err-push_single-clause-fault c =
    let p = err_from_is_err_and c.from_residual.result c.from_residual.ensures.1 in
    rw (p.1, p.2) (fails c.in_err-push_single.field-0.0 c.args.out.now.items c.loop-member.out.items c.args.members.now c.loop-member.member-index _ c.loop-member-test.true c.loop-member.invariant c.in_err-push_single.ensures.fault)

pub returns-in_err-push_single-clause-err : goal.returns-in_err-push_single-clause-err
returns-in_err-push_single-clause-err c =
    let p = err_from_is_err_and c.from_residual.result c.from_residual.ensures.1 in
    rw p.1 (begins _ _ _ _ _ c.loop-member.invariant c.in_err-push_single.ensures.err)

pub returns-clause-ok : goal.returns-clause-ok
returns-clause-ok c = finishes c.args.out.now.items c.loop-member.out.items c.args.members.now c.loop-member.member-index c.loop-member-test.false c.loop-member.invariant
