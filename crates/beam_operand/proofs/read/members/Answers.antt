use Rattle.std.proofs.lemmas.Result.{err_from_is_err_and}
use Rattle.beam_model.specs.Prelude.{members_at}
use Rattle.beam_operand.proofs.Loop.{goes_on, ends, is_done}
use Rattle.beam_operand.proofs.read.members.Goals as goal

pub returns-in_err-member : goal.returns-in_err-member
returns-in_err-member c =
    let p = err_from_is_err_and c.from_residual.result c.from_residual.ensures.1 in
    rw (p.1, p.2) (ends c.in_err-member.field-0.0 c.loop.members.items c.args.count c.loop.counter c.loop.rest.now (members_at c.args.count c.args.bytes.now) c.loop-test.true c.in_err-member.ensures.exact c.loop.invariant)

pub loop-preserved : goal.loop-preserved
loop-preserved c =
    let n = c.in_ok-member.member in
    rw c.in_ok-push.ensures.items (goes_on c.loop.members.items c.args.count c.loop.counter c.loop.rest.now n c.in_ok-member.after.now (members_at c.args.count c.args.bytes.now) c.loop-test.true c.in_ok-member.ensures.exact c.loop.invariant)

pub returns : goal.returns
returns c = is_done c.loop.members.items c.args.count c.loop.counter c.loop.rest.now (members_at c.args.count c.args.bytes.now) c.loop-test.false c.loop.invariant
