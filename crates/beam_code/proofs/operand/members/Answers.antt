use Rattle.std.proofs.Common.{sym, ◌∙◌}
use Rattle.beam_code.proofs.Loops.{member_more, member_none, members_done}
use Rattle.beam_model.specs.Prelude.{members_of}
use Rattle.beam_code.proofs.operand.members.Goals as goal

pub returns-in_default : goal.returns-in_default
returns-in_default c =
    member_none c.args.atoms.now c.args.literals.now c.args.xs.now c.loop-x.x-index _ c.loop-x.items.items (members_of c.args.atoms.now c.args.literals.now c.args.xs.now) c.loop-x-test.true (sym c.in_default.is ∙ c.in_ok-argument.ensures) c.loop-x.invariant

pub loop-x-preserved : goal.loop-x-preserved
loop-x-preserved c =
    rw c.in_ok-push.ensures.items (member_more c.args.atoms.now c.args.literals.now c.args.xs.now c.loop-x.x-index _ c.loop-x.items.items c.in-Some.argument (members_of c.args.atoms.now c.args.literals.now c.args.xs.now) c.loop-x-test.true (sym c.in-Some.is ∙ c.in_ok-argument.ensures) c.loop-x.invariant)

pub returns : goal.returns
returns c = members_done c.args.atoms.now c.args.literals.now c.args.xs.now c.loop-x.x-index c.loop-x.items.items (members_of c.args.atoms.now c.args.literals.now c.args.xs.now) c.loop-x-test.false c.loop-x.invariant
