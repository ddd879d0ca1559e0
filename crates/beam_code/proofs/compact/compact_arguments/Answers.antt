use Rattle.std.proofs.Common.{ap}
use Rattle.std.proofs.lemmas.List.{nil_from_length}
use Rattle.beam_model.specs.Prelude.{compact_argument, compact_arguments}
use Rattle.beam_code.proofs.Written.{member_more, member_none, members_done}
use Rattle.beam_code.proofs.compact.compact_arguments.Goals as goal

pub returns-in_default-compact_argument : goal.returns-in_default-compact_argument
unfolding compact_arguments
returns-in_default-compact_argument c =
    member_none c.loop-argument.members.items (compact_argument c.args.numbering.now c.in-Some.argument.now) (compact_arguments c.args.numbering.now c.in-Some.others.now) (compact_arguments c.args.numbering.now c.loop-argument.rest.now) (compact_arguments c.args.numbering.now c.args.arguments.now)
    (ap (compact_arguments c.args.numbering.now) c.in-Some.ensures.cases.0) c.in_default-compact_argument.ensures c.loop-argument.invariant

pub loop-argument-preserved : goal.loop-argument-preserved
unfolding compact_arguments
loop-argument-preserved c =
    rw c.in_ok-push.ensures.items (member_more c.loop-argument.members.items c.in-Some-compact_argument.member (compact_argument c.args.numbering.now c.in-Some.argument.now) (compact_arguments c.args.numbering.now c.in-Some.others.now) (compact_arguments c.args.numbering.now c.loop-argument.rest.now) (compact_arguments c.args.numbering.now c.args.arguments.now)
    (ap (compact_arguments c.args.numbering.now) c.in-Some.ensures.cases.0) c.in-Some-compact_argument.ensures c.loop-argument.invariant)

pub returns : goal.returns
unfolding compact_arguments
returns c =
    rw c.new.ensures (members_done c.loop-argument.members.items (compact_arguments c.args.numbering.now c.loop-argument.rest.now) (compact_arguments c.args.numbering.now c.args.arguments.now)
    (ap (compact_arguments c.args.numbering.now) (nil_from_length c.loop-argument.rest.now c.in_default.ensures.cases)) c.loop-argument.invariant)
