use Rattle.std.proofs.Common.{take, subst, sym, take_all}
use Rattle.std.proofs.lemmas.List.Elements.{All-more, All-same}
use Rattle.beam_listing.specs.Prelude.{IsArgument}
use Rattle.beam_listing.proofs.typed.arguments.Goals as goal

pub loop-one-preserved : goal.loop-one-preserved
loop-one-preserved c =
    All-more IsArgument c.args.arguments.now c.loop-one.one-index c.one-item.result c.loop-one-test.true c.loop-one.invariant (subst IsArgument c.one-item.is c.argument.ensures)

pub returns : goal.returns
returns c =
    let i = c.loop-one.one-index in
    All-same IsArgument c.args.arguments.now (take i c.args.arguments.now) (sym (take_all i c.args.arguments.now c.loop-one-test.false)) c.loop-one.invariant
