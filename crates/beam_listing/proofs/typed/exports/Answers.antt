use Rattle.std.proofs.Common.{take, subst, sym, take_all}
use Rattle.std.proofs.lemmas.List.Elements.{All-more, All-same}
use Rattle.beam_listing.specs.Prelude.{IsExport}
use Rattle.beam_listing.proofs.typed.exports.Goals as goal

pub loop-one-preserved : goal.loop-one-preserved
loop-one-preserved c =
    All-more IsExport c.args.exports.now c.loop-one.one-index c.one-item.result c.loop-one-test.true c.loop-one.invariant (subst IsExport c.one-item.is c.export.ensures)

pub returns : goal.returns
returns c =
    let i = c.loop-one.one-index in
    All-same IsExport c.args.exports.now (take i c.args.exports.now) (sym (take_all i c.args.exports.now c.loop-one-test.false)) c.loop-one.invariant
