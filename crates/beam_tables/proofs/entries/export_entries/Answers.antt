use Rattle.std.proofs.lemmas.Result.{err_from_is_err_and}
use Rattle.beam_model.specs.Prelude.{entries_at, export_at}
use Rattle.beam_tables.proofs.Loop.{goes_on, ends, is_done}
use Rattle.beam_tables.proofs.entries.export_entries.Goals as goal

pub returns-in_err-export : goal.returns-in_err-export
returns-in_err-export c =
    let p = err_from_is_err_and c.from_residual.result c.from_residual.ensures.1 in
    rw (p.1, p.2) (ends c.in_err-export.field-0.0 (export_at c.args.atoms.now) c.loop.exports.items c.args.count c.loop.counter c.loop.rest.now (entries_at (export_at c.args.atoms.now) c.args.count c.args.bytes.now) c.loop-test.true c.in_err-export.ensures c.loop.invariant)

pub loop-preserved : goal.loop-preserved
loop-preserved c =
    rw c.in_ok-push.ensures.items (goes_on (export_at c.args.atoms.now) c.loop.exports.items c.args.count c.loop.counter c.loop.rest.now c.in_ok-export.export c.in_ok-export.behind.now (entries_at (export_at c.args.atoms.now) c.args.count c.args.bytes.now) c.loop-test.true c.in_ok-export.ensures c.loop.invariant)

pub returns : goal.returns
returns c = is_done (export_at c.args.atoms.now) c.loop.exports.items c.args.count c.loop.counter c.loop.rest.now (entries_at (export_at c.args.atoms.now) c.args.count c.args.bytes.now) c.loop-test.false c.loop.invariant
