use Rattle.std.proofs.lemmas.Result.{err_from_is_err_and}
use Rattle.beam_model.specs.Prelude.{entries_at, import_at}
use Rattle.beam_tables.proofs.Loop.{goes_on, ends, is_done}
use Rattle.beam_tables.proofs.entries.import_entries.Goals as goal

pub returns-in_err-import : goal.returns-in_err-import
returns-in_err-import c =
    let p = err_from_is_err_and c.from_residual.result c.from_residual.ensures.1 in
    rw (p.1, p.2) (ends c.in_err-import.field-0.0 (import_at c.args.atoms.now) c.loop.imports.items c.args.count c.loop.counter c.loop.rest.now (entries_at (import_at c.args.atoms.now) c.args.count c.args.bytes.now) c.loop-test.true c.in_err-import.ensures c.loop.invariant)

pub loop-preserved : goal.loop-preserved
loop-preserved c =
    rw c.in_ok-push.ensures.items (goes_on (import_at c.args.atoms.now) c.loop.imports.items c.args.count c.loop.counter c.loop.rest.now c.in_ok-import.import c.in_ok-import.behind.now (entries_at (import_at c.args.atoms.now) c.args.count c.args.bytes.now) c.loop-test.true c.in_ok-import.ensures c.loop.invariant)

pub returns : goal.returns
returns c = is_done (import_at c.args.atoms.now) c.loop.imports.items c.args.count c.loop.counter c.loop.rest.now (entries_at (import_at c.args.atoms.now) c.args.count c.args.bytes.now) c.loop-test.false c.loop.invariant
