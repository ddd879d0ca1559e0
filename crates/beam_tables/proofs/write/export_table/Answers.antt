use Rattle.std.proofs.Common.{drop, arith, length-drop}
use Rattle.std.proofs.lemmas.Result.{err_from_is_err_and}
use Rattle.beam_model.specs.Prelude.{export_bytes, table_bytes}
use Rattle.beam_tables.proofs.Writing.{goes_on, ends, is_done}
use Rattle.beam_tables.proofs.write.export_table.Goals as goal

pub returns-in_err-put_export : goal.returns-in_err-put_export
returns-in_err-put_export c =
    let p = err_from_is_err_and c.from_residual-in_err-put_export.result c.from_residual-in_err-put_export.ensures.1 in
    rw (p.1, p.2) (ends c.in_err-put_export.field-0.0 (export_bytes c.args.atoms.now.keys) c.args.exports.now c.export-item.result c.loop-export.export-index c.loop-export.out.items (table_bytes (export_bytes c.args.atoms.now.keys) c.args.exports.now) c.loop-export-test.true c.export-item.is c.in_err-put_export.ensures c.loop-export.invariant)

pub loop-export-preserved : goal.loop-export-preserved
loop-export-preserved c =
    goes_on (export_bytes c.args.atoms.now.keys) c.args.exports.now c.export-item.result c.loop-export.export-index c.loop-export.out.items c.put_export.new.out.items (table_bytes (export_bytes c.args.atoms.now.keys) c.args.exports.now) c.loop-export-test.true c.export-item.is c.in_ok-put_export.ensures c.loop-export.invariant

pub returns : goal.returns
returns c =
    is_done (export_bytes c.args.atoms.now.keys) (drop c.loop-export.export-index c.args.exports.now) c.loop-export.out.items (table_bytes (export_bytes c.args.atoms.now.keys) c.args.exports.now) (omega (arith, length-drop c.loop-export.export-index c.args.exports.now, c.loop-export-test.false)) c.loop-export.invariant
