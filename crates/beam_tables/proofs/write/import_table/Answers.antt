use Rattle.std.proofs.Common.{drop, arith, length-drop}
use Rattle.std.proofs.lemmas.Result.{err_from_is_err_and}
use Rattle.beam_model.specs.Prelude.{import_bytes, table_bytes}
use Rattle.beam_tables.proofs.Writing.{goes_on, ends, is_done}
use Rattle.beam_tables.proofs.write.import_table.Goals as goal

pub returns-in_err-put_import : goal.returns-in_err-put_import
returns-in_err-put_import c =
    let p = err_from_is_err_and c.from_residual-in_err-put_import.result c.from_residual-in_err-put_import.ensures.1 in
    rw (p.1, p.2) (ends c.in_err-put_import.field-0.0 (import_bytes c.args.atoms.now.keys) c.args.imports.now c.import-item.result c.loop-import.import-index c.loop-import.out.items (table_bytes (import_bytes c.args.atoms.now.keys) c.args.imports.now) c.loop-import-test.true c.import-item.is c.in_err-put_import.ensures c.loop-import.invariant)

pub loop-import-preserved : goal.loop-import-preserved
loop-import-preserved c =
    goes_on (import_bytes c.args.atoms.now.keys) c.args.imports.now c.import-item.result c.loop-import.import-index c.loop-import.out.items c.put_import.new.out.items (table_bytes (import_bytes c.args.atoms.now.keys) c.args.imports.now) c.loop-import-test.true c.import-item.is c.in_ok-put_import.ensures c.loop-import.invariant

pub returns : goal.returns
returns c =
    is_done (import_bytes c.args.atoms.now.keys) (drop c.loop-import.import-index c.args.imports.now) c.loop-import.out.items (table_bytes (import_bytes c.args.atoms.now.keys) c.args.imports.now) (omega (arith, length-drop c.loop-import.import-index c.args.imports.now, c.loop-import-test.false)) c.loop-import.invariant
