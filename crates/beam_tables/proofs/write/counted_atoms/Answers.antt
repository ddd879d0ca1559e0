use Rattle.std.proofs.Common.{drop, arith, length-drop}
use Rattle.std.proofs.lemmas.Result.{err_from_is_err_and}
use Rattle.beam_model.specs.Prelude.{atom_bytes, table_bytes}
use Rattle.beam_tables.proofs.Writing.{goes_on, ends, is_done}
use Rattle.beam_tables.proofs.write.counted_atoms.Goals as goal

pub returns-in_err-put_atom : goal.returns-in_err-put_atom
returns-in_err-put_atom c =
    let p = err_from_is_err_and c.from_residual-in_err-put_atom.result c.from_residual-in_err-put_atom.ensures.1 in
    rw (p.1, p.2) (ends c.in_err-put_atom.field-0.0 atom_bytes c.args.atoms.now c.atom-item.result c.loop-atom.atom-index c.loop-atom.out.items (table_bytes atom_bytes c.args.atoms.now) c.loop-atom-test.true c.atom-item.is c.in_err-put_atom.ensures c.loop-atom.invariant)

pub loop-atom-preserved : goal.loop-atom-preserved
loop-atom-preserved c =
    goes_on atom_bytes c.args.atoms.now c.atom-item.result c.loop-atom.atom-index c.loop-atom.out.items c.put_atom.new.out.items (table_bytes atom_bytes c.args.atoms.now) c.loop-atom-test.true c.atom-item.is c.in_ok-put_atom.ensures c.loop-atom.invariant

pub returns : goal.returns
returns c =
    is_done atom_bytes (drop c.loop-atom.atom-index c.args.atoms.now) c.loop-atom.out.items (table_bytes atom_bytes c.args.atoms.now) (omega (arith, length-drop c.loop-atom.atom-index c.args.atoms.now, c.loop-atom-test.false)) c.loop-atom.invariant
