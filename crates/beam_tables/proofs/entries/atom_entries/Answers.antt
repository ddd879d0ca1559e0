use Rattle.std.proofs.lemmas.Result.{err_from_is_err_and}
use Rattle.beam_model.specs.Prelude.{entries_at, table_atom_at}
use Rattle.beam_tables.proofs.Loop.{goes_on, ends, is_done}
use Rattle.beam_tables.proofs.entries.atom_entries.Goals as goal

pub returns-in_err-atom : goal.returns-in_err-atom
returns-in_err-atom c =
    let p = err_from_is_err_and c.from_residual.result c.from_residual.ensures.1 in
    rw (p.1, p.2) (ends c.in_err-atom.field-0.0 table_atom_at c.loop.atoms.items c.args.count c.loop.counter c.loop.rest.now (entries_at table_atom_at c.args.count c.args.bytes.now) c.loop-test.true c.in_err-atom.ensures c.loop.invariant)

pub loop-preserved : goal.loop-preserved
loop-preserved c =
    rw c.in_ok-push.ensures.items (goes_on table_atom_at c.loop.atoms.items c.args.count c.loop.counter c.loop.rest.now c.in_ok-atom.atom c.in_ok-atom.behind.now (entries_at table_atom_at c.args.count c.args.bytes.now) c.loop-test.true c.in_ok-atom.ensures c.loop.invariant)

pub returns : goal.returns
returns c = is_done table_atom_at c.loop.atoms.items c.args.count c.loop.counter c.loop.rest.now (entries_at table_atom_at c.args.count c.args.bytes.now) c.loop-test.false c.loop.invariant
