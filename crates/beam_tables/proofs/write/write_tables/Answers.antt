use Rattle.std.proofs.Common.{rules}
use Rattle.beam_model.specs.Prelude.{tables_bytes, tables_again}
use Rattle.beam_etf.proofs.RoundTrip.{written_back}
use Rattle.beam_tables.specs.Written.{chunks_of, tables_of}
use Rattle.beam_tables.proofs.write.write_tables.Goals as goal

pub returns-clause-read_back : goal.returns-clause-read_back
unfolding tables_bytes
returns-clause-read_back c = λ code.
    tables_again (tables_of c.args.atoms.now.keys c.args.imports.now c.args.exports.now c.args.literals.now)
    (chunks_of (record { atoms = c.in_ok-atom_table.field-0; imports = c.in_ok-import_table.field-0; exports = c.in_ok-export_table.field-0; literals = c.in_ok-literal_table.field-0 })) code
    (λ k d lt. written_back _ (c.in_ok-literal_table.ensures.lawful k d lt)) (search rules)
