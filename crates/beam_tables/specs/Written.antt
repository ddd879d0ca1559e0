-- The chunks that are written for tables.
use Rattle.std.specs.Prelude.{◌≡◌, ℕ, List, option_map, Ok}
use Rattle.beam_model.specs.declared.function.Import.{Import}
use Rattle.beam_model.specs.declared.function.Export.{Export}
use Rattle.beam_term.specs.Prelude.{TermValue}
use Rattle.beam_model.specs.Tables as model
use Rattle.beam_tables.specs.declared.tables.TableChunks.{TableChunks}

-- the contents of the chunks, without where they lie in memory
abbrev pub chunks_of : TableChunks → model.TableChunks
chunks_of w = record { atoms = w.atoms.items; imports = w.imports.items; exports = w.exports.items; literals = option_map (λ v. v.items) w.literals }

-- the tables of these atoms, imports, exports and literals
abbrev pub tables_of : List (List ℕ) → List Import → List Export → List TermValue → model.Tables
tables_of atoms imports exports literals = record { atoms = atoms; imports = imports; exports = exports; literals = literals }

-- the chunks are read as those tables again, whatever code stands beside them
abbrev pub AreReadAs : TableChunks → model.Tables → Type 0
AreReadAs w tables = (code : List ℕ) → model.tables_at (model.form_with (chunks_of w) code) ≡ Ok tables
