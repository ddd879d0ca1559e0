-- The content of a Code chunk that was read, and the tables with which it was read.
use Rattle.std.specs.Prelude.{ℕ, List, []}
use Rattle.beam_model.specs.declared.function.Import.{Import}
use Rattle.beam_model.specs.Prelude.{Tables, CodeParts}
use Rattle.beam_term.specs.Prelude.{TermValue}
use Rattle.beam_code.specs.declared.read.CodeChunk.{CodeChunk}

abbrev pub parts_of : CodeChunk → CodeParts
parts_of c = record { label_count = c.label_count; function_count = c.function_count; instructions = c.instructions.items }

-- instructions don't speak of exports
abbrev pub tables_of : List (List ℕ) → List Import → List TermValue → Tables
tables_of atoms imports literals = record { atoms = atoms; imports = imports; exports = []; literals = literals }
