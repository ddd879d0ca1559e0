-- Which file spells which listing, by what stands where: a form, the tables of its chunks, and the code that speaks of them by index
-- (the BEAM file format).
use Rattle.std.specs.Prelude.{◌≡◌, ℕ, List, slice_get, Some, MatchOption}
use Rattle.beam_model.specs.Listing.{Listing}
use Rattle.beam_model.specs.Form.{Form}
use Rattle.beam_model.specs.Tables.{Tables}
use Rattle.beam_model.specs.CodeChunk.{CodeParts}
use Rattle.beam_model.specs.ChunkForm.{IsForm}
use Rattle.beam_model.specs.TablesForm.{AreTables}
use Rattle.beam_model.specs.CodeForm.{IsCode}

-- the counts and instructions of a listing, which its code chunk spells
abbrev pub code_parts : Listing → CodeParts
code_parts l = record { label_count = l.label_count; function_count = l.function_count; instructions = l.instructions }

-- the first atom is the module's name
pub record IsFile (bytes : List ℕ) (l : Listing) : Type 0 where
  pub form : Form
  pub is_form : IsForm form bytes
  pub tables : Tables
  pub are_tables : AreTables form tables
  pub named : slice_get tables.atoms 0 ≡ Some l.name
  pub exports : l.exports ≡ tables.exports
  pub is_code : MatchOption form.code ⊥ (IsCode tables (code_parts l))
