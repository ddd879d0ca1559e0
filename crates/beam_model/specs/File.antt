-- A file and the listing that it spells: its form, the tables of the form, the instructions of its code.
use Rattle.std.specs.Prelude.{ℕ, List, Result, Ok, Err}
use Rattle.beam_model.specs.Listing.{Listing}
use Rattle.beam_model.specs.Form.{Form, FormFault, form_at}
use Rattle.beam_model.specs.Tables.{Tables, TableFault, tables_at, required_chunk, atom_of_index}
use Rattle.beam_model.specs.CodeChunk.{CodeFault, code_of}
pub use Rattle.beam_model.specs.Reading.{◌>>=◌}

-- why a file spells no listing: the first fault of the earliest layer that has one
pub data FileFault : Type 0 where
  form_fault : FormFault → FileFault
  table_fault : TableFault → FileFault
  code_fault : CodeFault → FileFault

-- the result of a layer, its fault as a fault of the file
abbrev pub in_layer : {A F : Type 0} → (F → FileFault) → Result A F → Result A FileFault
in_layer fault (Ok x) = Ok x
in_layer fault (Err e) = Err (fault e)

-- the tables, and the content of the code chunk
pub record Parts : Type 0 where
  pub tables : Tables
  pub code : List ℕ

unfoldable pub parts_of_form : Form → Result Parts FileFault
parts_of_form form = do
  tables ← in_layer table_fault (tables_at form)
  code ← in_layer table_fault (required_chunk form.code)
  Ok (record { tables = tables; code = code })

-- the listing that names its atoms, imports and literals; the first atom is the module's name
unfoldable pub listing_of_parts : Parts → Result Listing FileFault
listing_of_parts p = do
  name ← in_layer table_fault (atom_of_index p.tables.atoms 1)
  code ← in_layer code_fault (code_of p.tables.atoms p.tables.imports p.tables.literals p.code)
  Ok (record { name = name; exports = p.tables.exports; label_count = code.label_count; function_count = code.function_count; instructions = code.instructions })

unfoldable pub listing_of_form : Form → Result Listing FileFault
listing_of_form form = do
  parts ← parts_of_form form
  listing_of_parts parts

-- the listing that the bytes of a file spell, or the first fault
unfoldable pub listing_of_file : List ℕ → Result Listing FileFault
listing_of_file bytes = do
  form ← in_layer form_fault (form_at bytes)
  listing_of_form form
