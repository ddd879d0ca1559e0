-- The tables of a BEAM file: atoms, imports, exports and literals, as their chunks spell them.
use Rattle.std.specs.Prelude.{ℕ, zero, suc, ◌+◌, ◌-◌, ◌^◌, ◌++◌, nat_lt, nat_le, ◌&&◌, ◌==◌, if◌then◌else◌, List, [], ◌∷◌, length, take, drop, slice_get, position, Option, Some, None, Result, Ok, Err}
use Rattle.std.specs.Str.{is_utf8, bytes_eq}
use Rattle.byteorder.specs.Endian.{big_number, big_bytes}
use Rattle.beam_term.specs.Prelude.{TermValue}
use Rattle.beam_model.specs.External.{external_bytes}
use Rattle.beam_model.specs.ExternalFault.{ExternalFault}
use Rattle.beam_model.specs.ExternalReading.{external_at}
use Rattle.beam_model.specs.Form.{Form}
use Rattle.beam_model.specs.declared.function.Import.{Import}
use Rattle.beam_model.specs.declared.function.Export.{Export}
pub use Rattle.beam_model.specs.Reading.{◌>>=◌}

-- the tables that instructions speak of by index; imports and exports name their atoms
pub record Tables : Type 0 where
  pub atoms : List (List ℕ)
  pub imports : List Import
  pub exports : List Export
  pub literals : List TermValue

-- why chunks spell no tables
pub data TableFault : Type 0 where
  missing_chunk : TableFault
  bad_table : TableFault
  compressed_literals : TableFault
  bad_literal : TableFault

-- ---- fields

-- a number in four bytes, the highest first, and the bytes after it
unfoldable pub table_number_at : List ℕ → Result (ℕ × List ℕ) TableFault
table_number_at bytes = if nat_lt (length bytes) 4 then Err bad_table else Ok (big_number 4 bytes, drop 4 bytes)

-- this many entries, each as `entry` reads it at the front; bytes after the last are ignored
unfoldable pub entries_at : {X : Type 0} → (List ℕ → Result (X × List ℕ) TableFault) → ℕ → List ℕ → Result (List X) TableFault
entries_at entry zero bytes = Ok []
entries_at entry (suc n) bytes = do
  first ← entry bytes
  others ← entries_at entry n first.1
  Ok (first.0 ∷ others)

-- ---- AtU8

-- bytes that are UTF-8
unfoldable pub utf8_text : List ℕ → Result (List ℕ) TableFault
utf8_text bytes = if is_utf8 bytes then Ok bytes else Err bad_table

-- an atom: its length in a byte, and that many bytes of UTF-8
unfoldable pub table_atom_at : List ℕ → Result (List ℕ × List ℕ) TableFault
table_atom_at [] = Err bad_table
table_atom_at (n ∷ bytes) =
    if nat_lt (length bytes) n then Err bad_table
    else (utf8_text (take n bytes) >>= λ text. Ok (text, drop n bytes))

-- a count from 1 to 65,535, and the atoms; the first names the module
unfoldable pub atoms_at : List ℕ → Result (List (List ℕ)) TableFault
atoms_at bytes = do
  count ← table_number_at bytes
  if nat_lt 0 count.0 && nat_le count.0 65535 then entries_at table_atom_at count.0 count.1 else Err bad_table

abbrev pub found : Option (List ℕ) → Result (List ℕ) TableFault
found None = Err bad_table
found (Some atom) = Ok atom

-- the atom of an index, counted from 1
unfoldable pub atom_of_index : List (List ℕ) → ℕ → Result (List ℕ) TableFault
atom_of_index atoms index = if nat_lt 0 index then found (slice_get atoms (index - 1)) else Err bad_table

-- ---- ImpT and ExpT

-- a module, a function and an arity
unfoldable pub import_at : List (List ℕ) → List ℕ → Result (Import × List ℕ) TableFault
import_at atoms bytes = do
  module_index ← table_number_at bytes
  function_index ← table_number_at module_index.1
  arity ← table_number_at function_index.1
  module_name ← atom_of_index atoms module_index.0
  function_name ← atom_of_index atoms function_index.0
  Ok (record { «module» = module_name; function = function_name; arity = arity.0 }, arity.1)

unfoldable pub imports_at : List (List ℕ) → List ℕ → Result (List Import) TableFault
imports_at atoms bytes = do
  count ← table_number_at bytes
  entries_at (import_at atoms) count.0 count.1

-- a function, its arity and the label of its entry
unfoldable pub export_at : List (List ℕ) → List ℕ → Result (Export × List ℕ) TableFault
export_at atoms bytes = do
  index ← table_number_at bytes
  arity ← table_number_at index.1
  label ← table_number_at arity.1
  function_name ← atom_of_index atoms index.0
  Ok (record { name = function_name; arity = arity.0; label = label.0 }, label.1)

unfoldable pub exports_at : List (List ℕ) → List ℕ → Result (List Export) TableFault
exports_at atoms bytes = do
  count ← table_number_at bytes
  entries_at (export_at atoms) count.0 count.1

-- ---- LitT

-- a size, and as many bytes
unfoldable pub sized_at : List ℕ → Result (List ℕ × List ℕ) TableFault
sized_at bytes = do
  size ← table_number_at bytes
  if nat_lt (length size.1) size.0 then Err bad_table else Ok (take size.0 size.1, drop size.0 size.1)

-- a term after which nothing stands
abbrev pub literal_alone : Result (TermValue × List ℕ) ExternalFault → Result TermValue TableFault
literal_alone (Ok (term, [])) = Ok term
literal_alone (Ok (term, byte ∷ rest)) = Err bad_literal
literal_alone (Err fault) = Err bad_literal

-- the term that bytes spell in the External Term Format, all of them
unfoldable pub literal_of : List ℕ → Result TermValue TableFault
literal_of bytes = literal_alone (external_at bytes)

-- a literal: a size, and as many bytes, which spell a term
unfoldable pub literal_at : List ℕ → Result (TermValue × List ℕ) TableFault
literal_at bytes = do
  field ← sized_at bytes
  literal ← literal_of field.0
  Ok (literal, field.1)

-- a number, which is 0 where the literals aren't compressed, a count, and the literals
unfoldable pub literals_at : List ℕ → Result (List TermValue) TableFault
literals_at bytes = do
  compressed ← table_number_at bytes
  if compressed.0 == 0 then (do
    count ← table_number_at compressed.1
    entries_at literal_at count.0 count.1) else Err compressed_literals

-- the literals of a chunk that may be left out
unfoldable pub literals_in : Option (List ℕ) → Result (List TermValue) TableFault
literals_in None = Ok []
literals_in (Some bytes) = literals_at bytes

-- ---- all tables

-- a chunk that has to be there
unfoldable pub required_chunk : Option (List ℕ) → Result (List ℕ) TableFault
required_chunk None = Err missing_chunk
required_chunk (Some bytes) = Ok bytes

-- the tables of a form, or the first fault: of AtU8, of a missing Code, of ImpT, of ExpT, of LitT
unfoldable pub tables_at : Form → Result Tables TableFault
tables_at form = do
  atom_bytes ← required_chunk form.atoms
  atoms ← atoms_at atom_bytes
  code ← required_chunk form.code
  import_bytes ← required_chunk form.imports
  imports ← imports_at atoms import_bytes
  export_bytes ← required_chunk form.exports
  exports ← exports_at atoms export_bytes
  literals ← literals_in form.literals
  Ok (record { atoms = atoms; imports = imports; exports = exports; literals = literals })

-- ---- writing

-- a number in four bytes, the highest first
unfoldable pub number_bytes : ℕ → Result (List ℕ) TableFault
number_bytes n = if nat_lt n (2 ^ 32) then Ok (big_bytes 4 n) else Err bad_table

-- an atom: its length in a byte, and its UTF-8
unfoldable pub atom_bytes : List ℕ → Result (List ℕ) TableFault
atom_bytes text = if nat_lt 255 (length text) then Err bad_table else (utf8_text text >>= λ t. Ok (length text ∷ t))

abbrev pub placed : Option ℕ → Result ℕ TableFault
placed None = Err bad_table
placed (Some place) = Ok (place + 1)

-- the index of the first atom with this text, counted from 1
unfoldable pub index_of : List (List ℕ) → List ℕ → Result ℕ TableFault
index_of atoms text = placed (position (bytes_eq text) atoms)

-- an atom by its index
unfoldable pub index_bytes : List (List ℕ) → List ℕ → Result (List ℕ) TableFault
index_bytes atoms text = index_of atoms text >>= number_bytes

unfoldable pub import_bytes : List (List ℕ) → Import → Result (List ℕ) TableFault
import_bytes atoms i = do
  module_index ← index_bytes atoms i.«module»
  function_index ← index_bytes atoms i.function
  arity ← number_bytes i.arity
  Ok (module_index ++ function_index ++ arity)

unfoldable pub export_bytes : List (List ℕ) → Export → Result (List ℕ) TableFault
export_bytes atoms e = do
  index ← index_bytes atoms e.name
  arity ← number_bytes e.arity
  label ← number_bytes e.label
  Ok (index ++ arity ++ label)

-- the entries one after the other
unfoldable pub entries_bytes : {X : Type 0} → (X → Result (List ℕ) TableFault) → List X → Result (List ℕ) TableFault
entries_bytes bytes_of [] = Ok []
entries_bytes bytes_of (x ∷ xs) = do
  first ← bytes_of x
  others ← entries_bytes bytes_of xs
  Ok (first ++ others)

-- the count of the entries, and the entries
unfoldable pub table_bytes : {X : Type 0} → (X → Result (List ℕ) TableFault) → List X → Result (List ℕ) TableFault
table_bytes bytes_of xs = do
  count ← number_bytes (length xs)
  entries ← entries_bytes bytes_of xs
  Ok (count ++ entries)

-- from 1 to 65,535 atoms
unfoldable pub atoms_bytes : List (List ℕ) → Result (List ℕ) TableFault
atoms_bytes atoms = if nat_lt 0 (length atoms) && nat_le (length atoms) 65535 then table_bytes atom_bytes atoms else Err bad_table

-- a literal: its size, and the one spelling that is written
unfoldable pub literal_bytes : TermValue → Result (List ℕ) TableFault
literal_bytes literal = do
  size ← number_bytes (length (external_bytes literal))
  Ok (size ++ external_bytes literal)

-- no chunk where there are no literals, else 0, since they aren't compressed, their count, and the literals
unfoldable pub literals_bytes : List TermValue → Result (Option (List ℕ)) TableFault
literals_bytes [] = Ok None
literals_bytes (literal ∷ literals) = do
  compressed ← number_bytes 0
  table ← table_bytes literal_bytes (literal ∷ literals)
  Ok (Some (compressed ++ table))

-- the chunks AtU8, ImpT and ExpT of tables, and LitT where there are literals
pub record TableChunks : Type 0 where
  pub atoms : List ℕ
  pub imports : List ℕ
  pub exports : List ℕ
  pub literals : Option (List ℕ)

unfoldable pub tables_bytes : Tables → Result TableChunks TableFault
tables_bytes t = do
  atoms ← atoms_bytes t.atoms
  imports ← table_bytes (import_bytes t.atoms) t.imports
  exports ← table_bytes (export_bytes t.atoms) t.exports
  literals ← literals_bytes t.literals
  Ok (record { atoms = atoms; imports = imports; exports = exports; literals = literals })

-- the form of these chunks and this code
abbrev pub form_with : TableChunks → List ℕ → Form
form_with chunks code = record { atoms = Some chunks.atoms; code = Some code; imports = Some chunks.imports; exports = Some chunks.exports; literals = chunks.literals }
