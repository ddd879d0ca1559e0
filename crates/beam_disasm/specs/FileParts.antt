-- The parts of a file whose bytes are kept: its tables, and the content of its code chunk.
use Rattle.std.specs.Prelude.{ℕ, List, Result}
use Rattle.beam_model.specs.Prelude.{form_at, FileFault, form_fault, Parts, parts_of_form, in_layer}
use Rattle.beam_model.specs.File.{◌>>=◌}
use Rattle.beam_disasm.specs.declared.file.Disassembled.{Disassembled}

-- the parts of the form that the bytes of a file spell
unfoldable pub parts_of_file : List ℕ → Result Parts FileFault
parts_of_file bytes = do
  form ← in_layer form_fault (form_at bytes)
  parts_of_form form

-- the parts that are kept; the listing has the exports
abbrev pub parts_in : Disassembled → Parts
parts_in d = record { tables = record d.code.tables { exports = d.listing.exports }; code = d.code.code }
