-- Texts in parts.
use Rattle.std.specs.Prelude.{ℕ, List, ◌++◌}
use Rattle.std.specs.List.{flat_map}
use Rattle.beam_model.specs.Text.{text_of}
use Rattle.beam_machine.specs.declared.text_parts.TextPart.{TextPart}

-- the text of a part: its bytes, and then the text of its term
abbrev pub part_text : TextPart → List ℕ
part_text p = p.before.items ++ text_of p.term

-- the texts of parts, one after another
abbrev pub parts_text : List TextPart → List ℕ
parts_text parts = flat_map part_text parts
