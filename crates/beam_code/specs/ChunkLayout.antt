-- Where the instructions of a chunk stand, as they are read.
use Rattle.std.specs.Prelude.{◌≡◌, ℕ, List}
use Rattle.beam_model.specs.declared.instruction.Instruction.{Instruction}
use Rattle.beam_model.specs.Prelude.{Tables}
use Rattle.beam_code.specs.declared.instruction.ChunkLayout.{ChunkLayout}
use Rattle.beam_code.specs.Bytes.{CodeBytes, instructions_in, AreStarts, AreLabels}

-- a chunk whose instructions begin at the starts of this layout
abbrev pub chunk_with : Tables → List ℕ → ChunkLayout → CodeBytes
chunk_with t code p = record { tables = t; code = code; starts = p.starts; end = p.end }

-- the layout is that of these instructions, and has the labels among them
pub record HasLayout (t : Tables) (code : List ℕ) (is : List Instruction) (p : ChunkLayout) : Type 0 where
  pub starts : AreStarts (chunk_with t code p)
  pub instructions : instructions_in (chunk_with t code p) ≡ is
  pub labels : AreLabels (chunk_with t code p) p.labels.items
