-- A word of a stack.
use Rattle.std.specs.Prelude.{ℕ, Bool, Option, Some, None}
use Rattle.beam_model.specs.Prelude.{Place}
use Rattle.beam_term.specs.Prelude.{TermValue}
use Rattle.beam_machine.specs.declared.process.Tag.{Tag as CatchTag}
use Rattle.beam_stack.specs.declared.word.PackedWord.{PackedWord}
use Rattle.beam_stack.specs.declared.word.PackedWord.TheVariants as inside

pub data Word : Type 0 where
  -- a frame begins: its return place, whether it has y registers, and how many the frame below has
  Head : Option Place → Bool → ℕ → Word
  -- a y register of the frame; the last one is y0
  Value : TermValue → Word
  Tag : CatchTag → Word

-- the word that is packed into fewer bytes
abbrev pub word_in : PackedWord → Word
word_in (inside.First has_y) = Head None has_y 0
word_in (inside.Head has_y instance at below) = Head (Some (record { instance = instance; at = at })) has_y below
word_in (inside.Value t) = Value t
word_in (inside.Tag label instance at) = Tag (record { label = label; place = record { instance = instance; at = at } })
