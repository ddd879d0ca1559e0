-- The frames that words stand for, oldest word first: a head begins a frame, and each word after it becomes the frame's y0.
use Rattle.std.specs.Prelude.{◌≡◌, ◌==◌, ◌&&◌, ℕ, Bool, true, false, if◌then◌else◌, List, [], ◌∷◌, length, Option, Some, None, option_map}
use Rattle.beam_machine.specs.declared.process.Frame.{Frame}
use Rattle.beam_machine.specs.declared.process.Slot.{Slot}
use Rattle.beam_machine.specs.Prelude.{is_in, is_place_in, words_of, with_y}
use Rattle.beam_machine.specs.declared.process.Slot.TheVariants as slot
use Rattle.beam_machine.specs.declared.process.Tag.{Tag as CatchTag}
use Rattle.beam_stack.specs.declared.word.Head.{Head}
use Rattle.beam_stack.specs.Plain.{is_plain}
use Rattle.beam_stack.specs.Word.{Word}
use Rattle.beam_stack.specs.Word as word
use Rattle.beam_stack.specs.Frames.{newest_y, y_count, older_than}

-- one more y register of the newest frame, if that has some: it becomes y0
abbrev pub with_one : Slot → List Frame → List Frame
with_one s frames = with_y frames (option_map (λ y. s ∷ y) (newest_y frames))

-- the frames with one more word
abbrev pub grown : List Frame → Word → List Frame
grown frames (word.Head back has_y below) = record { back = back; y = if has_y then Some [] else None } ∷ frames
grown frames (word.Value t) = with_one (slot.Value t) frames
grown frames (word.Tag tag) = with_one (slot.Tag tag) frames

abbrev pub grown_by : List Frame → List Word → List Frame
grown_by frames [] = frames
grown_by frames (w ∷ rest) = grown_by (grown frames w) rest

abbrev pub frames_of : List Word → List Frame
frames_of words = grown_by [] words

-- whether a word, if it is a head, has the right count of y registers of the frame below it
abbrev pub is_linked : List Frame → Word → Bool
is_linked below (word.Head back has_y count) = count == y_count below
is_linked below w = true

abbrev pub are_linked : List Frame → List Word → Bool
are_linked below [] = true
are_linked below (w ∷ rest) = is_linked below w && are_linked (grown below w) rest

-- words that are a stack, whose newest frame begins at word `newest`
pub record IsStack (words : List Word) (newest : ℕ) : Type 0 where
  pub whole : words_of (frames_of words) ≡ length words  -- each word counts
  pub begins : newest ≡ words_of (older_than (frames_of words))
  pub linked : are_linked [] words ≡ true

-- ---- single words

abbrev pub word_of : Slot → Word
word_of (slot.Value t) = word.Value t
word_of (slot.Tag tag) = word.Tag tag

-- the y register that a word is
abbrev pub slot_in : Word → Option Slot
slot_in (word.Head back has_y below) = None
slot_in (word.Value t) = Some (slot.Value t)
slot_in (word.Tag tag) = Some (slot.Tag tag)

-- the catch tag that a y register holds
abbrev pub tag_of_word : Word → Option CatchTag
tag_of_word (word.Tag tag) = Some tag
tag_of_word w = None

-- whether a word has nothing to be freed: a frame's head, a catch tag, an integer or []
abbrev pub needs_no_drop : Word → Bool
needs_no_drop (word.Value t) = is_plain t
needs_no_drop w = true

-- the count of y registers of the frame below, which a head holds
abbrev pub below_in : Option Word → ℕ
below_in (Some (word.Head back has_y below)) = below
below_in _ = 0

-- the head that a word is, if it is one
abbrev pub head_in : Option Word → Option Head
head_in (Some (word.Head back has_y below)) = Some (record { back = back; has_y = has_y; below = below })
head_in _ = None

-- a head with the flag whether its frame has y registers; any other word as it is
abbrev pub marked : Bool → Word → Word
marked has_y (word.Head back had_y below) = word.Head back has_y below
marked has_y w = w

-- whether a word returns or catches in that instance
abbrev pub is_word_in : ℕ → Word → Bool
is_word_in number (word.Head back has_y below) = is_place_in number back
is_word_in number (word.Value t) = false
is_word_in number (word.Tag tag) = is_in number tag.place

-- y registers, and those of further words in front of them: the last word is y0
abbrev pub slots_with : List Slot → List Word → List Slot
slots_with y [] = y
slots_with y (word.Head back has_y below ∷ rest) = slots_with y rest
slots_with y (word.Value t ∷ rest) = slots_with (slot.Value t ∷ y) rest
slots_with y (word.Tag tag ∷ rest) = slots_with (slot.Tag tag ∷ y) rest
