-- The first catch tag, by words: their last tag.
use Rattle.std.proofs.Common.{◌≡◌, ℕ, ◌+◌, true, false, List, [], ◌∷◌, length, take, Option, Some, None, option_map, refl, ap, sym, ◌∙◌, arith}
use Rattle.beam_machine.specs.declared.process.Frame.{Frame}
use Rattle.beam_machine.specs.declared.process.Slot.{Slot}
use Rattle.beam_machine.specs.Prelude.{words_in, words_of, tag_in, tag_of}
use Rattle.beam_machine.specs.declared.process.Slot.TheVariants as slot
use Rattle.beam_machine.specs.declared.process.Tag.{Tag}
use Rattle.beam_stack.specs.Prelude.{Word, older_than, first_tag, this_or, with_one, grown, grown_by, frames_of, IsStack, tag_of_word, slots_with}
use Rattle.beam_stack.specs.Word as word
use Rattle.beam_stack.proofs.Grown.{by_words, grown_words}
use Rattle.beam_stack.proofs.Tops.{IsPopped, popped}

this_or_none : (a : Option Tag) → this_or a None ≡ a
this_or_none (Some tag) = refl
this_or_none None = refl

or_assoc : (a b c : Option Tag) → this_or a (this_or b c) ≡ this_or (this_or a b) c
or_assoc (Some tag) b c = refl
or_assoc None b c = refl

-- ---- the words of y registers

-- of registers below others the tags come after the others' tags
held_on : (y : List Slot) (ws : List Word) → tag_in (slots_with y ws) ≡ this_or (tag_in (slots_with [] ws)) (tag_in y)
held_on y [] = refl
held_on y (word.Head back has_y below ∷ ws) = held_on y ws
held_on y (word.Value t ∷ ws) =
    held_on (slot.Value t ∷ y) ws ∙ ap (λ a. this_or a (tag_in y)) (sym (held_on (slot.Value t ∷ []) ws ∙ this_or_none (tag_in (slots_with [] ws))))
held_on y (word.Tag tag ∷ ws) =
    held_on (slot.Tag tag ∷ y) ws ∙ or_assoc (tag_in (slots_with [] ws)) (Some tag) (tag_in y) ∙ ap (λ a. this_or a (tag_in y)) (sym (held_on (slot.Tag tag ∷ []) ws))

held_word : (w : Word) (ws : List Word) → tag_in (slots_with [] (w ∷ ws)) ≡ this_or (tag_in (slots_with [] ws)) (tag_of_word w)
held_word (word.Head back has_y below) ws = sym (this_or_none (tag_in (slots_with [] ws)))
held_word (word.Value t) ws = held_on (slot.Value t ∷ []) ws
held_word (word.Tag tag) ws = held_on (slot.Tag tag ∷ []) ws

-- ---- frames

abbrev tag_at : Slot → Option Tag
tag_at (slot.Value t) = None
tag_at (slot.Tag tag) = Some tag

slot_tag : (s : Slot) (y : List Slot) (later : Option Tag) → this_or (tag_in (s ∷ y)) later ≡ this_or (tag_at s) (this_or (tag_in y) later)
slot_tag (slot.Value t) y later = refl
slot_tag (slot.Tag tag) y later = refl

one_slot : (fs : List Frame) (s : Slot) → words_of (with_one s fs) ≡ words_of fs + 1 → first_tag (with_one s fs) ≡ this_or (tag_at s) (first_tag fs)
one_slot [] s counts = absurd (omega (arith, counts))
one_slot (f ∷ fs) s counts = at f.y counts
  where
    at : (o : Option (List Slot)) → words_in (option_map (λ y. s ∷ y) o) + words_of fs ≡ (words_in o + words_of fs) + 1
        → this_or (tag_of (option_map (λ y. s ∷ y) o)) (first_tag fs) ≡ this_or (tag_at s) (this_or (tag_of o) (first_tag fs))
    at (Some y) counts = slot_tag s y (first_tag fs)
    at None counts = absurd (omega (arith, counts))

one_tag : (fs : List Frame) (w : Word) → words_of (grown fs w) ≡ words_of fs + 1 → first_tag (grown fs w) ≡ this_or (tag_of_word w) (first_tag fs)
one_tag fs (word.Head back true below) counts = refl
one_tag fs (word.Head back false below) counts = refl
one_tag fs (word.Value t) counts = one_slot fs (slot.Value t) counts
one_tag fs (word.Tag tag) counts = one_slot fs (slot.Tag tag) counts

tags_by : (fs : List Frame) (ws : List Word) → words_of (grown_by fs ws) ≡ words_of fs + length ws → first_tag (grown_by fs ws) ≡ this_or (tag_in (slots_with [] ws)) (first_tag fs)
tags_by fs [] whole = refl
tags_by fs (w ∷ ws) whole =
    let counts : words_of (grown fs w) ≡ words_of fs + 1 = omega (arith, whole, by_words (grown fs w) ws, grown_words fs w) in
    let rest : words_of (grown_by (grown fs w) ws) ≡ words_of (grown fs w) + length ws = omega (arith, whole, counts) in
    tags_by (grown fs w) ws rest ∙ ap (this_or (tag_in (slots_with [] ws))) (one_tag fs w counts)
    ∙ or_assoc (tag_in (slots_with [] ws)) (tag_of_word w) (first_tag fs) ∙ ap (λ a. this_or a (first_tag fs)) (sym (held_word w ws))

tags_of : (ws : List Word) → words_of (frames_of ws) ≡ length ws → tag_in (slots_with [] ws) ≡ first_tag (frames_of ws)
tags_of ws whole = sym (tags_by [] ws (omega (arith, whole)) ∙ this_or_none (tag_in (slots_with [] ws)))

-- the last tag of all words is the first catch tag
pub first_is : (ws : List Word) (newest : ℕ) → IsStack ws newest → tag_in (slots_with [] ws) ≡ first_tag (frames_of ws)
first_is ws newest stack = tags_of ws stack.whole

-- the last tag of the words below the newest frame is the first catch tag of the older frames
pub older_is : (ws : List Word) (newest : ℕ) → IsStack ws newest → tag_in (slots_with [] (take newest ws)) ≡ first_tag (older_than (frames_of ws))
older_is ws newest stack =
    let rest : IsPopped ws newest = popped ws newest stack in
    tags_of (take newest ws) rest.stack.whole ∙ ap first_tag rest.frames
