-- Frames with more words, and how many words frames count.
use Rattle.std.proofs.Common.{◌≡◌, ℕ, ◌+◌, ◌-◌, ◌≤◌, Bool, true, false, ◌&&◌, ◌||◌, List, [], ◌∷◌, ◌++◌, length, drop, Option, Some, None, option_map, refl, ap, ◌∙◌, arith, length-drop, length-set, slice_set}
use Rattle.std.specs.List.{list_any}
use Rattle.beam_machine.specs.declared.process.Frame.{Frame}
use Rattle.beam_machine.specs.declared.process.Slot.{Slot}
use Rattle.beam_machine.specs.Prelude.{is_place_in, is_tag_in, has_tag_in, is_frame_in, words_in, words_of, with_y}
use Rattle.beam_machine.specs.declared.process.Slot.TheVariants as slot
use Rattle.beam_stack.specs.Prelude.{Word, newest_y, count_in, y_count, with_slot, older_than, with_one, grown, grown_by, frames_of, is_linked, are_linked, word_of, is_word_in}
use Rattle.beam_stack.specs.Word as word

-- ---- one more word

pub by_append : (fs : List Frame) (ws more : List Word) → grown_by fs (ws ++ more) ≡ grown_by (grown_by fs ws) more
by_append fs [] more = refl
by_append fs (w ∷ ws) more = by_append (grown fs w) ws more

pub one_more : (ws : List Word) (w : Word) → frames_of (ws ++ w ∷ []) ≡ grown (frames_of ws) w
one_more ws w = by_append [] ws (w ∷ [])

pub grown_slot : (fs : List Frame) (s : Slot) → grown fs (word_of s) ≡ with_one s fs
grown_slot fs (slot.Value t) = refl
grown_slot fs (slot.Tag tag) = refl

-- ---- how many words frames count

one_words : (s : Slot) (fs : List Frame) → words_of (with_one s fs) ≤ words_of fs + 1
one_words s [] = omega arith
one_words s (f ∷ fs) = at f.y
  where
    at : (o : Option (List Slot)) → words_in (option_map (λ y. s ∷ y) o) + words_of fs ≤ words_in o + words_of fs + 1
    at (Some y) = omega arith
    at None = omega arith

pub grown_words : (fs : List Frame) (w : Word) → words_of (grown fs w) ≤ words_of fs + 1
grown_words fs (word.Head back true below) = omega arith
grown_words fs (word.Head back false below) = omega arith
grown_words fs (word.Value t) = one_words (slot.Value t) fs
grown_words fs (word.Tag tag) = one_words (slot.Tag tag) fs

pub by_words : (fs : List Frame) (ws : List Word) → words_of (grown_by fs ws) ≤ words_of fs + length ws
by_words fs [] = omega arith
by_words fs (w ∷ ws) = omega (arith, by_words (grown fs w) ws, grown_words fs w)

pub count_frames : (fs : List Frame) → y_count fs ≡ words_of fs - (words_of (older_than fs) + 1)
count_frames [] = omega arith
count_frames (f ∷ fs) = at f.y
  where
    at : (o : Option (List Slot)) → count_in o ≡ (words_in o + words_of fs) - (words_of fs + 1)
    at (Some y) = omega arith
    at None = omega arith

pub older_words : (fs : List Frame) → words_of (older_than fs) ≡ words_of fs - (1 + y_count fs)
older_words [] = omega arith
older_words (f ∷ fs) = at f.y
  where
    at : (o : Option (List Slot)) → words_of fs ≡ (words_in o + words_of fs) - (1 + count_in o)
    at (Some y) = omega arith
    at None = omega arith

pub older_with : (fs : List Frame) (y : Option (List Slot)) → older_than (with_y fs y) ≡ older_than fs
older_with [] y = refl
older_with (f ∷ fs) y = refl

pub words_dropped : (n : ℕ) (fs : List Frame) → n ≤ y_count fs → words_of (with_y fs (option_map (drop n) (newest_y fs))) + n ≡ words_of fs
words_dropped n [] h = omega (arith, h)
words_dropped n (f ∷ fs) h = at f.y h
  where
    at : (o : Option (List Slot)) → n ≤ count_in o → (words_in (option_map (drop n) o) + words_of fs) + n ≡ words_in o + words_of fs
    at (Some y) h = omega (arith, h, length-drop n y)
    at None h = omega (arith, h)

pub words_set : (fs : List Frame) (n : ℕ) (s : Slot) → words_of (with_slot fs n s) ≡ words_of fs
words_set [] n s = refl
words_set (f ∷ fs) n s = at f.y
  where
    at : (o : Option (List Slot)) → words_in (option_map (λ y. slice_set y n s) o) + words_of fs ≡ words_in o + words_of fs
    at (Some y) = omega (arith, length-set y n s)
    at None = refl

-- ---- heads

and_assoc : (a b c : Bool) → (a && (b && c)) ≡ ((a && b) && c)
and_assoc true b c = refl
and_assoc false b c = refl

pub linked_append : (fs : List Frame) (ws more : List Word) → are_linked fs (ws ++ more) ≡ (are_linked fs ws && are_linked (grown_by fs ws) more)
linked_append fs [] more = refl
linked_append fs (w ∷ ws) more =
    ap (λ b. is_linked fs w && b) (linked_append (grown fs w) ws more) ∙ and_assoc (is_linked fs w) (are_linked (grown fs w) ws) (are_linked (grown_by (grown fs w) ws) more)

-- ---- lingering

or_false : (a : Bool) → a ≡ (a || false)
or_false true = refl
or_false false = refl

or_assoc : (a b c : Bool) → ((a || b) || c) ≡ (a || (b || c))
or_assoc true b c = refl
or_assoc false b c = refl

or_comm : (a b : Bool) → (a || b) ≡ (b || a)
or_comm true true = refl
or_comm true false = refl
or_comm false true = refl
or_comm false false = refl

head_any : (p a : Bool) → ((p || false) || a) ≡ (a || p)
head_any true true = refl
head_any true false = refl
head_any false true = refl
head_any false false = refl

slot_any : (p t y a : Bool) → ((p || (t || y)) || a) ≡ (((p || y) || a) || t)
slot_any true t y a = refl
slot_any false true y a = or_comm true (y || a)
slot_any false false y a = or_false (y || a)

slot_lingers : (n : ℕ) (fs : List Frame) (s : Slot) → words_of (with_one s fs) ≡ words_of fs + 1
    → list_any (is_frame_in n) (with_one s fs) ≡ (list_any (is_frame_in n) fs || is_tag_in n s)
slot_lingers n [] s counts = absurd (omega (arith, counts))
slot_lingers n (f ∷ fs) s counts = at f.y counts
  where
    at : (o : Option (List Slot)) → words_in (option_map (λ y. s ∷ y) o) + words_of fs ≡ (words_in o + words_of fs) + 1
        → ((is_place_in n f.back || has_tag_in n (option_map (λ y. s ∷ y) o)) || list_any (is_frame_in n) fs)
        ≡ (((is_place_in n f.back || has_tag_in n o) || list_any (is_frame_in n) fs) || is_tag_in n s)
    at (Some y) counts = slot_any (is_place_in n f.back) (is_tag_in n s) (list_any (is_tag_in n) y) (list_any (is_frame_in n) fs)
    at None counts = absurd (omega (arith, counts))

one_lingers : (n : ℕ) (fs : List Frame) (w : Word) → words_of (grown fs w) ≡ words_of fs + 1
    → list_any (is_frame_in n) (grown fs w) ≡ (list_any (is_frame_in n) fs || is_word_in n w)
one_lingers n fs (word.Head back true below) counts = head_any (is_place_in n back) (list_any (is_frame_in n) fs)
one_lingers n fs (word.Head back false below) counts = head_any (is_place_in n back) (list_any (is_frame_in n) fs)
one_lingers n fs (word.Value t) counts = slot_lingers n fs (slot.Value t) counts
one_lingers n fs (word.Tag tag) counts = slot_lingers n fs (slot.Tag tag) counts

lingers_by : (n : ℕ) (fs : List Frame) (ws : List Word) → words_of (grown_by fs ws) ≡ words_of fs + length ws
    → list_any (is_frame_in n) (grown_by fs ws) ≡ (list_any (is_frame_in n) fs || list_any (is_word_in n) ws)
lingers_by n fs [] whole = or_false (list_any (is_frame_in n) fs)
lingers_by n fs (w ∷ ws) whole =
    let counts : words_of (grown fs w) ≡ words_of fs + 1 = omega (arith, whole, by_words (grown fs w) ws, grown_words fs w) in
    let rest : words_of (grown_by (grown fs w) ws) ≡ words_of (grown fs w) + length ws = omega (arith, whole, counts) in
    lingers_by n (grown fs w) ws rest ∙ ap (λ b. b || list_any (is_word_in n) ws) (one_lingers n fs w counts)
    ∙ or_assoc (list_any (is_frame_in n) fs) (is_word_in n w) (list_any (is_word_in n) ws)

-- a frame lies in an instance where one of its words does
pub lingers_is : (n : ℕ) (ws : List Word) → words_of (frames_of ws) ≡ length ws → list_any (is_frame_in n) (frames_of ws) ≡ list_any (is_word_in n) ws
lingers_is n ws whole = lingers_by n [] ws (omega (arith, whole))
