-- The newest frame of a stack: its head, and the words after it.
use Rattle.std.proofs.Common.{◌≡◌, ℕ, suc, ◌+◌, ◌-◌, Bool, true, false, ◌&&◌, ◌==◌, if◌then◌else◌, ◌⊎◌, inl, inr, List, [], ◌∷◌, ◌++◌, length, take, Option, Some, None, slice_get, refl, ap, sym, ◌∙◌, subst, arith, length-append, take_at, eqb-true}
use Rattle.std.proofs.lemmas.Bool.{false≢true, and_parts, and_from}
use Rattle.std.proofs.lemmas.List.{nil_from_length}
use Rattle.beam_machine.specs.declared.process.Frame.{Frame}
use Rattle.beam_machine.specs.declared.process.Slot.{Slot}
use Rattle.beam_machine.specs.Prelude.{words_in, words_of}
use Rattle.beam_model.specs.Prelude.{Place}
use Rattle.beam_machine.specs.declared.process.Slot.TheVariants as slot
use Rattle.beam_stack.specs.Prelude.{Word, y_count, older_than, grown, grown_by, frames_of, are_linked, IsStack, slots_with, below_in}
use Rattle.beam_stack.specs.Word as word
use Rattle.beam_stack.proofs.Grown.{by_append, by_words, linked_append, older_words}

-- ---- the words of one frame

-- whether words are y registers of one frame, which has none where it is to have none
abbrev pub are_y : Bool → List Word → Bool
are_y has_y [] = true
are_y has_y (word.Head back had_y below ∷ ws) = false
are_y has_y (word.Value t ∷ ws) = has_y && are_y has_y ws
are_y has_y (word.Tag tag ∷ ws) = has_y && are_y has_y ws

abbrev pub frame_with : Option Place → Bool → List Slot → Frame
frame_with back has_y y = record { back = back; y = if has_y then Some y else None }

pub none_after : (ws : List Word) → are_y false ws ≡ true → ws ≡ []
none_after [] h = refl
none_after (word.Head back had_y below ∷ ws) h = absurd (false≢true h)
none_after (word.Value t ∷ ws) h = absurd (false≢true h)
none_after (word.Tag tag ∷ ws) h = absurd (false≢true h)

by_slots : (back : Option Place) (has_y : Bool) (y : List Slot) (fs : List Frame) (ws : List Word) → are_y has_y ws ≡ true
    → grown_by (frame_with back has_y y ∷ fs) ws ≡ frame_with back has_y (slots_with y ws) ∷ fs
by_slots back has_y y fs [] h = refl
by_slots back true y fs (word.Head other had_y below ∷ ws) h = absurd (false≢true h)
by_slots back true y fs (word.Value t ∷ ws) h = by_slots back true (slot.Value t ∷ y) fs ws h
by_slots back true y fs (word.Tag tag ∷ ws) h = by_slots back true (slot.Tag tag ∷ y) fs ws h
by_slots back false y fs (w ∷ ws) h = absurd (some_not w h)
  where
    some_not : (v : Word) → are_y false (v ∷ ws) ≡ true → ⊥
    some_not (word.Head other had_y below) e = false≢true e
    some_not (word.Value t) e = false≢true e
    some_not (word.Tag tag) e = false≢true e

-- where a frame has no y registers, words that are y registers are ignored
lost : (back : Option Place) (fs : List Frame) (ws : List Word) → are_y true ws ≡ true → grown_by (frame_with back false [] ∷ fs) ws ≡ frame_with back false [] ∷ fs
lost back fs [] h = refl
lost back fs (word.Head other had_y below ∷ ws) h = absurd (false≢true h)
lost back fs (word.Value t ∷ ws) h = lost back fs ws h
lost back fs (word.Tag tag ∷ ws) h = lost back fs ws h

no_frames : (ws : List Word) → are_y true ws ≡ true → frames_of ws ≡ []
no_frames [] h = refl
no_frames (word.Head back had_y below ∷ ws) h = absurd (false≢true h)
no_frames (word.Value t ∷ ws) h = no_frames ws h
no_frames (word.Tag tag ∷ ws) h = no_frames ws h

length_held : (y : List Slot) (ws : List Word) → are_y true ws ≡ true → length (slots_with y ws) ≡ length y + length ws
length_held y [] h = omega arith
length_held y (word.Head back had_y below ∷ ws) h = absurd (false≢true h)
length_held y (word.Value t ∷ ws) h = omega (arith, length_held (slot.Value t ∷ y) ws h)
length_held y (word.Tag tag ∷ ws) h = omega (arith, length_held (slot.Tag tag ∷ y) ws h)

linked_slots : (fs : List Frame) (has_y : Bool) (ws : List Word) → are_y has_y ws ≡ true → are_linked fs ws ≡ true
linked_slots fs has_y [] h = refl
linked_slots fs has_y (word.Head back had_y below ∷ ws) h = absurd (false≢true h)
linked_slots fs has_y (word.Value t ∷ ws) h = linked_slots (grown fs (word.Value t)) has_y ws (and_parts has_y (are_y has_y ws) h).1
linked_slots fs has_y (word.Tag tag ∷ ws) h = linked_slots (grown fs (word.Tag tag)) has_y ws (and_parts has_y (are_y has_y ws) h).1

pub frames_top : (before : List Word) (back : Option Place) (has_y : Bool) (below : ℕ) (after : List Word) → are_y has_y after ≡ true
    → frames_of (before ++ word.Head back has_y below ∷ after) ≡ frame_with back has_y (slots_with [] after) ∷ frames_of before
frames_top before back has_y below after slots =
    by_append [] before (word.Head back has_y below ∷ after) ∙ by_slots back has_y [] (frames_of before) after slots

-- ---- the last head

record Top (ws : List Word) : Type 0 where
  before : List Word
  back : Option Place
  has_y : Bool
  below : ℕ
  after : List Word
  is : ws ≡ before ++ word.Head back has_y below ∷ after
  slots : are_y true after ≡ true

further : (w : Word) (ws : List Word) → (are_y true ws ≡ true) ⊎ Top ws → (are_y true (w ∷ ws) ≡ true) ⊎ Top (w ∷ ws)
further w ws (inr top) = inr (record { before = w ∷ top.before; back = top.back; has_y = top.has_y; below = top.below; after = top.after; is = ap (λ vs. w ∷ vs) top.is; slots = top.slots })
further (word.Head back has_y below) ws (inl slots) = inr (record { before = []; back = back; has_y = has_y; below = below; after = ws; is = refl; slots = slots })
further (word.Value t) ws (inl slots) = inl slots
further (word.Tag tag) ws (inl slots) = inl slots

top_of : (ws : List Word) → (are_y true ws ≡ true) ⊎ Top ws
top_of [] = inl refl
top_of (w ∷ ws) = further w ws (top_of ws)

-- where each word counts, the frames below the newest one count theirs, and the newest one has y registers if words follow its head
whole_top : (before : List Word) (back : Option Place) (has_y : Bool) (below : ℕ) (after : List Word) → are_y true after ≡ true
    → words_of (frames_of (before ++ word.Head back has_y below ∷ after)) ≡ length (before ++ word.Head back has_y below ∷ after)
    → (words_of (frames_of before) ≡ length before) × (are_y has_y after ≡ true)
whole_top before back true below after slots whole =
    let counted : (1 + length (slots_with [] after)) + words_of (frames_of before) ≡ length (before ++ word.Head back true below ∷ after) = sym (ap words_of (frames_top before back true below after slots)) ∙ whole in
    (omega (arith, counted, length_held [] after slots, length-append before (word.Head back true below ∷ after)), slots)
whole_top before back false below after slots whole =
    let frames : frames_of (before ++ word.Head back false below ∷ after) ≡ frame_with back false [] ∷ frames_of before = by_append [] before (word.Head back false below ∷ after) ∙ lost back (frames_of before) after slots in
    let counted : 1 + words_of (frames_of before) ≡ length (before ++ word.Head back false below ∷ after) = sym (ap words_of frames) ∙ whole in
    let none : length after ≡ 0 = omega (arith, counted, by_words [] before, length-append before (word.Head back false below ∷ after)) in
    (omega (arith, counted, none, length-append before (word.Head back false below ∷ after)), ap (are_y false) (nil_from_length after none))

-- a statement that holds of no words, and of words that end with a frame, holds of each stack
pub by_top : (P : List Word → ℕ → Type 0) → P [] 0
    → ((before : List Word) (back : Option Place) (has_y : Bool) (below : ℕ) (after : List Word) → words_of (frames_of before) ≡ length before
    → are_y has_y after ≡ true → P (before ++ word.Head back has_y below ∷ after) (length before))
    → (ws : List Word) (newest : ℕ) → IsStack ws newest → P ws newest
by_top P none some ws newest stack = at (top_of ws)
  where
    at : (are_y true ws ≡ true) ⊎ Top ws → P ws newest
    at (inl slots) =
        let nothing : frames_of ws ≡ [] = no_frames ws slots in
        let empty : ws ≡ [] = nil_from_length ws (sym stack.whole ∙ ap words_of nothing) in
        let first : newest ≡ 0 = stack.begins ∙ ap (λ fs. words_of (older_than fs)) nothing in
        subst (λ vs. P vs newest) (sym empty) (subst (λ n. P [] n) (sym first) none)
    at (inr top) =
        let parts : (words_of (frames_of top.before) ≡ length top.before) × (are_y top.has_y top.after ≡ true) = whole_top top.before top.back top.has_y top.below top.after top.slots (subst (λ vs. words_of (frames_of vs) ≡ length vs) top.is stack.whole) in
        let frames : frames_of ws ≡ frame_with top.back top.has_y (slots_with [] top.after) ∷ frames_of top.before = ap frames_of top.is ∙ frames_top top.before top.back top.has_y top.below top.after parts.1 in
        let place : newest ≡ length top.before = stack.begins ∙ ap (λ fs. words_of (older_than fs)) frames ∙ parts.0 in
        let there : P (top.before ++ word.Head top.back top.has_y top.below ∷ top.after) newest = subst (λ n. P (top.before ++ word.Head top.back top.has_y top.below ∷ top.after) n) (sym place) (some top.before top.back top.has_y top.below top.after parts.0 parts.1) in
        subst (λ vs. P vs newest) (sym top.is) there

-- words that end with a frame are a stack
pub stack_of : (before : List Word) (back : Option Place) (has_y : Bool) (below : ℕ) (after : List Word) → words_of (frames_of before) ≡ length before
    → are_linked [] before ≡ true → (below == y_count (frames_of before)) ≡ true → are_y has_y after ≡ true
    → IsStack (before ++ word.Head back has_y below ∷ after) (length before)
stack_of before back has_y below after whole linked links slots = record {
  whole = ap words_of frames ∙ counted has_y slots ∙ sym (length-append before (word.Head back has_y below ∷ after));
  begins = sym whole ∙ ap (λ fs. words_of (older_than fs)) (sym frames);
  linked = linked_append [] before (word.Head back has_y below ∷ after)
      ∙ and_from (are_linked [] before) (are_linked (frames_of before) (word.Head back has_y below ∷ after)) linked
      (and_from (below == y_count (frames_of before)) (are_linked (grown (frames_of before) (word.Head back has_y below)) after) links (linked_slots (grown (frames_of before) (word.Head back has_y below)) has_y after slots));
}
  where
    frames : frames_of (before ++ word.Head back has_y below ∷ after) ≡ frame_with back has_y (slots_with [] after) ∷ frames_of before
    frames = frames_top before back has_y below after slots

    counted : (b : Bool) → are_y b after ≡ true → words_in (if b then Some (slots_with [] after) else None) + words_of (frames_of before) ≡ length before + suc (length after)
    counted true h = omega (arith, whole, length_held [] after h)
    counted false h = omega (arith, whole, ap length (none_after after h))

-- ---- the fields of the head

pub get_at : (before : List Word) (w : Word) (after : List Word) → slice_get (before ++ w ∷ after) (length before) ≡ Some w
get_at [] w after = refl
get_at (v ∷ before) w after = get_at before w after

pub linked_parts : (before : List Word) (back : Option Place) (has_y : Bool) (below : ℕ) (after : List Word) → are_linked [] (before ++ word.Head back has_y below ∷ after) ≡ true
    → (are_linked [] before ≡ true) × ((below == y_count (frames_of before)) ≡ true)
linked_parts before back has_y below after linked =
    let both : (are_linked [] before ≡ true) × (are_linked (frames_of before) (word.Head back has_y below ∷ after) ≡ true) = and_parts (are_linked [] before) (are_linked (frames_of before) (word.Head back has_y below ∷ after)) (sym (linked_append [] before (word.Head back has_y below ∷ after)) ∙ linked) in
    (both.0, (and_parts (below == y_count (frames_of before)) (are_linked (grown (frames_of before) (word.Head back has_y below)) after) both.1).0)

-- ---- without the newest frame

pub record IsPopped (ws : List Word) (newest : ℕ) : Type 0 where
  pub frames : frames_of (take newest ws) ≡ older_than (frames_of ws)
  pub stack : IsStack (take newest ws) (newest - (1 + below_in (slice_get ws newest)))

pub popped : (ws : List Word) (newest : ℕ) → IsStack ws newest → IsPopped ws newest
popped ws newest stack = by_top (λ vs n. are_linked [] vs ≡ true → IsPopped vs n) none some ws newest stack stack.linked
  where
    none : are_linked [] [] ≡ true → IsPopped [] 0
    none linked = record { frames = refl; stack = record { whole = refl; begins = refl; linked = refl } }

    some : (before : List Word) (back : Option Place) (has_y : Bool) (below : ℕ) (after : List Word) → words_of (frames_of before) ≡ length before
        → are_y has_y after ≡ true → are_linked [] (before ++ word.Head back has_y below ∷ after) ≡ true → IsPopped (before ++ word.Head back has_y below ∷ after) (length before)
    some before back has_y below after whole slots linked =
        let cut : take (length before) (before ++ word.Head back has_y below ∷ after) ≡ before = take_at before (word.Head back has_y below ∷ after) (length before) refl in
        let parts : (are_linked [] before ≡ true) × ((below == y_count (frames_of before)) ≡ true) = linked_parts before back has_y below after linked in
        let says : below_in (slice_get (before ++ word.Head back has_y below ∷ after) (length before)) ≡ y_count (frames_of before) = ap below_in (get_at before (word.Head back has_y below) after) ∙ eqb-true below (y_count (frames_of before)) parts.1 in
        let rest : IsStack before (length before - (1 + y_count (frames_of before))) = record { whole = whole; begins = ap (λ n. n - (1 + y_count (frames_of before))) (sym whole) ∙ sym (older_words (frames_of before)); linked = parts.0 } in
        let place : IsStack before (length before - (1 + below_in (slice_get (before ++ word.Head back has_y below ∷ after) (length before)))) = subst (λ n. IsStack before (length before - (1 + n))) (sym says) rest in
        record {
          frames = ap frames_of cut ∙ sym (ap older_than (frames_top before back has_y below after slots));
          stack = subst (λ vs. IsStack vs (length before - (1 + below_in (slice_get (before ++ word.Head back has_y below ∷ after) (length before))))) (sym cut) place;
        }
