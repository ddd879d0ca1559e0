-- The y registers of the newest frame: y0 is the last word.
use Rattle.std.proofs.Common.{◌≡◌, ℕ, zero, suc, ◌+◌, ◌-◌, ◌<◌, ◌≤◌, Bool, true, false, ◌&&◌, if◌then◌else◌, List, [], ◌∷◌, ◌++◌, length, take, drop, Option, Some, None, is_some, option_map, option_and_then, slice_get, slice_set, refl, ap, sym, ◌∙◌, subst, arith, length-append, length-take-le, length-set, take-append-drop, take_all}
use Rattle.std.proofs.lemmas.Bool.{false≢true, and_parts, and_from}
use Rattle.std.proofs.lemmas.Option.{none-some}
use Rattle.std.proofs.lemmas.List.{set_at, set-append_left, take-append-le}
use Rattle.beam_machine.specs.declared.process.Frame.{Frame}
use Rattle.beam_machine.specs.declared.process.Slot.{Slot}
use Rattle.beam_machine.specs.Prelude.{words_of, value_in, read_slots, with_y}
use Rattle.beam_machine.specs.declared.process.Slot.TheVariants as slot
use Rattle.beam_stack.specs.Prelude.{Word, newest_y, count_in, y_count, slot_at, with_slot, older_than, with_one, grown, frames_of, is_linked, are_linked, IsStack, word_of, slot_in}
use Rattle.beam_stack.specs.Word as word
use Rattle.beam_stack.proofs.Grown.{one_more, grown_slot, by_words, count_frames, older_with, words_dropped, words_set, linked_append}
use Rattle.beam_stack.proofs.Tops.{get_at}

-- ---- the last word

record Last (ws : List Word) : Type 0 where
  front : List Word
  final : Word
  is : ws ≡ front ++ final ∷ []

further : (w : Word) (ws : List Word) → (ws ≡ [] → Last (w ∷ ws)) → (0 < length ws → Last (w ∷ ws)) → Last (w ∷ ws)
further w [] none some = none refl
further w (v ∷ ws) none some = some (omega arith)

last : (ws : List Word) → 0 < length ws → Last ws
last [] h = absurd (omega (arith, h))
last (w ∷ ws) h = further w ws (λ none. record { front = []; final = w; is = ap (λ vs. w ∷ vs) none }) (λ some. before w ws (last ws some))
  where
    before : (v : Word) (vs : List Word) → Last vs → Last (v ∷ vs)
    before v vs l = record { front = v ∷ l.front; final = l.final; is = ap (λ us. v ∷ us) l.is }

frames_last : (ws : List Word) (l : Last ws) → frames_of ws ≡ grown (frames_of l.front) l.final
frames_last ws l = ap frames_of l.is ∙ one_more l.front l.final

length_last : (ws : List Word) (l : Last ws) → length ws ≡ length l.front + 1
length_last ws l = ap length l.is ∙ length-append l.front (l.final ∷ [])

-- a frame has no more y registers than there are words
pub count_most : (ws : List Word) → y_count (frames_of ws) ≤ length ws
count_most ws = omega (arith, count_frames (frames_of ws), by_words [] ws)

pub nonempty : (ws : List Word) (r : ℕ) → r < y_count (frames_of ws) → 0 < length ws
nonempty ws r h = omega (arith, h, count_most ws)

-- ---- a last word that is a y register

no_head : (b : Bool) (r : ℕ) → r < count_in (if b then Some [] else None) → ⊥
no_head true r h = omega (arith, h)
no_head false r h = omega (arith, h)

record IsSlot (fs : List Frame) (w : Word) : Type 0 where
  held : Slot
  is : w ≡ word_of held
  some : (y : List Slot) × (newest_y fs ≡ Some y)

some_y : (fs : List Frame) (s : Slot) (r : ℕ) → r < y_count (with_one s fs) → (y : List Slot) × (newest_y fs ≡ Some y)
some_y [] s r h = absurd (omega (arith, h))
some_y (f ∷ fs) s r h = at f.y refl h
  where
    at : (o : Option (List Slot)) → f.y ≡ o → r < count_in (option_map (λ y. s ∷ y) o) → (y : List Slot) × (f.y ≡ Some y)
    at (Some y) is h = (y, is)
    at None is h = absurd (omega (arith, h))

is_slot : (fs : List Frame) (w : Word) (r : ℕ) → r < y_count (grown fs w) → IsSlot fs w
is_slot fs (word.Head back has_y below) r h = absurd (no_head has_y r h)
is_slot fs (word.Value t) r h = record { held = slot.Value t; is = refl; some = some_y fs (slot.Value t) r h }
is_slot fs (word.Tag tag) r h = record { held = slot.Tag tag; is = refl; some = some_y fs (slot.Tag tag) r h }

slot_word : (s : Slot) → slot_in (word_of s) ≡ Some s
slot_word (slot.Value t) = refl
slot_word (slot.Tag tag) = refl

linked_word : (fs : List Frame) (s : Slot) → is_linked fs (word_of s) ≡ true
linked_word fs (slot.Value t) = refl
linked_word fs (slot.Tag tag) = refl

grown_is : (fs : List Frame) (w : Word) (i : IsSlot fs w) → grown fs w ≡ with_one i.held fs
grown_is fs w i = ap (grown fs) i.is ∙ grown_slot fs i.held

y_of_one : (fs : List Frame) (s : Slot) (y : List Slot) → newest_y fs ≡ Some y → newest_y (with_one s fs) ≡ Some (s ∷ y)
y_of_one [] s y some = absurd (none-some y some)
y_of_one (f ∷ fs) s y some = ap (option_map (λ ys. s ∷ ys)) some

grown_y : (fs : List Frame) (w : Word) (i : IsSlot fs w) → newest_y (grown fs w) ≡ Some (i.held ∷ i.some.0)
grown_y fs w i = ap newest_y (grown_is fs w i) ∙ y_of_one fs i.held i.some.0 i.some.1

fewer_y : (fs : List Frame) (w : Word) (r : ℕ) → suc r < y_count (grown fs w) → r < y_count fs
fewer_y fs w r h =
    let i : IsSlot fs w = is_slot fs w (suc r) h in
    omega (arith, h, ap count_in (grown_y fs w i), ap count_in i.some.1)

with_same : (fs : List Frame) (o : Option (List Slot)) → newest_y fs ≡ o → with_y fs o ≡ fs
with_same [] o e = refl
with_same (f ∷ fs) o e = ap (λ q. record f { y = q } ∷ fs) (sym e)

-- ---- places from the end

get_front : (front more : List Word) (i : ℕ) → i < length front → slice_get (front ++ more) i ≡ slice_get front i
get_front [] more i h = absurd (omega (arith, h))
get_front (v ∷ front) more zero h = refl
get_front (v ∷ front) more (suc i) h = get_front front more i (omega (arith, h))

-- a y register is the word at its distance from the end
pub slot_is : (r : ℕ) (ws : List Word) → r < y_count (frames_of ws) → option_and_then slot_in (slice_get ws (length ws - 1 - r)) ≡ slot_at (newest_y (frames_of ws)) r
slot_is zero ws h =
    let l : Last ws = last ws (nonempty ws 0 h) in
    let i : IsSlot (frames_of l.front) l.final = is_slot (frames_of l.front) l.final 0 (subst (λ fs. 0 < y_count fs) (frames_last ws l) h) in
    let place : length ws - 1 - 0 ≡ length l.front = omega (arith, length_last ws l) in
    let read : slice_get ws (length ws - 1 - 0) ≡ Some l.final = ap (slice_get ws) place ∙ ap (λ vs. slice_get vs (length l.front)) l.is ∙ get_at l.front l.final [] in
    ap (option_and_then slot_in) read ∙ ap slot_in i.is ∙ slot_word i.held
    ∙ sym (ap (λ fs. slot_at (newest_y fs) 0) (frames_last ws l) ∙ ap (λ o. slot_at o 0) (grown_y (frames_of l.front) l.final i))
slot_is (suc r) ws h =
    let l : Last ws = last ws (nonempty ws (suc r) h) in
    let here : suc r < y_count (grown (frames_of l.front) l.final) = subst (λ fs. suc r < y_count fs) (frames_last ws l) h in
    let i : IsSlot (frames_of l.front) l.final = is_slot (frames_of l.front) l.final (suc r) here in
    let below : r < y_count (frames_of l.front) = fewer_y (frames_of l.front) l.final r here in
    let place : length ws - 1 - suc r ≡ length l.front - 1 - r = omega (arith, length_last ws l) in
    let within : length l.front - 1 - r < length l.front = omega (arith, nonempty l.front r below) in
    let read : slice_get ws (length ws - 1 - suc r) ≡ slice_get l.front (length l.front - 1 - r) = ap (slice_get ws) place ∙ ap (λ vs. slice_get vs (length l.front - 1 - r)) l.is ∙ get_front l.front (l.final ∷ []) (length l.front - 1 - r) within in
    ap (option_and_then slot_in) read ∙ slot_is r l.front below ∙ ap (λ o. slot_at o r) i.some.1
    ∙ sym (ap (λ fs. slot_at (newest_y fs) (suc r)) (frames_last ws l) ∙ ap (λ o. slot_at o (suc r)) (grown_y (frames_of l.front) l.final i))

pub no_slot : (fs : List Frame) (r : ℕ) → y_count fs ≤ r → slot_at (newest_y fs) r ≡ None
no_slot fs r h = at (newest_y fs) h
  where
    past : (y : List Slot) (n : ℕ) → length y ≤ n → slice_get y n ≡ None
    past [] n h = refl
    past (s ∷ y) zero h = absurd (omega (arith, h))
    past (s ∷ y) (suc n) h = past y n (omega (arith, h))

    at : (o : Option (List Slot)) → count_in o ≤ r → slot_at o r ≡ None
    at None h = refl
    at (Some y) h = past y r h

-- a y register that has a value is there
pub value_within : (o : Option (List Slot)) (r : ℕ) → is_some (read_slots o r) ≡ true → r < count_in o
value_within None r h = absurd (false≢true h)
value_within (Some y) r h = within y r h
  where
    within : (y : List Slot) (n : ℕ) → is_some (value_in (slice_get y n)) ≡ true → n < length y
    within [] n h = absurd (false≢true h)
    within (s ∷ y) zero h = omega arith
    within (s ∷ y) (suc n) h = omega (arith, within y n h)

value_at : (o : Option (List Slot)) (r : ℕ) → value_in (slot_at o r) ≡ read_slots o r
value_at (Some y) r = refl
value_at None r = refl

-- the word of a y register holds the register's value
pub value_is : (r : ℕ) (ws : List Word) (w : Word) → r < y_count (frames_of ws) → slice_get ws (length ws - 1 - r) ≡ Some w
    → value_in (slot_in w) ≡ read_slots (newest_y (frames_of ws)) r
value_is r ws w h e = ap value_in (sym (ap (option_and_then slot_in) e) ∙ slot_is r ws h) ∙ value_at (newest_y (frames_of ws)) r

-- ---- another slot

record IsPut (ws : List Word) (r : ℕ) (s : Slot) : Type 0 where
  frames : frames_of (slice_set ws (length ws - 1 - r) (word_of s)) ≡ with_slot (frames_of ws) r s
  linked : are_linked [] ws ≡ true → are_linked [] (slice_set ws (length ws - 1 - r) (word_of s)) ≡ true

linked_last : (ws : List Word) (w : Word) → are_linked [] ws ≡ true → is_linked (frames_of ws) w ≡ true → are_linked [] (ws ++ w ∷ []) ≡ true
linked_last ws w before final = linked_append [] ws (w ∷ []) ∙ and_from (are_linked [] ws) (is_linked (frames_of ws) w && true) before (and_from (is_linked (frames_of ws) w) true final refl)

linked_front : (front more : List Word) → are_linked [] (front ++ more) ≡ true → are_linked [] front ≡ true
linked_front front more linked = (and_parts (are_linked [] front) (are_linked (frames_of front) more) (sym (linked_append [] front more) ∙ linked)).0

put_is : (r : ℕ) (ws : List Word) (s : Slot) → r < y_count (frames_of ws) → IsPut ws r s
put_is zero ws s h =
    let l : Last ws = last ws (nonempty ws 0 h) in
    let i : IsSlot (frames_of l.front) l.final = is_slot (frames_of l.front) l.final 0 (subst (λ fs. 0 < y_count fs) (frames_last ws l) h) in
    let place : length ws - 1 - 0 ≡ length l.front = omega (arith, length_last ws l) in
    let made : slice_set ws (length ws - 1 - 0) (word_of s) ≡ l.front ++ word_of s ∷ [] = ap (λ n. slice_set ws n (word_of s)) place ∙ ap (λ vs. slice_set vs (length l.front) (word_of s)) l.is ∙ set_at l.front l.final [] (word_of s) (length l.front) refl in
    let was : frames_of ws ≡ with_one i.held (frames_of l.front) = frames_last ws l ∙ grown_is (frames_of l.front) l.final i in
    record {
      frames = ap frames_of made ∙ one_more l.front (word_of s) ∙ grown_slot (frames_of l.front) s ∙ y0 (frames_of l.front) i.held i.some.0 i.some.1 ∙ sym (ap (λ fs. with_slot fs 0 s) was);
      linked = λ linked. ap (are_linked []) made ∙ linked_last l.front (word_of s) (linked_front l.front (l.final ∷ []) (sym (ap (are_linked []) l.is) ∙ linked)) (linked_word (frames_of l.front) s);
    }
  where
    y0 : (fs : List Frame) (old : Slot) (y : List Slot) → newest_y fs ≡ Some y → with_one s fs ≡ with_slot (with_one old fs) 0 s
    y0 [] old y some = refl
    y0 (f ∷ fs) old y some = at f.y
      where
        at : (o : Option (List Slot)) → record f { y = option_map (λ y. s ∷ y) o } ∷ fs ≡ record f { y = option_map (λ y. slice_set y 0 s) (option_map (λ y. old ∷ y) o) } ∷ fs
        at (Some y) = refl
        at None = refl
put_is (suc r) ws s h =
    let l : Last ws = last ws (nonempty ws (suc r) h) in
    let here : suc r < y_count (grown (frames_of l.front) l.final) = subst (λ fs. suc r < y_count fs) (frames_last ws l) h in
    let i : IsSlot (frames_of l.front) l.final = is_slot (frames_of l.front) l.final (suc r) here in
    let below : r < y_count (frames_of l.front) = fewer_y (frames_of l.front) l.final r here in
    let inner : IsPut l.front r s = put_is r l.front s below in
    let place : length ws - 1 - suc r ≡ length l.front - 1 - r = omega (arith, length_last ws l) in
    let within : length l.front - 1 - r < length l.front = omega (arith, nonempty l.front r below) in
    let made : slice_set ws (length ws - 1 - suc r) (word_of s) ≡ slice_set l.front (length l.front - 1 - r) (word_of s) ++ l.final ∷ [] = ap (λ n. slice_set ws n (word_of s)) place ∙ ap (λ vs. slice_set vs (length l.front - 1 - r) (word_of s)) l.is ∙ set-append_left l.front (l.final ∷ []) (length l.front - 1 - r) (word_of s) within in
    let was : frames_of ws ≡ with_one i.held (frames_of l.front) = frames_last ws l ∙ grown_is (frames_of l.front) l.final i in
    record {
      frames = ap frames_of made ∙ one_more (slice_set l.front (length l.front - 1 - r) (word_of s)) l.final ∙ ap (λ w. grown (frames_of (slice_set l.front (length l.front - 1 - r) (word_of s))) w) i.is
          ∙ grown_slot (frames_of (slice_set l.front (length l.front - 1 - r) (word_of s))) i.held ∙ ap (with_one i.held) inner.frames
          ∙ further_y (frames_of l.front) i.held ∙ sym (ap (λ fs. with_slot fs (suc r) s) was);
      linked = λ linked. ap (are_linked []) made ∙ linked_last (slice_set l.front (length l.front - 1 - r) (word_of s)) l.final (inner.linked (linked_front l.front (l.final ∷ []) (sym (ap (are_linked []) l.is) ∙ linked)))
          (ap (is_linked (frames_of (slice_set l.front (length l.front - 1 - r) (word_of s)))) i.is ∙ linked_word (frames_of (slice_set l.front (length l.front - 1 - r) (word_of s))) i.held);
    }
  where
    further_y : (fs : List Frame) (old : Slot) → with_one old (with_slot fs r s) ≡ with_slot (with_one old fs) (suc r) s
    further_y [] old = refl
    further_y (f ∷ fs) old = at f.y
      where
        at : (o : Option (List Slot)) → record f { y = option_map (λ y. old ∷ y) (option_map (λ y. slice_set y r s) o) } ∷ fs ≡ record f { y = option_map (λ y. slice_set y (suc r) s) (option_map (λ y. old ∷ y) o) } ∷ fs
        at (Some y) = refl
        at None = refl

pub put_frames : (ws : List Word) (r : ℕ) (s : Slot) → r < y_count (frames_of ws) → frames_of (slice_set ws (length ws - 1 - r) (word_of s)) ≡ with_slot (frames_of ws) r s
put_frames ws r s h = let put : IsPut ws r s = put_is r ws s h in put.frames

pub put_stack : (ws : List Word) (newest r : ℕ) (s : Slot) → IsStack ws newest → r < y_count (frames_of ws) → IsStack (slice_set ws (length ws - 1 - r) (word_of s)) newest
put_stack ws newest r s stack h =
    let put : IsPut ws r s = put_is r ws s h in
    record {
      whole = ap words_of put.frames ∙ words_set (frames_of ws) r s ∙ stack.whole ∙ sym (length-set ws (length ws - 1 - r) (word_of s));
      begins = stack.begins ∙ sym (ap words_of (ap older_than put.frames ∙ older_with (frames_of ws) (option_map (λ y. slice_set y r s) (newest_y (frames_of ws)))));
      linked = put.linked stack.linked;
    }

-- ---- fewer words

trimmed : (n : ℕ) (ws : List Word) → n ≤ y_count (frames_of ws) → frames_of (take (length ws - n) ws) ≡ with_y (frames_of ws) (option_map (drop n) (newest_y (frames_of ws)))
trimmed zero ws h =
    ap frames_of (take_all (length ws - 0) ws (omega arith)) ∙ sym (with_same (frames_of ws) (option_map (drop 0) (newest_y (frames_of ws))) (sym (none_dropped (newest_y (frames_of ws)))))
  where
    none_dropped : (o : Option (List Slot)) → option_map (drop 0) o ≡ o
    none_dropped (Some y) = refl
    none_dropped None = refl
trimmed (suc n) ws h =
    let l : Last ws = last ws (nonempty ws n (omega (arith, h))) in
    let i : IsSlot (frames_of l.front) l.final = is_slot (frames_of l.front) l.final n (subst (λ fs. n < y_count fs) (frames_last ws l) (omega (arith, h))) in
    let was : frames_of ws ≡ with_one i.held (frames_of l.front) = frames_last ws l ∙ grown_is (frames_of l.front) l.final i in
    let below : n ≤ y_count (frames_of l.front) = omega (arith, h, ap y_count (frames_last ws l), ap count_in (grown_y (frames_of l.front) l.final i), ap count_in i.some.1) in
    let place : length ws - suc n ≡ length l.front - n = omega (arith, length_last ws l) in
    let cut : take (length ws - suc n) ws ≡ take (length l.front - n) l.front = ap (λ m. take m ws) place ∙ ap (take (length l.front - n)) l.is ∙ take-append-le (length l.front - n) l.front (l.final ∷ []) (omega arith) in
    ap frames_of cut ∙ trimmed n l.front below ∙ one_further (frames_of l.front) i.held ∙ sym (ap (λ fs. with_y fs (option_map (drop (suc n)) (newest_y fs))) was)
  where
    one_further : (fs : List Frame) (old : Slot) → with_y fs (option_map (drop n) (newest_y fs)) ≡ with_y (with_one old fs) (option_map (drop (suc n)) (newest_y (with_one old fs)))
    one_further [] old = refl
    one_further (f ∷ fs) old = at f.y
      where
        at : (o : Option (List Slot)) → record f { y = option_map (drop n) o } ∷ fs ≡ record f { y = option_map (drop (suc n)) (option_map (λ y. old ∷ y) o) } ∷ fs
        at (Some y) = refl
        at None = refl

pub trim_frames : (ws : List Word) (n : ℕ) → n ≤ y_count (frames_of ws) → frames_of (take (length ws - n) ws) ≡ with_y (frames_of ws) (option_map (drop n) (newest_y (frames_of ws)))
trim_frames ws n h = trimmed n ws h

pub trim_stack : (ws : List Word) (newest n : ℕ) → IsStack ws newest → n ≤ y_count (frames_of ws) → IsStack (take (length ws - n) ws) newest
trim_stack ws newest n stack h =
    let frames : frames_of (take (length ws - n) ws) ≡ with_y (frames_of ws) (option_map (drop n) (newest_y (frames_of ws))) = trimmed n ws h in
    record {
      whole = ap words_of frames ∙ omega (arith, words_dropped n (frames_of ws) h, stack.whole, length-take-le (length ws - n) ws (omega arith));
      begins = stack.begins ∙ sym (ap words_of (ap older_than frames ∙ older_with (frames_of ws) (option_map (drop n) (newest_y (frames_of ws)))));
      linked = linked_front (take (length ws - n) ws) (drop (length ws - n) ws) (ap (are_linked []) (take-append-drop (length ws - n) ws) ∙ stack.linked);
    }
