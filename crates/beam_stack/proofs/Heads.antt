-- Changes of the newest frame's head, and new heads.
use Rattle.std.proofs.Common.{◌≡◌, ℕ, zero, suc, ◌+◌, ◌-◌, ◌<◌, Bool, true, false, ◌==◌, List, [], ◌∷◌, ◌++◌, length, take, drop, replicate, Option, Some, None, refl, ap, sym, ◌∙◌, subst, arith, take_at, drop_at, append_assoc, length-append, eq-eqb}
use Rattle.std.proofs.lemmas.Bool.{false≢true}
use Rattle.std.proofs.lemmas.List.{same_from_push, length_push, take_rest, length-replicate}
use Rattle.beam_machine.specs.declared.process.Frame.{Frame}
use Rattle.beam_machine.specs.declared.process.Slot.{Slot}
use Rattle.beam_machine.specs.Prelude.{words_of, with_y, tag_in, tag_of, slots_of}
use Rattle.beam_term.specs.Prelude.{TermValue}
use Rattle.beam_model.specs.Prelude.{Place}
use Rattle.beam_machine.specs.declared.process.Slot.TheVariants as slot
use Rattle.beam_stack.specs.Prelude.{Word, newest_y, y_count, is_bare, frames_of, are_linked, IsStack, slots_with, marked, needs_no_drop}
use Rattle.beam_stack.specs.Word as word
use Rattle.beam_stack.proofs.Grown.{one_more}
use Rattle.beam_stack.proofs.Tops.{are_y, frame_with, frames_top, by_top, stack_of, none_after, linked_parts}

-- ---- a frame more

pub pushed : (ws : List Word) (newest : ℕ) (back : Option Place) (below : ℕ) → IsStack ws newest → below ≡ y_count (frames_of ws) → IsStack (ws ++ word.Head back false below ∷ []) (length ws)
pushed ws newest back below stack says = stack_of ws back false below [] stack.whole stack.linked (eq-eqb below (y_count (frames_of ws)) says) refl

-- ---- y registers for a frame that has none

are_nils : (n : ℕ) (t : TermValue) → are_y true (replicate n (word.Value t)) ≡ true
are_nils zero t = refl
are_nils (suc n) t = are_nils n t

held_nils : (n m : ℕ) (t : TermValue) → slots_with (replicate m (slot.Value t)) (replicate n (word.Value t)) ≡ replicate (m + n) (slot.Value t)
held_nils zero m t = let e : m ≡ m + zero = omega arith in ap (λ k. replicate k (slot.Value t)) e
held_nils (suc n) m t = let e : suc m + n ≡ m + suc n = omega arith in held_nils n (suc m) t ∙ ap (λ k. replicate k (slot.Value t)) e

pub record IsMarked (words : List Word) (newest : ℕ) (frames : List Frame) : Type 0 where
  pub stack : IsStack words newest
  pub frames_are : frames_of words ≡ frames

-- a frame whose head has its flag set, and which gets n y registers of one value
nils_top : (before : List Word) (back : Option Place) (below n : ℕ) (t : TermValue) → words_of (frames_of before) ≡ length before → are_linked [] before ≡ true → (below == y_count (frames_of before)) ≡ true
    → IsMarked ((before ++ word.Head back true below ∷ []) ++ replicate n (word.Value t)) (length before) (frame_with back true (replicate n (slot.Value t)) ∷ frames_of before)
nils_top before back below n t whole linked links =
    let words : (before ++ word.Head back true below ∷ []) ++ replicate n (word.Value t) ≡ before ++ word.Head back true below ∷ replicate n (word.Value t) = append_assoc before (word.Head back true below ∷ []) (replicate n (word.Value t)) in
    let none : zero + n ≡ n = omega arith in
    let y : slots_with [] (replicate n (word.Value t)) ≡ replicate n (slot.Value t) = held_nils n 0 t ∙ ap (λ k. replicate k (slot.Value t)) none in
    record {
      stack = subst (λ vs. IsStack vs (length before)) (sym words) (stack_of before back true below (replicate n (word.Value t)) whole linked links (are_nils n t));
      frames_are = ap frames_of words ∙ frames_top before back true below (replicate n (word.Value t)) (are_nils n t) ∙ ap (λ ys. frame_with back true ys ∷ frames_of before) y;
    }

bare_top : (has_y : Bool) (back : Option Place) (y : List Slot) (fs : List Frame) → is_bare (frame_with back has_y y ∷ fs) ≡ true → has_y ≡ false
bare_top true back y fs h = absurd (false≢true h)
bare_top false back y fs h = refl

-- a frame without y registers ends with its head
pub bare_end : (ws : List Word) (newest : ℕ) → IsStack ws newest → is_bare (frames_of ws) ≡ true → length ws ≡ newest + 1
bare_end ws newest stack = by_top (λ vs at. is_bare (frames_of vs) ≡ true → length vs ≡ at + 1) (λ bare. absurd (false≢true bare)) some ws newest stack
  where
    some : (before : List Word) (back : Option Place) (has_y : Bool) (below : ℕ) (after : List Word) → words_of (frames_of before) ≡ length before → are_y has_y after ≡ true
        → is_bare (frames_of (before ++ word.Head back has_y below ∷ after)) ≡ true → length (before ++ word.Head back has_y below ∷ after) ≡ length before + 1
    some before back has_y below after whole slots bare =
        let none : has_y ≡ false = bare_top has_y back (slots_with [] after) (frames_of before) (ap is_bare (sym (frames_top before back has_y below after slots)) ∙ bare) in
        let nothing : after ≡ [] = none_after after (subst (λ b. are_y b after ≡ true) none slots) in
        omega (arith, length-append before (word.Head back has_y below ∷ after), ap length nothing)

-- a frame without y registers ends with a word that has nothing to be freed
pub bare_plain : (ws : List Word) (newest : ℕ) → IsStack ws newest → is_bare (frames_of ws) ≡ true → (front : List Word) (last : Word) → ws ≡ front ++ last ∷ [] → needs_no_drop last ≡ true
bare_plain ws newest stack =
    by_top (λ vs at. is_bare (frames_of vs) ≡ true → (front : List Word) (last : Word) → vs ≡ front ++ last ∷ [] → needs_no_drop last ≡ true) (λ bare. absurd (false≢true bare)) some ws newest stack
  where
    some : (before : List Word) (back : Option Place) (has_y : Bool) (below : ℕ) (after : List Word) → words_of (frames_of before) ≡ length before → are_y has_y after ≡ true
        → is_bare (frames_of (before ++ word.Head back has_y below ∷ after)) ≡ true → (front : List Word) (last : Word) → before ++ word.Head back has_y below ∷ after ≡ front ++ last ∷ []
        → needs_no_drop last ≡ true
    some before back has_y below after whole slots bare front last is =
        let none : has_y ≡ false = bare_top has_y back (slots_with [] after) (frames_of before) (ap is_bare (sym (frames_top before back has_y below after slots)) ∙ bare) in
        let nothing : after ≡ [] = none_after after (subst (λ b. are_y b after ≡ true) none slots) in
        let same : (front ≡ before) × (last ≡ word.Head back has_y below) = same_from_push front before last (word.Head back has_y below) (sym is ∙ ap (λ vs. before ++ word.Head back has_y below ∷ vs) nothing) in
        ap needs_no_drop same.1

-- where there is a frame there is a word
pub bare_length : (ws : List Word) (newest : ℕ) → IsStack ws newest → is_bare (frames_of ws) ≡ true → 0 < length ws
bare_length [] newest stack bare = absurd (false≢true bare)
bare_length (w ∷ ws) newest stack bare = omega arith

pub allocated : (ws : List Word) (newest : ℕ) (front : List Word) (head : Word) (n : ℕ) (t : TermValue) → IsStack ws newest → is_bare (frames_of ws) ≡ true → ws ≡ front ++ head ∷ []
    → IsMarked ((front ++ marked true head ∷ []) ++ replicate n (word.Value t)) newest (with_y (frames_of ws) (Some (replicate n (slot.Value t))))
allocated ws newest front head n t stack bare is =
    by_top (λ vs at. are_linked [] vs ≡ true → is_bare (frames_of vs) ≡ true → vs ≡ front ++ head ∷ [] → IsMarked ((front ++ marked true head ∷ []) ++ replicate n (word.Value t)) at (with_y (frames_of vs) (Some (replicate n (slot.Value t)))))
    (λ linked bare is. absurd (false≢true bare)) some ws newest stack stack.linked bare is
  where
    some : (before : List Word) (back : Option Place) (has_y : Bool) (below : ℕ) (after : List Word) → words_of (frames_of before) ≡ length before → are_y has_y after ≡ true
        → are_linked [] (before ++ word.Head back has_y below ∷ after) ≡ true → is_bare (frames_of (before ++ word.Head back has_y below ∷ after)) ≡ true → before ++ word.Head back has_y below ∷ after ≡ front ++ head ∷ []
        → IsMarked ((front ++ marked true head ∷ []) ++ replicate n (word.Value t)) (length before) (with_y (frames_of (before ++ word.Head back has_y below ∷ after)) (Some (replicate n (slot.Value t))))
    some before back has_y below after whole slots linked bare is =
        let frames : frames_of (before ++ word.Head back has_y below ∷ after) ≡ frame_with back has_y (slots_with [] after) ∷ frames_of before = frames_top before back has_y below after slots in
        let has_none : has_y ≡ false = bare_top has_y back (slots_with [] after) (frames_of before) (sym (ap is_bare frames) ∙ bare) in
        let ends : after ≡ [] = none_after after (subst (λ b. are_y b after ≡ true) has_none slots) in
        let parts : (are_linked [] before ≡ true) × ((below == y_count (frames_of before)) ≡ true) = linked_parts before back has_y below after linked in
        let same : (front ≡ before) × (head ≡ word.Head back has_y below) = same_from_push front before head (word.Head back has_y below) (sym is ∙ ap (λ vs. before ++ word.Head back has_y below ∷ vs) ends) in
        let made : IsMarked ((before ++ word.Head back true below ∷ []) ++ replicate n (word.Value t)) (length before) (frame_with back true (replicate n (slot.Value t)) ∷ frames_of before) = nils_top before back below n t whole parts.0 parts.1 in
        let here : (before ++ word.Head back true below ∷ []) ++ replicate n (word.Value t) ≡ (front ++ marked true head ∷ []) ++ replicate n (word.Value t) = sym (ap (λ vs. (vs ++ marked true head ∷ []) ++ replicate n (word.Value t)) same.0 ∙ ap (λ w. (before ++ marked true w ∷ []) ++ replicate n (word.Value t)) same.1) in
        record {
          stack = subst (λ vs. IsStack vs (length before)) here made.stack;
          frames_are = sym (ap frames_of here) ∙ made.frames_are ∙ sym (ap (λ fs. with_y fs (Some (replicate n (slot.Value t)))) frames);
        }

-- ---- a frame without its y registers

pub dropped : (ws : List Word) (newest : ℕ) (front : List Word) (head : Word) → IsStack ws newest → take (newest + 1) ws ≡ front ++ head ∷ []
    → IsMarked (front ++ marked false head ∷ []) newest (with_y (frames_of ws) None)
dropped ws newest front head stack is =
    by_top (λ vs at. are_linked [] vs ≡ true → take (at + 1) vs ≡ front ++ head ∷ [] → IsMarked (front ++ marked false head ∷ []) at (with_y (frames_of vs) None))
    (λ linked is. absurd (omega (arith, ap length is, length_push front head))) some ws newest stack stack.linked is
  where
    some : (before : List Word) (back : Option Place) (has_y : Bool) (below : ℕ) (after : List Word) → words_of (frames_of before) ≡ length before → are_y has_y after ≡ true
        → are_linked [] (before ++ word.Head back has_y below ∷ after) ≡ true → take (length before + 1) (before ++ word.Head back has_y below ∷ after) ≡ front ++ head ∷ []
        → IsMarked (front ++ marked false head ∷ []) (length before) (with_y (frames_of (before ++ word.Head back has_y below ∷ after)) None)
    some before back has_y below after whole slots linked is =
        let frames : frames_of (before ++ word.Head back has_y below ∷ after) ≡ frame_with back has_y (slots_with [] after) ∷ frames_of before = frames_top before back has_y below after slots in
        let parts : (are_linked [] before ≡ true) × ((below == y_count (frames_of before)) ≡ true) = linked_parts before back has_y below after linked in
        let same : (front ≡ before) × (head ≡ word.Head back has_y below) = same_from_push front before head (word.Head back has_y below) (sym is ∙ take_head before (word.Head back has_y below) after) in
        let here : before ++ word.Head back false below ∷ [] ≡ front ++ marked false head ∷ [] = sym (ap (λ vs. vs ++ marked false head ∷ []) same.0 ∙ ap (λ w. before ++ marked false w ∷ []) same.1) in
        let made : IsStack (before ++ word.Head back false below ∷ []) (length before) = stack_of before back false below [] whole parts.0 parts.1 refl in
        record {
          stack = subst (λ vs. IsStack vs (length before)) here made;
          frames_are = sym (ap frames_of here) ∙ one_more before (word.Head back false below) ∙ sym (ap (λ fs. with_y fs None) frames);
        }
      where
        take_head : (vs : List Word) (w : Word) (more : List Word) → take (length vs + 1) (vs ++ w ∷ more) ≡ vs ++ w ∷ []
        take_head vs w more = ap (take (length vs + 1)) (sym (append_assoc vs (w ∷ []) more)) ∙ take_at (vs ++ w ∷ []) more (length vs + 1) (length_push vs w)

-- ---- the catch tag of the newest frame

-- the words after the newest head
abbrev pub after_head : List Word → ℕ → List Word
after_head ws newest = take (length ws - (newest + 1)) (drop (newest + 1) ws)

after_is : (before : List Word) (w : Word) (after : List Word) → after_head (before ++ w ∷ after) (length before) ≡ after
after_is before w after =
    take_rest (before ++ w ∷ after) (length before + 1) ∙ ap (drop (length before + 1)) (sym (append_assoc before (w ∷ []) after)) ∙ drop_at (before ++ w ∷ []) after (length before + 1) (length_push before w)

pub newest_tag_is : (ws : List Word) (newest : ℕ) → IsStack ws newest → tag_in (slots_with [] (after_head ws newest)) ≡ tag_of (newest_y (frames_of ws))
newest_tag_is ws newest stack =
    by_top (λ vs at. tag_in (slots_with [] (after_head vs at)) ≡ tag_of (newest_y (frames_of vs))) refl
    (λ before back has_y below after whole slots. ap (λ vs. tag_in (slots_with [] vs)) (after_is before (word.Head back has_y below) after) ∙ tag has_y back after slots (frames_of before) ∙ sym (ap (λ fs. tag_of (newest_y fs)) (frames_top before back has_y below after slots)))
    ws newest stack
  where
    tag : (has_y : Bool) (back : Option Place) (after : List Word) → are_y has_y after ≡ true → (fs : List Frame) → tag_in (slots_with [] after) ≡ tag_of (newest_y (frame_with back has_y (slots_with [] after) ∷ fs))
    tag true back after slots fs = refl
    tag false back after slots fs = ap (λ vs. tag_in (slots_with [] vs)) (none_after after slots)

pub newest_slots : (ws : List Word) (newest : ℕ) → IsStack ws newest → slots_with [] (after_head ws newest) ≡ slots_of (newest_y (frames_of ws))
newest_slots ws newest stack =
    by_top (λ vs at. slots_with [] (after_head vs at) ≡ slots_of (newest_y (frames_of vs))) refl
    (λ before back has_y below after whole slots. ap (slots_with []) (after_is before (word.Head back has_y below) after) ∙ y has_y back after slots (frames_of before) ∙ sym (ap (λ fs. slots_of (newest_y fs)) (frames_top before back has_y below after slots)))
    ws newest stack
  where
    y : (has_y : Bool) (back : Option Place) (after : List Word) → are_y has_y after ≡ true → (fs : List Frame) → slots_with [] after ≡ slots_of (newest_y (frame_with back has_y (slots_with [] after) ∷ fs))
    y true back after slots fs = refl
    y false back after slots fs = ap (slots_with []) (none_after after slots)

pub allocated_length : (front : List Word) (old new : Word) (n : ℕ) (w : Word) → length ((front ++ new ∷ []) ++ replicate n w) ≡ length (front ++ old ∷ []) + n
allocated_length front old new n w = omega (arith, length-append (front ++ new ∷ []) (replicate n w), length_push front new, length_push front old, length-replicate n w)
