-- The facts that the newest frame's head holds.
use Rattle.std.proofs.Common.{◌≡◌, ℕ, zero, suc, Bool, true, false, not, ◌==◌, ◌&&◌, ◌||◌, nat_lt, if◌then◌else◌, List, [], ◌∷◌, ◌++◌, length, Option, Some, None, is_some, slice_get, refl, ap, sym, ◌∙◌, rules, eqb-true}
use Rattle.std.proofs.lemmas.Option.{none-some}
use Rattle.std.proofs.Math.Bool.{and-true}
use Rattle.beam_machine.specs.declared.process.Frame.{Frame}
use Rattle.beam_machine.specs.declared.process.Slot.{Slot}
use Rattle.beam_machine.specs.Prelude.{words_of}
use Rattle.beam_model.specs.Prelude.{Place}
use Rattle.beam_stack.specs.declared.word.Head.{Head}
use Rattle.beam_stack.specs.Prelude.{Word, newest_y, count_in, y_count, drops, is_bare, back_of, newest_back, head_of, frames_of, are_linked, IsStack, slots_with, head_in}
use Rattle.beam_stack.specs.Word as word
use Rattle.beam_stack.proofs.Tops.{are_y, by_top, frame_with, frames_top, get_at, linked_parts}

abbrev pub flag_in : Option Head → Bool
flag_in (Some head) = head.has_y
flag_in None = false

abbrev pub bare_in : Option Head → Bool
bare_in (Some head) = not head.has_y
bare_in None = false

abbrev pub back_in : Option Head → Option (Option Place)
back_in (Some head) = if head.has_y then None else Some head.back
back_in None = None

abbrev pub place_in : Option Head → Option Place
place_in (Some head) = head.back
place_in None = None

abbrev says : Option Place → Bool → ℕ → Option Head
says back has_y below = Some (record { back = back; has_y = has_y; below = below })

pub head_is : (ws : List Word) (newest : ℕ) → IsStack ws newest → head_in (slice_get ws newest) ≡ head_of (frames_of ws)
head_is ws newest stack = by_top (λ vs at. are_linked [] vs ≡ true → head_in (slice_get vs at) ≡ head_of (frames_of vs)) (λ linked. refl) some ws newest stack stack.linked
  where
    same : (back : Option Place) (has_y : Bool) (y : List Slot) (fs : List Frame) → Some (record { back = back; has_y = has_y; below = y_count fs }) ≡ head_of (frame_with back has_y y ∷ fs)
    same back true y fs = refl
    same back false y fs = refl

    some : (before : List Word) (back : Option Place) (has_y : Bool) (below : ℕ) (after : List Word) → words_of (frames_of before) ≡ length before → are_y has_y after ≡ true
        → are_linked [] (before ++ word.Head back has_y below ∷ after) ≡ true → head_in (slice_get (before ++ word.Head back has_y below ∷ after) (length before)) ≡ head_of (frames_of (before ++ word.Head back has_y below ∷ after))
    some before back has_y below after whole slots linked =
        let parts : (are_linked [] before ≡ true) × ((below == y_count (frames_of before)) ≡ true) = linked_parts before back has_y below after linked in
        ap head_in (get_at before (word.Head back has_y below) after) ∙ ap (says back has_y) (eqb-true below (y_count (frames_of before)) parts.1)
        ∙ same back has_y (slots_with [] after) (frames_of before) ∙ sym (ap head_of (frames_top before back has_y below after slots))

pub flag_is : (fs : List Frame) → flag_in (head_of fs) ≡ is_some (newest_y fs)
flag_is [] = refl
flag_is (f ∷ fs) = refl

pub bare_is : (fs : List Frame) → bare_in (head_of fs) ≡ is_bare fs
bare_is [] = refl
bare_is (f ∷ fs) = refl

pub back_is : (fs : List Frame) → back_in (head_of fs) ≡ back_of fs
back_is [] = refl
back_is (f ∷ fs) = refl

pub place_is : (fs : List Frame) → place_in (head_of fs) ≡ newest_back fs
place_is [] = refl
place_is (f ∷ fs) = refl

pub back_bare : (fs : List Frame) (back : Option Place) → back_of fs ≡ Some back → is_bare fs ≡ true
back_bare [] back e = absurd (none-some back e)
back_bare (f ∷ fs) back e = by_flag (is_some f.y) e
  where
    by_flag : (b : Bool) → (if b then None else Some f.back) ≡ Some back → not b ≡ true
    by_flag true e = absurd (none-some back e)
    by_flag false e = refl

whatever : (a b : Bool) → (a && (b || true)) ≡ a
whatever a true = and-true a
whatever a false = and-true a

-- n y registers can be dropped where the frame has exactly n, also if n is 0
pub drops_is : (fs : List Frame) (n : ℕ) → (y_count fs == n && (nat_lt 0 n || is_some (newest_y fs))) ≡ drops n (newest_y fs)
drops_is fs n = by_y (newest_y fs) n
  where
    by_y : (y : Option (List Slot)) (n : ℕ) → (count_in y == n && (nat_lt 0 n || is_some y)) ≡ drops n y
    by_y None zero = refl
    by_y None (suc n) = search rules
    by_y (Some y) n = whatever (length y == n) (nat_lt 0 n)
