-- Lists of words.
use Rattle.std.proofs.Common.{◌≡◌, ◌==◌, ℕ, zero, suc, false, ◌+◌, ◌-◌, ◌<◌, ◌≤◌, List, [], ◌∷◌, ◌++◌, length, replicate, take, length-take, Option, Some, None, get_or, slice_set, refl, ap, ◌∙◌, arith, append_assoc}
use Rattle.std.proofs.lemmas.List.{replicate_more, length_push}
use Rattle.beam_machine.specs.declared.process.Slot.{Slot}
use Rattle.beam_machine.specs.declared.process.Slot.TheVariants as slot
use Rattle.beam_stack.specs.Prelude.{Word, slots_with, slot_in}
use Rattle.beam_stack.specs.Word as word

-- one more equal word at the end
pub one_more_of : (words : List Word) (n : ℕ) (w : Word) → (words ++ replicate n w) ++ w ∷ [] ≡ words ++ replicate (n + 1) w
one_more_of words n w = append_assoc words (replicate n w) (w ∷ []) ∙ ap (λ more. words ++ more) (replicate_more n w)

-- a y register before others, if a word is one
abbrev pub with_word : Option Slot → List Slot → List Slot
with_word (Some s) y = s ∷ y
with_word None y = y

pub held_last : (y : List Slot) (words : List Word) (w : Word) → slots_with y (words ++ w ∷ []) ≡ with_word (slot_in w) (slots_with y words)
held_last y [] (word.Head back has_y below) = refl
held_last y [] (word.Value t) = refl
held_last y [] (word.Tag tag) = refl
held_last y (word.Head back has_y below ∷ words) w = held_last y words w
held_last y (word.Value t ∷ words) w = held_last (slot.Value t ∷ y) words w
held_last y (word.Tag tag ∷ words) w = held_last (slot.Tag tag ∷ y) words w

pub take_most : (n most : ℕ) (words : List Word) → length words ≤ most → length (take n words) ≤ most
take_most n most words h = omega (arith, h, length-take n words)

-- ---- the last word

-- a list of words that isn't empty, by its last word
pub record Ends (words : List Word) : Type 0 where
  pub front : List Word
  pub last : Word
  pub is : words ≡ front ++ last ∷ []

pub above_zero : (n : ℕ) → false ≡ (n == 0) → 0 < n
above_zero zero e = cc
above_zero (suc n) e = omega arith

pub ends : (words : List Word) → 0 < length words → Ends words
ends [] h = absurd (omega (arith, h))
ends (w ∷ []) h = record { front = []; last = w; is = refl }
ends (w ∷ v ∷ words) h =
    let rest : Ends (v ∷ words) = ends (v ∷ words) (omega arith) in
    record { front = w ∷ rest.front; last = rest.last; is = ap (λ vs. w ∷ vs) rest.is }

set_behind : (front : List Word) (last new : Word) → slice_set (front ++ last ∷ []) (length front) new ≡ front ++ new ∷ []
set_behind [] last new = refl
set_behind (w ∷ front) last new = ap (λ vs. w ∷ vs) (set_behind front last new)

get_behind : (front : List Word) (last other : Word) → get_or (front ++ last ∷ []) (length front) other ≡ last
get_behind [] last other = refl
get_behind (w ∷ front) last other = get_behind front last other

before_last : (words front : List Word) (last : Word) (n : ℕ) → n ≡ length words → words ≡ front ++ last ∷ [] → n - 1 ≡ length front
before_last words front last n long is = omega (arith, long, ap length is, length_push front last)

pub set_last : (words front : List Word) (last new : Word) (n : ℕ) → n ≡ length words → words ≡ front ++ last ∷ [] → slice_set words (n - 1) new ≡ front ++ new ∷ []
set_last words front last new n long is =
    ap (λ k. slice_set words k new) (before_last words front last n long is) ∙ ap (λ vs. slice_set vs (length front) new) is ∙ set_behind front last new

pub get_last : (words front : List Word) (last other : Word) (n : ℕ) → n ≡ length words → words ≡ front ++ last ∷ [] → get_or words (n - 1) other ≡ last
get_last words front last other n long is =
    ap (λ k. get_or words k other) (before_last words front last n long is) ∙ ap (λ vs. get_or vs (length front) other) is ∙ get_behind front last other
