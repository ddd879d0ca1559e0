-- Where the rows of a framed listing go: each place is a row, and its shape is the assignment's.
use Rattle.std.proofs.Common.{◌≡◌, ℕ, suc, ◌+◌, ◌-◌, ◌<◌, ◌≤◌, ◌==◌, ◌&&◌, ◌||◌, Bool, true, false, cond, not, List, [], ◌∷◌, length, drop, refl, sym, ap, subst, ◌∙◌, true≢false, length-drop, get_or-drop, arith, Option, Some, None, is_some, option_and_then}
use Rattle.std.proofs.lemmas.Bool.{and_parts}
use Rattle.std.proofs.lemmas.Bool.Decides.{nat_tests}
use Rattle.std.proofs.lemmas.Option.{unwrap_or-slice_get, same_Some}
use Rattle.std.specs.List.{list_all}
use Rattle.beam_model.specs.declared.instruction.Instruction.{Instruction}
use Rattle.beam_model.specs.Prelude.{end_of_code, bare, sized, any, Assignment, first_tag, may_have, is_bare as is_bare_in, shape_of_label, begins_bare, in_list, row_at, targets, jumps, may_raise, leads, finds, fits, fits_if, leads_on, shape_after, read_ys, written_ys, is_value, is_there as is_there_in, tags_a_y, tag as tag_by_row, called, IsWellFormed, Listing, label_of, is_row, is_this_number, gap_before_row, row_of_label, next_row, is_among, with_label, defined_labels, Place, Shape}
use Rattle.beam_machine.specs.declared.process.Slot.{Slot}
use Rattle.beam_machine.specs.Prelude.{Code, listing_of}
use Rattle.beam_shape_laws.specs.Shaped.{HasShape, Fits, Catches}
use Rattle.beam_shape_laws.proofs.Slots.{to_place, first_of}
use Rattle.beam_shape_laws.proofs.Standing.{FitsRow}
use Rattle.beam_shape_laws.proofs.Small.{in_parts}

-- ---- rows

-- a position that is a row
abbrev pub IsRowAt : List Instruction → ℕ → Type 0
IsRowAt is at = (at ≤ length is) × (is_row (row_at is at) ≡ true)

plus_one : (n : ℕ) → n + 1 ≡ suc n
plus_one n = omega arith

passed_row : (is : List Instruction) → IsRowAt is (gap_before_row is)
passed_row [] = (omega arith, refl)
passed_row (i ∷ rest) = go (is_row i) refl (passed_row rest)
  where
    go : (b : Bool) → is_row i ≡ b → IsRowAt rest (gap_before_row rest) → IsRowAt (i ∷ rest) (cond b 0 (gap_before_row rest + 1))
    go true e k = (omega arith, e)
    go false e k = subst (IsRowAt (i ∷ rest)) (sym (plus_one (gap_before_row rest))) (omega (arith, k.0), k.1)

-- k, counted from at, is the position of a row in the list
abbrev IsRowBehind : ℕ → List Instruction → ℕ → Type 0
IsRowBehind at is k = (j : ℕ) × (k ≡ at + j) × IsRowAt is j

label_behind : (label at : ℕ) (is : List Instruction) (k : ℕ) → row_of_label label at is ≡ Some k → IsRowBehind at is k
label_behind label at [] k e = cc
label_behind label at (i ∷ rest) k e = go (label_behind label (at + 1) rest k) (is_this_number label (label_of i)) e
  where
    go : (row_of_label label (at + 1) rest ≡ Some k → IsRowBehind (at + 1) rest k) → (b : Bool) → cond b (Some (at + 1 + gap_before_row rest)) (row_of_label label (at + 1) rest) ≡ Some k → IsRowBehind at (i ∷ rest) k
    go more true e =
        let row = passed_row rest in
        let is : at + 1 + gap_before_row rest ≡ k = same_Some (at + 1 + gap_before_row rest) k e in
        (suc (gap_before_row rest), omega (arith, is), (omega (arith, row.0), row.1))
    go more false e =
        let later = more e in
        (suc later.0, omega (arith, later.1), (omega (arith, later.2.0), later.2.1))

pub label_row : (label : ℕ) (is : List Instruction) (k : ℕ) → row_of_label label 0 is ≡ Some k → IsRowAt is k
label_row label is k e =
    let row = label_behind label 0 is k e in
    subst (IsRowAt is) (omega (arith, row.1)) row.2

row_behind : (is : List Instruction) (n k : ℕ) → row_at (drop n is) k ≡ row_at is (n + k)
row_behind is n k = unwrap_or-slice_get (drop n is) k end_of_code ∙ (get_or-drop n is k end_of_code ∙ sym (unwrap_or-slice_get is (n + k) end_of_code))

pub next_is_row : (is : List Instruction) (at : ℕ) → at < length is → IsRowAt is (next_row at is)
next_is_row is at within =
    let row = passed_row (drop (at + 1) is) in
    let most : length (drop (at + 1) is) ≡ length is - (at + 1) = length-drop (at + 1) is in
    (omega (arith, row.0, most, within), ap is_row (sym (row_behind is (at + 1) (gap_before_row (drop (at + 1) is)))) ∙ row.1)

-- ---- labels that are defined

same_number : (n m : ℕ) (b : Bool) → (n == m) ≡ b → (m == n) ≡ b
same_number n m true e = grind (arith, nat_tests)
same_number n m false e = grind (arith, nat_tests)

among_front : (label at : ℕ) (i : Instruction) (rest : List Instruction) (o : Option ℕ) → label_of i ≡ o → is_among label (with_label o (defined_labels rest)) ≡ true
    → (is_among label (defined_labels rest) ≡ true → is_some (row_of_label label (at + 1) rest) ≡ true) → is_some (row_of_label label at (i ∷ rest)) ≡ true
among_front label at i rest None e h k = ap (λ o. is_some (cond (is_this_number label o) (Some (at + 1 + gap_before_row rest)) (row_of_label label (at + 1) rest))) e ∙ k h
among_front label at i rest (Some n) e h k =
    ap (λ o. is_some (cond (is_this_number label o) (Some (at + 1 + gap_before_row rest)) (row_of_label label (at + 1) rest))) e ∙ go (label == n) refl h
  where
    go : (b : Bool) → (label == n) ≡ b → (b || is_among label (defined_labels rest)) ≡ true → is_some (cond (n == label) (Some (at + 1 + gap_before_row rest)) (row_of_label label (at + 1) rest)) ≡ true
    go true f h = ap (λ b. is_some (cond b (Some (at + 1 + gap_before_row rest)) (row_of_label label (at + 1) rest))) (same_number label n true f)
    go false f h = ap (λ b. is_some (cond b (Some (at + 1 + gap_before_row rest)) (row_of_label label (at + 1) rest))) (same_number label n false f) ∙ k h

pub defined_row : (label at : ℕ) (is : List Instruction) → is_among label (defined_labels is) ≡ true → is_some (row_of_label label at is) ≡ true
defined_row label at [] h = absurd (true≢false (sym h))
defined_row label at (i ∷ rest) h = among_front label at i rest (label_of i) refl h (defined_row label (at + 1) rest)

-- ---- places of a framed listing

module _ (code : Code) (instance : ℕ) (l : Listing) (found : listing_of code instance ≡ Some l) (w : IsWellFormed l) where
  abbrev shapes : Assignment
  shapes = w.framed.shapes

  abbrev place : ℕ → Place
  place at = record { instance = instance; at = at }

  -- a row that may be reached with a shape fits y registers of that shape
  pub fits_row : (s : Shape) (y : Option (List Slot)) (at : ℕ) → IsRowAt l.instructions at → may_have s (shapes at) ≡ true → HasShape instance l.instructions s y → Fits code (place at) y
  fits_row s y at row e has =
      let t = to_place instance l.instructions s (shapes at) y e has in
      record { listing = l; found = found; lawful = w; shape = t.0; before = t.1; within = row.0; row = row.1; has = t.2 }

  fits_label_row : (s : Shape) (y : Option (List Slot)) (label : ℕ) (o : Option ℕ) → row_of_label label 0 l.instructions ≡ o → may_have s (option_and_then shapes o) ≡ true → HasShape instance l.instructions s y
      → FitsRow code instance y o
  fits_label_row s y label None f e has = absurd (true≢false (sym e))
  fits_label_row s y label (Some at) f e has = fits_row s y at (label_row label l.instructions at f) e has

  pub fits_label : (s : Shape) (y : Option (List Slot)) (label : ℕ) → may_have s (shape_of_label shapes l.instructions label) ≡ true → HasShape instance l.instructions s y
      → FitsRow code instance y (row_of_label label 0 l.instructions)
  fits_label s y label e has = fits_label_row s y label (row_of_label label 0 l.instructions) refl e has

  bare_may : (o : Option Shape) → is_bare_in o ≡ true → may_have bare o ≡ true
  bare_may None e = absurd (true≢false (sym e))
  bare_may (Some bare) e = refl
  bare_may (Some (sized ts)) e = absurd (true≢false (sym e))
  bare_may (Some any) e = absurd (true≢false (sym e))

  pub begins_label : (label : ℕ) → begins_bare shapes l.instructions label ≡ true → FitsRow code instance None (row_of_label label 0 l.instructions)
  begins_label label e = fits_label bare None label (bare_may (shape_of_label shapes l.instructions label) e) tt

  -- ---- facts of the rows of a listing

  pub next_fits : (s : Shape) (at : ℕ) → at < length l.instructions → may_have s (shapes (next_row at l.instructions)) ≡ true → (y : Option (List Slot)) → HasShape instance l.instructions s y
      → Fits code (place (next_row at l.instructions)) y
  next_fits s at within e y has = fits_row s y (next_row at l.instructions) (next_is_row l.instructions at within) e has

  -- the place to which the first catch tag leads fits a row's y registers, where the row may raise
  caught_from : (s : Shape) (y : Option (List Slot)) → HasShape instance l.instructions s y → list_all (λ label. may_have s (shape_of_label shapes l.instructions label)) (in_list (first_tag s)) ≡ true → Catches code y
  caught_from s y has e tag is =
      let t = first_of instance l.instructions s y tag has is in
      let leads : (may_have s (shape_of_label shapes l.instructions t.0) && true) ≡ true =
      subst (λ o. list_all (λ label. may_have s (shape_of_label shapes l.instructions label)) (in_list o) ≡ true) t.1 e in
      let fit : FitsRow code instance y (Some tag.place.at) = subst (FitsRow code instance y) t.3 (fits_label s y t.0 (and_parts (may_have s (shape_of_label shapes l.instructions t.0)) true leads).0 has) in
      subst (λ n. Fits code (record { instance = n; at = tag.place.at }) y) (sym t.2) fit

  -- the facts of a row that is reached with a shape, by the assignment
  pub record Facts (i : Instruction) (at : ℕ) (s : Shape) (y : Option (List Slot)) : Type 0 where
    pub values : list_all (is_value s) (read_ys i) ≡ true
    pub there : list_all (is_there_in s) (written_ys i) ≡ true
    pub tagged : tags_a_y (tag_by_row i) (written_ys i) ≡ true
    pub begins : list_all (begins_bare shapes l.instructions) (in_list (called i)) ≡ true
    pub raises : may_raise i ≡ true → Catches code y
    pub jumps : list_all (λ label. may_have s (shape_of_label shapes l.instructions label)) (jumps i) ≡ true
    pub on : leads_on shapes i (next_row at l.instructions) (shape_after i s) ≡ true

  pub facts_of : (i : Instruction) (at : ℕ) (s : Shape) (y : Option (List Slot)) → HasShape instance l.instructions s y → fits shapes l.instructions i (next_row at l.instructions) s ≡ true → Facts i at s y
  facts_of i at s y has e =
      let next = next_row at l.instructions in
      let whole = and_parts (finds i s && leads shapes l.instructions i s) (leads_on shapes i next (shape_after i s)) e in
      let parts = and_parts (finds i s) (leads shapes l.instructions i s) whole.0 in
      let found = and_parts (list_all (is_value s) (read_ys i) && list_all (is_there_in s) (written_ys i)) (tags_a_y (tag_by_row i) (written_ys i)) parts.0 in
      let registers = and_parts (list_all (is_value s) (read_ys i)) (list_all (is_there_in s) (written_ys i)) found.0 in
      let test : ℕ → Bool = λ label. may_have s (shape_of_label shapes l.instructions label) in
      let led = and_parts (list_all (begins_bare shapes l.instructions) (in_list (called i))) (list_all test (targets i s)) parts.1 in
      let ways = in_parts test (cond (may_raise i) (in_list (first_tag s)) []) (jumps i) led.1 in
      record {
        values = registers.0;
        there = registers.1;
        tagged = found.1;
        begins = led.0;
        raises = λ r. caught_from s y has (subst (λ b. list_all test (cond b (in_list (first_tag s)) []) ≡ true) r ways.0);
        jumps = ways.1;
        on = whole.1;
      }

  row_fits : (i : Instruction) (at : ℕ) (s : Shape) (o : Option Shape) → o ≡ Some s → is_row i ≡ true → fits_if shapes l.instructions i (next_row at l.instructions) o ≡ true → fits shapes l.instructions i (next_row at l.instructions) s ≡ true
  row_fits i at s o f r e =
      ap (λ b. not b || fits shapes l.instructions i (next_row at l.instructions) s) (sym r) ∙ subst (λ o. fits_if shapes l.instructions i (next_row at l.instructions) o ≡ true) f e

  pub facts_at : (at : ℕ) (s : Shape) (y : Option (List Slot)) → shapes at ≡ Some s → IsRowAt l.instructions at → HasShape instance l.instructions s y → Facts (row_at l.instructions at) at s y
  facts_at at s y before row has =
      facts_of (row_at l.instructions at) at s y has (row_fits (row_at l.instructions at) at s (shapes at) before row.1 (w.framed.fit at row.0))
