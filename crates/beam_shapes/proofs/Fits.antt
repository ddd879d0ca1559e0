-- Steps of the search for a row, as statements of assignments.
use Rattle.std.proofs.Common.{◌≡◌, ℕ, zero, suc, ◌+◌, ◌<◌, ◌≤◌, Bool, true, false, List, length, get_or, replicate, Option, Some, None, Result, Ok, Err, refl, ap, sym, ◌∙◌, subst, ⊎_elim, arith, ◌&&◌, ◌||◌, not, is_some, unwrap_or, MatchResult, true≢false}
use Rattle.std.specs.List.{list_all}
use Rattle.std.proofs.lemmas.Bool.{cases_lt, and_parts, and_from, or_right, both_ways}
use Rattle.std.proofs.lemmas.List.{get_or_past}
use Rattle.std.proofs.lemmas.Option.{slice_get_past}
use Rattle.beam_model.specs.declared.instruction.Instruction.{Instruction}
use Rattle.beam_model.specs.Prelude.{end_of_code, is_row, next_row, Assignment, may_have, finds, shape_after, targets, may_fall_through, leads, leads_on, fits, fits_if, row_at, begins_bare, entries, AreFramed, Shape}
use Rattle.beam_shapes.specs.Prelude.{ShapeState, assigned, LiesUnder, IsBelow, Forces, Refuses, Fails, Does, NeverLeaves, MayGo, Flows, FitsAt, IsAssignment, Settles}
use Rattle.beam_shapes.specs.declared.error.FrameCheckError.{FrameCheckError}
use Rattle.beam_shapes.specs.declared.error.FrameCheckError.TheVariants.{FrameMismatch, NoMemory}
use Rattle.beam_shapes.proofs.Forced.{forces_both, forces_as, forces_from, fails_both, fails_as, fails_from}
use Rattle.beam_shapes.proofs.Listed.{does_as}
use Rattle.beam_shapes.proofs.Looked.{goes, looked_spreads}
use Rattle.beam_shapes.proofs.Lower.{fits_lower}

leaves : (a : Assignment) (i : Instruction) (next : ℕ) (o : Option Shape) → leads_on a i next o ≡ true → is_some o ≡ true
leaves a i next None e = e
leaves a i next (Some s) e = refl

-- a row that doesn't find its registers or its frame fits in no assignment
pub never_fits : (code : List Instruction) (i : Instruction) (next : ℕ) (s : Shape) (k : ShapeState) (e : FrameCheckError) → NeverLeaves e i s → Fails e (λ a. fits a code i next s ≡ true) k
never_fits code i next s k FrameMismatch never = λ a below h.
    let p = and_parts (finds i s && leads a code i s) (leads_on a i next (shape_after i s)) h in
    let q = and_parts (finds i s) (leads a code i s) p.0 in
    both_ways (finds i s && is_some (shape_after i s)) never (and_from (finds i s) (is_some (shape_after i s)) q.0 (leaves a i next (shape_after i s) p.1))
never_fits code i next s k NoMemory never = tt

goes_back : (g : Bool) (b : Bool) → b ≡ true → (not g || b) ≡ true
goes_back true b h = h
goes_back false b h = refl

stays : (g : Bool) (b : Bool) → g ≡ false → (not g || b) ≡ true
stays true b e = absurd (true≢false e)
stays false b e = refl

module _ (code : List Instruction) (i : Instruction) (next : ℕ) (s l : Shape) (found : finds i s ≡ true) (is : shape_after i s ≡ Some l) where
  apart : (a : Assignment) → fits a code i next s ≡ true → (leads a code i s ≡ true) × ((not (may_fall_through i) || may_have l (a next)) ≡ true)
  apart a h =
      let p = and_parts (finds i s && leads a code i s) (leads_on a i next (shape_after i s)) h in
      let q = and_parts (finds i s) (leads a code i s) p.0 in
      (q.1, ap (leads_on a i next) (sym is) ∙ p.1)

  joint : (a : Assignment) → leads a code i s ≡ true → (not (may_fall_through i) || may_have l (a next)) ≡ true → fits a code i next s ≡ true
  joint a led on =
      and_from (finds i s && leads a code i s) (leads_on a i next (shape_after i s)) (and_from (finds i s) (leads a code i s) found led) (ap (leads_on a i next) is ∙ on)

  module _ (old mid : ShapeState) (known : mid.known ≡ old.known) (waiting : mid.waiting ≡ old.waiting) where
    -- a row that can't lead to its labels doesn't fit
    pub fails_leading : (e : FrameCheckError) → Fails e (λ a. leads a code i s ≡ true) mid → Fails e (λ a. fits a code i next s ≡ true) old
    fails_leading e refusal =
        fails_as (λ a. leads a code i s ≡ true) (λ a. fits a code i next s ≡ true) old e (λ a below h. (apart a h).0)
        (fails_from (λ a. leads a code i s ≡ true) old mid e known refusal)

    -- a row that doesn't go to the next row fits where it leads to its labels
    pub fits_alone : (new : ShapeState) → may_fall_through i ≡ false → Forces (λ a. leads a code i s ≡ true) mid new → Forces (λ a. fits a code i next s ≡ true) old new
    fits_alone new off led =
        forces_as (λ a. leads a code i s ≡ true) (λ a. fits a code i next s ≡ true) old new (λ a below h. (apart a h).0)
        (λ h. joint (assigned old.known) h (stays (may_fall_through i) (may_have l (assigned old.known next)) off))
        (forces_from (λ a. leads a code i s ≡ true) old mid new known waiting led)

    module _ (then : ShapeState) (on : may_fall_through i ≡ true) (led : Forces (λ a. leads a code i s ≡ true) mid then) where
      both_of : (a : Assignment) → fits a code i next s ≡ true → (leads a code i s ≡ true) × (may_have l (a next) ≡ true)
      both_of a h = let p = apart a h in (p.0, goes (may_fall_through i) (may_have l (a next)) on p.1)

      -- a row that goes to the next row fits where the next row may have the shape too
      pub fits_on : (new : ShapeState) → Forces (λ a. may_have l (a next) ≡ true) then new → Forces (λ a. fits a code i next s ≡ true) old new
      fits_on new come =
          forces_as (λ a. (leads a code i s ≡ true) × (may_have l (a next) ≡ true)) (λ a. fits a code i next s ≡ true) old new (λ a below h. both_of a h)
          (λ h. joint (assigned old.known) h.0 (goes_back (may_fall_through i) (may_have l (assigned old.known next)) h.1))
          (forces_both (λ a. leads a code i s ≡ true) (λ a. may_have l (a next) ≡ true) old then
          (forces_from (λ a. leads a code i s ≡ true) old mid then known waiting led) new come)

      pub fails_on : (e : FrameCheckError) → Fails e (λ a. may_have l (a next) ≡ true) then → Fails e (λ a. fits a code i next s ≡ true) old
      fails_on e refusal =
          fails_as (λ a. (leads a code i s ≡ true) × (may_have l (a next) ≡ true)) (λ a. fits a code i next s ≡ true) old e (λ a below h. both_of a h)
          (fails_both (λ a. leads a code i s ≡ true) (λ a. may_have l (a next) ≡ true) old then
          (forces_from (λ a. leads a code i s ≡ true) old mid then known waiting led) e refusal)

-- the step of a row, where it goes to no next row and where it does
module _ (a : Assignment) (code : List Instruction) (i : Instruction) (next : ℕ) (s l : Shape) (found : finds i s ≡ true) (is : shape_after i s ≡ Some l) (led : MayGo a code s (targets i s)) where
  pub flows_alone : may_fall_through i ≡ false → Flows a code i next s
  flows_alone off = record {
    found = found;
    goes = led;
    on = ap (leads_on a i next) is ∙ stays (may_fall_through i) (may_have l (a next)) off;
  }

  pub flows_on : may_have l (a next) ≡ true → Flows a code i next s
  flows_on come = record {
    found = found;
    goes = led;
    on = ap (leads_on a i next) is ∙ goes_back (may_fall_through i) (may_have l (a next)) come;
  }

-- the end of the code goes to no next row
pub on_within : (code : List Instruction) (at : ℕ) → may_fall_through (row_at code at) ≡ true → at < length code
on_within code at on =
    ⊎_elim
    (λ (h : at < length code). h)
    (λ (h : length code ≤ at).
    let none : row_at code at ≡ end_of_code = ap (λ (o : Option Instruction). unwrap_or o end_of_code) (slice_get_past code at h) in
    absurd (true≢false (sym on ∙ ap may_fall_through none)))
    (cases_lt at (length code))

-- ---- the row at a position

fits_there : (a : Assignment) (code : List Instruction) (i : Instruction) (next : ℕ) (s : Shape) (o : Option Shape) → is_row i ≡ true → may_have s o ≡ true → fits_if a code i next o ≡ true
    → fits a code i next s ≡ true
fits_there a code i next s None row under h = absurd (true≢false (sym under))
fits_there a code i next s (Some t) row under h = fits_lower a code i next s t under (goes (is_row i) (fits a code i next t) row h)

module _ (code : List Instruction) (at : ℕ) (s : Shape) (old : ShapeState) (is : Some s ≡ get_or old.known at None) (row : is_row (row_at code at) ≡ true) (long : length old.known ≡ length code + 1) where
  within : at ≤ length code
  within =
      ⊎_elim
      (λ (h : at < length old.known). omega (arith, h, long))
      (λ (h : length old.known ≤ at).
      let none : Some s ≡ None = is ∙ get_or_past old.known at None h in absurd (cc none))
      (cases_lt at (length old.known))

  there : (a : Assignment) → IsBelow old.known a → FitsAt a code at → fits a code (row_at code at) (next_row at code) s ≡ true
  there a below h =
      fits_there a code (row_at code at) (next_row at code) s (a at) row (subst (λ (o : Option Shape). LiesUnder o (a at)) (sym is) (below at)) (h within)

  back : fits (assigned old.known) code (row_at code at) (next_row at code) s ≡ true → FitsAt (assigned old.known) code at
  back h = λ few.
      ap (fits_if (assigned old.known) code (row_at code at) (next_row at code)) (sym is)
      ∙ or_right (not (is_row (row_at code at))) (fits (assigned old.known) code (row_at code at) (next_row at code) s) h

  pub does_step : {T : Type 0} (r : Result T FrameCheckError) (new : ShapeState) → Does r (λ a. fits a code (row_at code at) (next_row at code) s ≡ true) old new → Does r (λ a. FitsAt a code at) old new
  does_step r new one =
      does_as r (λ a. fits a code (row_at code at) (next_row at code) s ≡ true) (λ a. FitsAt a code at) old new there back one

-- a later failure is one of the whole
pub fails_later : (code : List Instruction) (first old : ShapeState) (e : FrameCheckError) → ((a : Assignment) → IsBelow first.known a → IsAssignment code a → IsBelow old.known a)
    → Fails e (IsAssignment code) old → Fails e (IsAssignment code) first
fails_later code first old FrameMismatch kept refusal = λ a below h. refusal a (kept a below h) h
fails_later code first old NoMemory kept refusal = tt

-- the search after the beginnings of the functions
pub settles_from : {T : Type 0} (r : Result T FrameCheckError) (code : List Instruction) (old mid new : ShapeState) → Forces (λ a. list_all (begins_bare a code) (entries code) ≡ true) old mid
    → MatchResult r (λ _. Settles code mid new) (λ e. Fails e (IsAssignment code) mid) → MatchResult r (λ _. Settles code old new) (λ e. Fails e (IsAssignment code) old)
settles_from (Ok x) code old mid new one two = record {
  kept = λ a below h. two.kept a (one.kept a below h.0) h;
  none = two.none;
  long = two.long ∙ one.long;
  less = omega (arith, two.less, one.less);
  looked = λ looked. two.looked (looked_spreads code old mid one.spreads looked);
}
settles_from (Err e) code old mid new one two = fails_later code old mid e (λ a below h. one.kept a below h.0) two

pub fails_at : (code : List Instruction) (old mid : ShapeState) (at : ℕ) (e : FrameCheckError) → mid.known ≡ old.known → Fails e (λ a. FitsAt a code at) mid → Fails e (IsAssignment code) old
fails_at code old mid at e known refusal =
    fails_as (λ a. FitsAt a code at) (IsAssignment code) old e (λ a below h few. h.1 at few) (fails_from (λ a. FitsAt a code at) old mid e known refusal)

nones : (m at : ℕ) → get_or (replicate {A = Option Shape} m None) at None ≡ None
nones zero at = refl
nones (suc m) zero = refl
nones (suc m) (suc at) = nones m at

-- where nothing is known yet, a refusal says that there is no assignment
pub refused : (code : List Instruction) (k : ShapeState) (n : ℕ) → k.known ≡ replicate n None → Refuses (IsAssignment code) k → AreFramed code → ⊥
refused code k n none refusal framed =
    let nothing : (at : ℕ) → get_or k.known at None ≡ None = λ at. ap (λ (ks : List (Option Shape)). get_or ks at None) none ∙ nones n at in
    refusal framed.shapes (λ at. subst (λ (o : Option Shape). LiesUnder o (framed.shapes at)) (sym (nothing at)) tt) (framed.begin, framed.fit)

-- ---- results

pub does_err : {T : Type 0} (r : Result T FrameCheckError) (y e : FrameCheckError) (holds : Assignment → Type 0) (old new : ShapeState) → r ≡ Err y → y ≡ e → Fails e holds old → Does r holds old new
does_err {T} r y e holds old new is same refusal = subst (λ (x : Result T FrameCheckError). Does x holds old new) (sym (is ∙ ap (λ (z : FrameCheckError). Err z) same)) refusal

pub match_err : {T : Type 0} (r : Result T FrameCheckError) (y e : FrameCheckError) (P : T → Type 0) (Q : FrameCheckError → Type 0) → r ≡ Err y → y ≡ e → Q e → MatchResult r P Q
match_err {T} r y e P Q is same refusal = subst (λ (x : Result T FrameCheckError). MatchResult x P Q) (sym (is ∙ ap (λ (z : FrameCheckError). Err z) same)) refusal
