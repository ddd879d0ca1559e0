-- Rows that the search looks at as shapes come to their places.
use Rattle.std.proofs.Common.{◌≡◌, ℕ, ◌+◌, ◌<◌, ◌≤◌, Bool, true, false, List, [], ◌∷◌, ◌++◌, length, Option, Some, None, Result, Ok, Err, inl, inr, refl, ap, sym, ◌∙◌, subst, ⊎_elim, arith, ◌&&◌, ◌||◌, not, nat_eq, unwrap_or, option_and_then, is_some, IfOk, ◌⊎◌, true≢false, eqb-true}
use Rattle.std.specs.List.{list_all, list_any}
use Rattle.std.proofs.lemmas.Bool.{cases_Bool, cases_lt, and_parts, and_from, or_cases, or_left, or_right}
use Rattle.std.proofs.lemmas.List.Folds.{list_any-append}
use Rattle.std.proofs.lemmas.Option.{slice_get_past}
use Rattle.beam_model.specs.declared.instruction.Instruction.{Instruction}
use Rattle.beam_model.specs.Prelude.{end_of_code, is_row, row_of_label, next_row, Assignment, may_have, shape_of_label, in_list, called, targets, finds, shape_after, may_fall_through, leads, leads_on, fits, fits_if, row_at, begins_bare, AreFramed, Shape}
use Rattle.beam_shapes.specs.Prelude.{ShapeState, assigned, Waits, Rises, Spreads, Forces, Fails, IsAssignment, MayGo, Flows, FlowsIf, FlowsAt, AreLookedAt, BeginsIf, BeginsAt, BeginBelow, BeginBare}
use Rattle.beam_shapes.specs.declared.error.FrameCheckError.{FrameCheckError}
use Rattle.beam_shapes.proofs.Forced.{spreads_none, spreads_from, forces_both, forces_as, fails_both, fails_as}
use Rattle.beam_shapes.proofs.Lower.{all_up}

pub goes : (g : Bool) (b : Bool) → g ≡ true → (not g || b) ≡ true → b ≡ true
goes true b e h = h
goes false b e h = absurd (true≢false (sym e))

-- ---- the shapes to which a row leads stay known

or_up : (g x y : Bool) → (x ≡ true → y ≡ true) → (g || x) ≡ true → (g || y) ≡ true
or_up true x y up e = refl
or_up false x y up e = up e

module _ (a b : Assignment) (up : (at : ℕ) → Rises (a at) (b at)) where
  then_up : (s : Shape) (o : Option ℕ) → may_have s (option_and_then a o) ≡ true → may_have s (option_and_then b o) ≡ true
  then_up s None e = e
  then_up s (Some at) e = up at s e

  module _ (code : List Instruction) where
    pub label_up : (s : Shape) (label : ℕ) → may_have s (shape_of_label a code label) ≡ true → may_have s (shape_of_label b code label) ≡ true
    label_up s label e = then_up s (row_of_label label 0 code) e

    pub labels_up : (s : Shape) (labels : List ℕ) → MayGo a code s labels → MayGo b code s labels
    labels_up s labels e = all_up (λ label. may_have s (shape_of_label a code label)) (λ label. may_have s (shape_of_label b code label)) (label_up s) labels e

    on_up : (i : Instruction) (next : ℕ) (o : Option Shape) → leads_on a i next o ≡ true → leads_on b i next o ≡ true
    on_up i next None e = e
    on_up i next (Some s) e = or_up (not (may_fall_through i)) (may_have s (a next)) (may_have s (b next)) (up next s) e

    flows_up : (i : Instruction) (next : ℕ) (s : Shape) → Flows a code i next s → Flows b code i next s
    flows_up i next s f = record {
      found = f.found;
      goes = labels_up s (targets i s) f.goes;
      on = on_up i next (shape_after i s) f.on;
    }

    pub flows_if_up : (i : Instruction) (next : ℕ) (o : Option Shape) → FlowsIf a code i next o → FlowsIf b code i next o
    flows_if_up i next None f = tt
    flows_if_up i next (Some s) f = λ row. flows_up i next s (f row)

known_waits : (a : Assignment) (code : List Instruction) (at : ℕ) (waiting : List ℕ) (o : Option Shape) → list_any (nat_eq at) waiting ≡ is_some o → Waits at waiting ⊎ FlowsAt a code at o
known_waits a code at waiting None e = inr tt
known_waits a code at waiting (Some s) e = inl e

-- each place of which something is known waits
pub looked_first : (code : List Instruction) (k : ShapeState) → ((at : ℕ) → list_any (nat_eq at) k.waiting ≡ is_some (assigned k.known at)) → AreLookedAt code k
looked_first code k waits = λ at. known_waits (assigned k.known) code at k.waiting (assigned k.known at) (waits at)

-- shapes are put, and no row is looked at
pub looked_spreads : (code : List Instruction) (old new : ShapeState) → Spreads old new → AreLookedAt code old → AreLookedAt code new
looked_spreads code old new one looked = λ at.
    ⊎_elim
    (λ (w : Waits at new.waiting). inl w)
    (λ (e : assigned new.known at ≡ assigned old.known at).
    ⊎_elim
    (λ (w : Waits at old.waiting). inl (one.stay at w))
    (λ (f : FlowsAt (assigned old.known) code at (assigned old.known at)).
    inr (subst (λ (o : Option Shape). FlowsAt (assigned new.known) code at o) (sym e)
    (flows_if_up (assigned old.known) (assigned new.known) one.rise code (row_at code at) (next_row at code) (assigned old.known at) f)))
    (looked at))
    (one.same at)

pub looked_same : (code : List Instruction) (old new : ShapeState) → new.known ≡ old.known → new.waiting ≡ old.waiting → AreLookedAt code old → AreLookedAt code new
looked_same code old new known waiting = looked_spreads code old new (spreads_from old new new known waiting (spreads_none new))

one_eq : (at place : ℕ) → list_any (nat_eq at) (place ∷ []) ≡ true → at ≡ place
one_eq at place e = ⊎_elim (λ (h : nat_eq at place ≡ true). eqb-true at place h) (λ (h : false ≡ true). absurd (true≢false (sym h))) (or_cases (nat_eq at place) false e)

-- a row that waited is looked at
pub looked_step : (code : List Instruction) (old mid new : ShapeState) (place : ℕ) → mid.known ≡ old.known → old.waiting ≡ mid.waiting ++ place ∷ [] → Spreads mid new
    → FlowsAt (assigned new.known) code place (assigned mid.known place) → AreLookedAt code old → AreLookedAt code new
looked_step code old mid new place known waiting one flows looked = λ at.
    let there : assigned new.known at ≡ assigned mid.known at → FlowsAt (assigned new.known) code at (assigned mid.known at) → FlowsAt (assigned new.known) code at (assigned new.known at) =
    λ e f. subst (λ (o : Option Shape). FlowsAt (assigned new.known) code at o) (sym e) f in
    ⊎_elim
    (λ (w : Waits at new.waiting). inl w)
    (λ (e : assigned new.known at ≡ assigned mid.known at).
    ⊎_elim
    (λ (w : Waits at old.waiting).
    ⊎_elim
    (λ (h : Waits at mid.waiting). inl (one.stay at h))
    (λ (h : list_any (nat_eq at) (place ∷ []) ≡ true).
    inr (there e (subst (λ (n : ℕ). FlowsAt (assigned new.known) code n (assigned mid.known n)) (sym (one_eq at place h)) flows)))
    (or_cases (list_any (nat_eq at) mid.waiting) (list_any (nat_eq at) (place ∷ []))
    (sym (list_any-append (nat_eq at) mid.waiting (place ∷ [])) ∙ (ap (λ ns. list_any (nat_eq at) ns) (sym waiting) ∙ w))))
    (λ (f : FlowsAt (assigned old.known) code at (assigned old.known at)).
    inr (there e
    (flows_if_up (assigned mid.known) (assigned new.known) one.rise code (row_at code at) (next_row at code) (assigned mid.known at)
    (subst (λ (ks : List (Option Shape)). FlowsAt (assigned ks) code at (assigned ks at)) (sym known) f))))
    (looked at))
    (one.same at)

pub flows_step : {T : Type 0} (r : Result T FrameCheckError) (a : Assignment) (code : List Instruction) (i : Instruction) (next : ℕ) (s : Shape) (o : Option Shape)
    → Some s ≡ o → IfOk r (λ x. Flows a code i next s) → IfOk r (λ x. FlowsIf a code i next o)
flows_step (Ok x) a code i next s o is f = subst (λ (p : Option Shape). FlowsIf a code i next p) is (λ row. f)
flows_step (Err e) a code i next s o is f = tt

-- ---- functions that rows call

begins_none : (a : Assignment) (code : List Instruction) (i : Instruction) (o : Option Shape) → called i ≡ None → BeginsIf a code i o
begins_none a code i None none = tt
begins_none a code i (Some s) none = λ row. ap (λ (l : Option ℕ). list_all (begins_bare a code) (in_list l)) none

-- the rows so far, and one more
module _ (code : List Instruction) (n : ℕ) where
  cut : (a : Assignment) (m : ℕ) → n < m → BeginBelow a code m → BeginBelow a code n × BeginsAt a code n
  cut a m few h = (λ at less. h at (omega (arith, few, less)), h n few)

  more : (a : Assignment) → BeginBelow a code n × BeginsAt a code n → BeginBelow a code (n + 1)
  more a h at less =
      ⊎_elim
      (λ (e : at < n). h.0 at e)
      (λ (e : n ≤ at). let same : n ≡ at = omega (arith, e, less) in let P : ℕ → Type 0 = λ k. BeginsAt a code k in subst P same h.1)
      (cases_lt at n)

  pub forces_row : (old mid new : ShapeState) → Forces (λ a. BeginBelow a code n) old mid → Forces (λ a. BeginsAt a code n) mid new → Forces (λ a. BeginBelow a code (n + 1)) old new
  forces_row old mid new one two =
      forces_as (λ a. BeginBelow a code n × BeginsAt a code n) (λ a. BeginBelow a code (n + 1)) old new
      (λ a below h. cut a (n + 1) (omega arith) h)
      (more (assigned old.known))
      (forces_both (λ a. BeginBelow a code n) (λ a. BeginsAt a code n) old mid one new two)

  pub fails_row : (m : ℕ) → n < m → (old mid : ShapeState) (e : FrameCheckError) → Forces (λ a. BeginBelow a code n) old mid → Fails e (λ a. BeginsAt a code n) mid → Fails e (λ a. BeginBelow a code m) old
  fails_row m few old mid e one two =
      fails_as (λ a. BeginBelow a code n × BeginsAt a code n) (λ a. BeginBelow a code m) old e
      (λ a below h. cut a m few h)
      (fails_both (λ a. BeginBelow a code n) (λ a. BeginsAt a code n) old mid one e two)

-- ---- all rows

module _ (a : Assignment) (code : List Instruction) where
  begins_fit : (i : Instruction) (next : ℕ) (o : Option Shape) → fits_if a code i next o ≡ true → BeginsIf a code i o
  begins_fit i next None h = tt
  begins_fit i next (Some s) h = λ row.
      let p = and_parts (finds i s && leads a code i s) (leads_on a i next (shape_after i s)) (goes (is_row i) (fits a code i next s) row h) in
      let q = and_parts (finds i s) (leads a code i s) p.0 in
      (and_parts (list_all (begins_bare a code) (in_list (called i))) (list_all (λ label. may_have s (shape_of_label a code label)) (targets i s)) q.1).0

  -- in an assignment each function begins without y registers
  pub begins_of : IsAssignment code a → BeginBare code a
  begins_of h = (h.0, λ at few. let within : at ≤ length code = omega (arith, few) in begins_fit (row_at code at) (next_row at code) (a at) (h.1 at within))

  fits_from : (i : Instruction) (next : ℕ) (o : Option Shape) → FlowsIf a code i next o → BeginsIf a code i o → fits_if a code i next o ≡ true
  fits_from i next None f b = refl
  fits_from i next (Some s) f b =
      ⊎_elim
      (λ (row : is_row i ≡ true).
      let g = f row in
      or_right (not (is_row i)) (fits a code i next s)
      (and_from (finds i s && leads a code i s) (leads_on a i next (shape_after i s))
      (and_from (finds i s) (leads a code i s) g.found
      (and_from (list_all (begins_bare a code) (in_list (called i))) (list_all (λ label. may_have s (shape_of_label a code label)) (targets i s)) (b row) g.goes)) g.on))
      (λ (other : is_row i ≡ false). or_left (not (is_row i)) (fits a code i next s) (ap not other))
      (cases_Bool (is_row i))

  begins_all : BeginBelow a code (length code) → (at : ℕ) → BeginsAt a code at
  begins_all h at =
      ⊎_elim
      (λ (few : at < length code). h at few)
      (λ (past : length code ≤ at).
      let none : row_at code at ≡ end_of_code = ap (λ (o : Option Instruction). unwrap_or o end_of_code) (slice_get_past code at past) in
      begins_none a code (row_at code at) (a at) (ap called none))
      (cases_lt at (length code))

-- where no row waits and each function begins without y registers, the known shapes are an assignment
pub looked_all : (code : List Instruction) (k : ShapeState) → AreLookedAt code k → k.waiting ≡ [] → BeginBare code (assigned k.known) → AreFramed code
looked_all code k looked none bare = record {
  shapes = assigned k.known;
  begin = bare.0;
  fit = λ at within.
      ⊎_elim
      (λ (w : Waits at k.waiting). let e : false ≡ true = ap (λ ns. list_any (nat_eq at) ns) (sym none) ∙ w in absurd (true≢false (sym e)))
      (λ (f : FlowsAt (assigned k.known) code at (assigned k.known at)).
      fits_from (assigned k.known) code (row_at code at) (next_row at code) (assigned k.known at) f (begins_all (assigned k.known) code bare.1 at))
      (looked at);
}
