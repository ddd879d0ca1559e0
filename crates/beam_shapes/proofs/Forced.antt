-- Steps that put forced shapes, one after another.
use Rattle.std.proofs.Common.{◌≡◌, ℕ, ◌+◌, ◌<◌, true, false, List, length, get_or, set, Option, Some, None, [], ◌∷◌, ◌++◌, inl, inr, refl, ap, sym, ◌∙◌, subst, ⊎_elim, arith, nat_eq, eq-eqb, length-append, length-set, get_or-set_same, get_or-set_other}
use Rattle.std.specs.List.{list_any}
use Rattle.std.proofs.lemmas.Bool.{cases_eq, or_left, or_right}
use Rattle.std.proofs.lemmas.List.Folds.{list_any-append}
use Rattle.std.proofs.lemmas.List.Sums.{sum_by-set}
use Rattle.beam_model.specs.Prelude.{Assignment, may_have, Shape}
use Rattle.beam_shapes.specs.Prelude.{ShapeState, assigned, LiesUnder, IsBelow, room_of, room, Waits, Rises, Spreads, Forces, Fails}
use Rattle.beam_shapes.specs.declared.error.FrameCheckError.{FrameCheckError}
use Rattle.beam_shapes.specs.declared.error.FrameCheckError.TheVariants.{FrameMismatch, NoMemory}

-- ---- what spreads

pub spreads_none : (k : ShapeState) → Spreads k k
spreads_none k = record {
  stay = λ at w. w;
  rise = λ at s may. may;
  same = λ at. inr refl;
}

pub spreads_both : (a b c : ShapeState) → Spreads a b → Spreads b c → Spreads a c
spreads_both a b c one two = record {
  stay = λ at w. two.stay at (one.stay at w);
  rise = λ at s may. two.rise at s (one.rise at s may);
  same = λ at. ⊎_elim (λ w. inl w) (λ e. ⊎_elim (λ w. inl (two.stay at w)) (λ f. inr (e ∙ f)) (one.same at)) (two.same at);
}

pub spreads_from : (old mid new : ShapeState) → mid.known ≡ old.known → mid.waiting ≡ old.waiting → Spreads mid new → Spreads old new
spreads_from old mid new known waiting one = record {
  stay = λ at w. one.stay at (subst (λ (ns : List ℕ). Waits at ns) (sym waiting) w);
  rise = λ at s may. one.rise at s (subst (λ (ks : List (Option Shape)). may_have s (assigned ks at) ≡ true) (sym known) may);
  same = λ at. ⊎_elim (λ w. inl w) (λ e. inr (e ∙ ap (λ (ks : List (Option Shape)). assigned ks at) known)) (one.same at);
}

waits_more : (at : ℕ) (ns ms : List ℕ) → Waits at ns → Waits at (ns ++ ms)
waits_more at ns ms w = list_any-append (nat_eq at) ns ms ∙ or_left (list_any (nat_eq at) ns) (list_any (nat_eq at) ms) w

waits_last : (at place : ℕ) (ns : List ℕ) → at ≡ place → Waits at (ns ++ place ∷ [])
waits_last at place ns e =
    list_any-append (nat_eq at) ns (place ∷ []) ∙ or_right (list_any (nat_eq at) ns) (list_any (nat_eq at) (place ∷ [])) (or_left (nat_eq at place) false (eq-eqb at place e))

spreads_put : (old new : ShapeState) (place : ℕ) (after : Shape) → new.known ≡ set old.known place (Some after) → new.waiting ≡ old.waiting ++ place ∷ []
    → place < length old.known → Rises (get_or old.known place None) (Some after) → Spreads old new
spreads_put old new place after is pushed within rises =
    let here : (at : ℕ) → at ≡ place → get_or new.known at None ≡ Some after = λ at e.
    ap (λ (ks : List (Option Shape)). get_or ks at None) is ∙ (ap (λ n. get_or (set old.known place (Some after)) n None) e ∙ get_or-set_same old.known place (Some after) None within) in
    let there : (at : ℕ) → (at ≡ place → ⊥) → get_or new.known at None ≡ get_or old.known at None = λ at e.
    ap (λ (ks : List (Option Shape)). get_or ks at None) is ∙ get_or-set_other old.known place at (Some after) None e in record {
      stay = λ at w. subst (λ (ns : List ℕ). Waits at ns) (sym pushed) (waits_more at old.waiting (place ∷ []) w);
      rise = λ at s may.
          ⊎_elim
          (λ (e : at ≡ place).
          ap (may_have s) (here at e) ∙ rises s (subst (λ (n : ℕ). may_have s (get_or old.known n None) ≡ true) e may))
          (λ (e : at ≡ place → ⊥). ap (may_have s) (there at e) ∙ may)
          (cases_eq at place);
      same = λ at.
          ⊎_elim
          (λ (e : at ≡ place). inl (subst (λ (ns : List ℕ). Waits at ns) (sym pushed) (waits_last at place old.waiting e)))
          (λ (e : at ≡ place → ⊥). inr (there at e))
          (cases_eq at place);
    }

-- ---- what is forced

-- nothing is put
pub forces_none : (holds : Assignment → Type 0) (k : ShapeState) → holds (assigned k.known) → Forces holds k k
forces_none holds k so = record {
  kept = λ a below h. below;
  settled = λ same. (refl, so);
  more = omega arith;
  long = refl;
  less = omega arith;
  spent = omega arith;
  spreads = spreads_none k;
}

-- a shape is put in one place
pub forces_put : (holds : Assignment → Type 0) (old new : ShapeState) (place : ℕ) (after : Shape) → new.known ≡ set old.known place (Some after) → new.waiting ≡ old.waiting ++ place ∷ []
    → place < length old.known → room_of (Some after) < room_of (get_or old.known place None) → Rises (get_or old.known place None) (Some after)
    → ((a : Assignment) → LiesUnder (get_or old.known place None) (a place) → holds a → may_have after (a place) ≡ true) → Forces holds old new
forces_put holds old new place after is pushed within falls rises above =
    let longer : length new.waiting ≡ length old.waiting + 1 = let l = ap length pushed in let m = length-append old.waiting (place ∷ []) in omega (arith, l, m) in record {
      kept = λ a below h at.
          let P : List (Option Shape) → Type 0 = λ ks. LiesUnder (get_or ks at None) (a at) in
          let Q : Option Shape → Type 0 = λ o. LiesUnder o (a at) in
          subst P (sym is)
          (⊎_elim
          (λ (e : at ≡ place).
          let R : ℕ → Type 0 = λ n. LiesUnder (get_or (set old.known place (Some after)) n None) (a n) in
          let S : Option Shape → Type 0 = λ o. LiesUnder o (a place) in
          subst R (sym e) (subst S (sym (get_or-set_same old.known place (Some after) None within)) (above a (below place) h)))
          (λ (e : at ≡ place → ⊥). subst Q (sym (get_or-set_other old.known place at (Some after) None e)) (below at))
          (cases_eq at place));
      settled = λ same. absurd (omega (arith, same, longer));
      more = omega (arith, longer);
      long = ap length is ∙ length-set old.known place (Some after);
      less = let s = sum_by-set room_of old.known place (Some after) None within in let e = ap room is in omega (arith, s, e, falls);
      spent = let s = sum_by-set room_of old.known place (Some after) None within in let e = ap room is in omega (arith, s, e, falls, longer);
      spreads = spreads_put old new place after is pushed within rises;
    }

module _ (C D : Assignment → Type 0) (old mid : ShapeState) (one : Forces C old mid) where
  -- one step after another
  pub forces_both : (new : ShapeState) → Forces D mid new → Forces (λ a. C a × D a) old new
  forces_both new two = record {
    kept = λ a below h. two.kept a (one.kept a below h.0) h.1;
    settled = λ same.
        let m = one.more in let n = two.more in
        let p = two.settled (omega (arith, same, m, n)) in let q = one.settled (omega (arith, same, m, n)) in
        (p.0 ∙ q.0, (q.1, subst (λ (ks : List (Option Shape)). D (assigned ks)) q.0 p.1));
    more = let m = one.more in let n = two.more in omega (arith, m, n);
    long = two.long ∙ one.long;
    less = let m = one.less in let n = two.less in omega (arith, m, n);
    spent = let m = one.spent in let n = two.spent in omega (arith, m, n);
    spreads = spreads_both old mid new one.spreads two.spreads;
  }

  pub fails_both : (e : FrameCheckError) → Fails e D mid → Fails e (λ a. C a × D a) old
  fails_both FrameMismatch two = λ a below h. two a (one.kept a below h.0) h.1
  fails_both NoMemory two = tt

-- a step for one statement is a step for each equivalent one
pub forces_as : (C D : Assignment → Type 0) (old new : ShapeState) → ((a : Assignment) → IsBelow old.known a → D a → C a) → (C (assigned old.known) → D (assigned old.known)) → Forces C old new → Forces D old new
forces_as C D old new there back one = record {
  kept = λ a below h. one.kept a below (there a below h);
  settled = λ same. let p = one.settled same in (p.0, back p.1);
  more = one.more;
  long = one.long;
  less = one.less;
  spent = one.spent;
  spreads = one.spreads;
}

pub fails_as : (C D : Assignment → Type 0) (old : ShapeState) (e : FrameCheckError) → ((a : Assignment) → IsBelow old.known a → D a → C a) → Fails e C old → Fails e D old
fails_as C D old FrameMismatch there one = λ a below h. one a below (there a below h)
fails_as C D old NoMemory there one = tt

-- a step from a state that differs only in parts of trees
pub forces_from : (C : Assignment → Type 0) (old mid new : ShapeState) → mid.known ≡ old.known → mid.waiting ≡ old.waiting → Forces C mid new → Forces C old new
forces_from C old mid new known waiting one =
    let w = ap length waiting in let l = ap length known in let r = ap room known in record {
      kept = λ a below h. one.kept a (subst (λ (ks : List (Option Shape)). IsBelow ks a) (sym known) below) h;
      settled = λ same. let p = one.settled (same ∙ sym w) in (p.0 ∙ known, subst (λ (ks : List (Option Shape)). C (assigned ks)) known p.1);
      more = let m = one.more in omega (arith, m, w);
      long = one.long ∙ l;
      less = let m = one.less in omega (arith, m, r);
      spent = let m = one.spent in omega (arith, m, r, w);
      spreads = spreads_from old mid new known waiting one.spreads;
    }

pub fails_from : (C : Assignment → Type 0) (old mid : ShapeState) (e : FrameCheckError) → mid.known ≡ old.known → Fails e C mid → Fails e C old
fails_from C old mid FrameMismatch known one = λ a below h. one a (subst (λ (ks : List (Option Shape)). IsBelow ks a) (sym known) below) h
fails_from C old mid NoMemory known one = tt
