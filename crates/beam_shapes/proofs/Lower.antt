-- A row that fits with a shape fits with each shape below it.
use Rattle.std.proofs.Common.{◌≡◌, ℕ, ◌<◌, Bool, true, false, if◌then◌else◌, List, [], ◌∷◌, ◌++◌, Option, Some, None, refl, ap, sym, ◌∙◌, subst, arith, ◌&&◌, ◌||◌, not, is_some, nat_eq, option_map, true≢false, eqb-true, eq-eqb}
use Rattle.std.specs.List.{list_all}
use Rattle.std.specs.Option.{option_eq}
use Rattle.std.specs.Cmp.Lexicographic.{pointwise, pointwise_decides}
use Rattle.std.proofs.lemmas.Bool.{and_parts, and_from}
use Rattle.std.proofs.lemmas.Option.{same_Some}
use Rattle.beam_model.specs.declared.instruction.Instruction.{Instruction}
use Rattle.beam_model.specs.Prelude.{bare, sized, any, Assignment, first_tag, same_shape, may_have, is_value, is_there, put_all, FrameEffect, keeps, wants_bare, allocates, drops, trims, after_effect, frame_effect, tag, tags_a_y, read_ys, written_ys, may_raise, in_list, jumps, called, targets, may_fall_through, begins_bare, shape_of_label, finds, shape_after, leads, leads_on, fits, Shape}
use Rattle.beam_shapes.specs.Prelude.{room_of}
use Rattle.beam_shapes.proofs.Unnamed.{put_none}

abbrev Decide : Bool → Type 0 → Type 0
Decide b P = (b ≡ true → P) × (P → b ≡ true)

tag_decides : (x y : Option ℕ) → Decide (option_eq nat_eq x y) (x ≡ y)
tag_decides None None = (λ e. refl, λ e. refl)
tag_decides None (Some y) = (λ e. absurd (true≢false (sym e)), λ e. absurd (cc e))
tag_decides (Some x) None = (λ e. absurd (true≢false (sym e)), λ e. absurd (cc e))
tag_decides (Some x) (Some y) = (λ e. ap (λ n. Some n) (eqb-true x y e), λ e. eq-eqb x y (same_Some x y e))

pub tags_decide : (xs ys : List (Option ℕ)) → Decide (pointwise (option_eq nat_eq) xs ys) (xs ≡ ys)
tags_decide xs ys = pointwise_decides tag_decides xs ys

pub same_is : (s t : Shape) → same_shape s t ≡ true → s ≡ t
same_is bare bare e = refl
same_is bare (sized z) e = absurd (true≢false (sym e))
same_is bare any e = absurd (true≢false (sym e))
same_is (sized y) bare e = absurd (true≢false (sym e))
same_is (sized y) (sized z) e = ap (λ ts. sized ts) ((tags_decide y z).0 e)
same_is (sized y) any e = absurd (true≢false (sym e))
same_is any bare e = absurd (true≢false (sym e))
same_is any (sized z) e = absurd (true≢false (sym e))
same_is any any e = refl

pub is_same : (s : Shape) → same_shape s s ≡ true
is_same bare = refl
is_same (sized y) = (tags_decide y y).1 refl
is_same any = refl

-- a shape may come to another that is the same, or to any without tags
pub data Lower (s : Shape) : Shape → Type 0 where
  same : Lower s s
  without : first_tag s ≡ None → Lower s any

no_tag : (o : Option ℕ) → not (is_some o) ≡ true → o ≡ None
no_tag None e = refl
no_tag (Some n) e = absurd (true≢false (sym e))

pub lower : (s t : Shape) → may_have s (Some t) ≡ true → Lower s t
lower s bare e = subst (λ (t : Shape). Lower s t) (same_is s bare e) same
lower s (sized z) e = subst (λ (t : Shape). Lower s t) (same_is s (sized z) e) same
lower s any e = without (no_tag (first_tag s) e)

-- where any may be, a shape without tags may be
pub any_up : (s : Shape) (o : Option Shape) → first_tag s ≡ None → may_have any o ≡ true → may_have s o ≡ true
any_up s None none e = e
any_up s (Some bare) none e = absurd (true≢false (sym e))
any_up s (Some (sized z)) none e = absurd (true≢false (sym e))
any_up s (Some any) none e = ap (λ (o : Option ℕ). not (is_some o)) none

-- ---- a row

none_true : (ns : List ℕ) → list_all (λ n. false) ns ≡ true → ns ≡ []
none_true [] e = refl
none_true (n ∷ ns) e = absurd (true≢false (sym e))

abbrev finds_by : List ℕ → List ℕ → Option ℕ → Shape → Bool
finds_by reads writes t s = list_all (is_value s) reads && list_all (is_there s) writes && tags_a_y t writes

no_tag_put : (t : Option ℕ) → tags_a_y t [] ≡ true → t ≡ None
no_tag_put None e = refl
no_tag_put (Some n) e = absurd (true≢false (sym e))

finds_any : (reads writes : List ℕ) (t : Option ℕ) → finds_by reads writes t any ≡ true → (reads ≡ []) × (writes ≡ []) × (t ≡ None)
finds_any reads writes t e =
    let p = and_parts (list_all (is_value any) reads && list_all (is_there any) writes) (tags_a_y t writes) e in
    let q = and_parts (list_all (is_value any) reads) (list_all (is_there any) writes) p.0 in
    let w = none_true writes q.1 in
    (none_true reads q.0, w, no_tag_put t (ap (tags_a_y t) (sym w) ∙ p.1))

finds_nothing : (reads writes : List ℕ) (t : Option ℕ) (s : Shape) → reads ≡ [] → writes ≡ [] → t ≡ None → finds_by reads writes t s ≡ true
finds_nothing reads writes t s r w n =
    ap (λ rs. finds_by rs writes t s) r ∙ (ap (λ ws. finds_by [] ws t s) w ∙ ap (λ o. finds_by [] [] o s) n)

pub all_up : {X : Type 0} (f g : X → Bool) → ((x : X) → f x ≡ true → g x ≡ true) → (xs : List X) → list_all f xs ≡ true → list_all g xs ≡ true
all_up f g up [] e = refl
all_up f g up (x ∷ xs) e = let p = and_parts (f x) (list_all f xs) e in and_from (g x) (list_all g xs) (up x p.0) (all_up f g up xs p.1)

leads_any : (a : Assignment) (code : List Instruction) (i : Instruction) (s : Shape) → first_tag s ≡ None → leads a code i any ≡ true → leads a code i s ≡ true
leads_any a code i s none e =
    let f : ℕ → Bool = λ label. may_have any (shape_of_label a code label) in
    let g : ℕ → Bool = λ label. may_have s (shape_of_label a code label) in
    let p = and_parts (list_all (begins_bare a code) (in_list (called i))) (list_all f (targets i any)) e in
    let same : targets i any ≡ targets i s = ap (λ (o : Option ℕ). (if may_raise i then in_list o else []) ++ jumps i) (sym none) in
    and_from
    (list_all (begins_bare a code) (in_list (called i)))
    (list_all g (targets i s))
    p.0
    (ap (list_all g) (sym same) ∙ all_up f g (λ label. any_up s (shape_of_label a code label) none) (targets i any) p.1)

goes_up : (g : Bool) (s : Shape) (o : Option Shape) → first_tag s ≡ None → (g || may_have any o) ≡ true → (g || may_have s o) ≡ true
goes_up true s o none e = refl
goes_up false s o none e = any_up s o none e

leads_on_any : (a : Assignment) (i : Instruction) (next : ℕ) (s : Shape) (m : FrameEffect) (t : Option ℕ) (ws : List ℕ) → first_tag s ≡ None → ws ≡ []
    → leads_on a i next (option_map (put_all t ws) (after_effect m any)) ≡ true → leads_on a i next (option_map (put_all t ws) (after_effect m s)) ≡ true
leads_on_any a i next s keeps t ws none w e =
    let is : put_all t ws s ≡ s = ap (λ ns. put_all t ns s) w ∙ put_none t s in
    ap (λ (u : Shape). not (may_fall_through i) || may_have u (a next)) is ∙ goes_up (not (may_fall_through i)) s (a next) none e
leads_on_any a i next s wants_bare t ws none w e = absurd (true≢false (sym e))
leads_on_any a i next s (allocates n) t ws none w e = absurd (true≢false (sym e))
leads_on_any a i next s (drops n) t ws none w e = absurd (true≢false (sym e))
leads_on_any a i next s (trims m n) t ws none w e = absurd (true≢false (sym e))

module _ (a : Assignment) (code : List Instruction) (i : Instruction) (next : ℕ) where
  fits_any : (s : Shape) → first_tag s ≡ None → fits a code i next any ≡ true → fits a code i next s ≡ true
  fits_any s none e =
      let p = and_parts (finds i any && leads a code i any) (leads_on a i next (shape_after i any)) e in
      let q = and_parts (finds i any) (leads a code i any) p.0 in
      let n = finds_any (read_ys i) (written_ys i) (tag i) q.0 in
      and_from
      (finds i s && leads a code i s)
      (leads_on a i next (shape_after i s))
      (and_from (finds i s) (leads a code i s) (finds_nothing (read_ys i) (written_ys i) (tag i) s n.0 n.1 n.2) (leads_any a code i s none q.1))
      (leads_on_any a i next s (frame_effect i) (tag i) (written_ys i) none n.1 p.1)

  fits_by : (s t : Shape) → Lower s t → fits a code i next t ≡ true → fits a code i next s ≡ true
  fits_by s t same e = e
  fits_by s t (without none) e = fits_any s none e

  pub fits_lower : (s t : Shape) → may_have s (Some t) ≡ true → fits a code i next t ≡ true → fits a code i next s ≡ true
  fits_lower s t under e = fits_by s t (lower s t under) e

-- ---- two shapes at one place

-- only `any` is above two shapes that differ
pub above_both : (u s : Shape) (o : Option Shape) → may_have s (Some u) ≡ false → may_have u o ≡ true → may_have s o ≡ true → o ≡ Some any
above_both u s None apart one two = absurd (true≢false (sym one))
above_both u s (Some bare) apart one two =
    absurd (true≢false (sym (ap (λ (v : Shape). may_have s (Some v)) (same_is u bare one) ∙ two) ∙ apart))
above_both u s (Some (sized z)) apart one two =
    absurd (true≢false (sym (ap (λ (v : Shape). may_have s (Some v)) (same_is u (sized z) one) ∙ two) ∙ apart))
above_both u s (Some any) apart one two = refl

tagless : (s : Shape) → may_have s (Some any) ≡ true → first_tag s ≡ None
tagless s e = no_tag (first_tag s) e

pub never_both : (u s : Shape) (o : Option Shape) → may_have s (Some u) ≡ false → (is_some (first_tag u) || is_some (first_tag s)) ≡ true → may_have u o ≡ true → may_have s o ≡ true → ⊥
never_both u s o apart tags one two =
    let is = above_both u s o apart one two in
    let p = tagless u (ap (λ (x : Option Shape). may_have u x) (sym is) ∙ one) in
    let q = tagless s (ap (λ (x : Option Shape). may_have s x) (sym is) ∙ two) in
    let e : (is_some (first_tag u) || is_some (first_tag s)) ≡ false = ap (λ (x : Option ℕ). is_some x || is_some (first_tag s)) p ∙ ap is_some q in
    true≢false (sym tags ∙ e)

pub any_both : (u s : Shape) (o : Option Shape) → may_have s (Some u) ≡ false → may_have u o ≡ true → may_have s o ≡ true → may_have any o ≡ true
any_both u s o apart one two = ap (λ (x : Option Shape). may_have any x) (above_both u s o apart one two)

-- the shape of a place may still change, where a shape without tags comes to it that it may not have
pub room_falls : (u s : Shape) → may_have s (Some u) ≡ false → first_tag s ≡ None → 0 < room_of (Some u)
room_falls bare s apart none = omega arith
room_falls (sized y) s apart none = omega arith
room_falls any s apart none = absurd (true≢false (sym (ap (λ (o : Option ℕ). not (is_some o)) none) ∙ apart))

-- ---- shapes with which a place may still be reached

pub itself : (s : Shape) → may_have s (Some s) ≡ true
itself bare = refl
itself (sized y) = is_same (sized y)
itself any = refl

from_any : (t u : Shape) → first_tag u ≡ None → Lower t u → may_have t (Some any) ≡ true
from_any t u none same = ap (λ (o : Option ℕ). not (is_some o)) none
from_any t u none (without none') = ap (λ (o : Option ℕ). not (is_some o)) none'

-- a shape that may come to a shape without tags may come to `any`
pub rises_any : (u t : Shape) → first_tag u ≡ None → may_have t (Some u) ≡ true → may_have t (Some any) ≡ true
rises_any u t none e = from_any t u none (lower t u e)
