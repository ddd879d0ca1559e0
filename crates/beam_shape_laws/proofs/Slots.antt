-- Y registers and their shapes: the facts that a shape gives, and how writing a register changes them.
use Rattle.std.proofs.Common.{◌≡◌, ℕ, suc, zero, true, not, List, [], ◌∷◌, length, refl, sym, ap, subst, ◌∙◌, true≢false, eqb-true, Option, Some, None, is_some, nat_eq, slice_get, drop, replicate, option_map}
use Rattle.std.proofs.Math.ListN.{set}
use Rattle.std.proofs.lemmas.Bool.{and_parts}
use Rattle.std.specs.Cmp.Lexicographic.{pointwise}
use Rattle.std.specs.Option.{option_eq}
use Rattle.std.proofs.lemmas.Option.{same_Some}
use Rattle.beam_model.specs.declared.instruction.Instruction.{Instruction}
use Rattle.beam_model.specs.Prelude.{bare, sized, any, first_in, first_tag, same_shape, may_have, is_value_in, row_of_label, Shape}
use Rattle.beam_term.specs.Prelude.{nil_term}
use Rattle.beam_machine.specs.declared.process.Slot.{Slot}
use Rattle.beam_machine.specs.declared.process.Slot.TheVariants.{Value, Tag as TagSlot}
use Rattle.beam_machine.specs.Prelude.{value_in, tag_in, tag_of}
use Rattle.beam_machine.specs.declared.process.Tag.{Tag}
use Rattle.beam_shape_laws.specs.Shaped.{Holds, HoldAll, HasShape}

-- ---- shapes that are the same

same_tag : (t u : Option ℕ) → option_eq nat_eq t u ≡ true → t ≡ u
same_tag None None e = refl
same_tag None (Some m) e = cc
same_tag (Some n) None e = cc
same_tag (Some n) (Some m) e = ap (λ k. Some k) (eqb-true n m e)

same_tags : (ts us : List (Option ℕ)) → pointwise (option_eq nat_eq) ts us ≡ true → ts ≡ us
same_tags [] [] e = refl
same_tags [] (u ∷ us) e = cc
same_tags (t ∷ ts) [] e = cc
same_tags (t ∷ ts) (u ∷ us) e =
    let both = and_parts (option_eq nat_eq t u) (pointwise (option_eq nat_eq) ts us) e in
    ap (λ t. t ∷ ts) (same_tag t u both.0) ∙ ap (λ ts. u ∷ ts) (same_tags ts us both.1)

module _ (instance : ℕ) (code : List Instruction) where
  -- ---- tags

  no_tag : (ts : List (Option ℕ)) (y : List Slot) → HoldAll instance code ts y → not (is_some (first_in ts)) ≡ true → tag_in y ≡ None
  no_tag [] [] h e = refl
  no_tag [] (slot ∷ y) h e = absurd h
  no_tag (t ∷ ts) [] h e = absurd h
  no_tag (None ∷ ts) (Value v ∷ y) h e = no_tag ts y h.1 e
  no_tag (None ∷ ts) (TagSlot tag ∷ y) h e = absurd h.0
  no_tag (Some label ∷ ts) (slot ∷ y) h e = absurd (true≢false (sym e))

  -- the first tag of y registers is that of their shape
  abbrev pub IsTagOf : Option ℕ → Tag → Type 0
  IsTagOf first tag = (label : ℕ) × (first ≡ Some label) × (tag.place.instance ≡ instance) × (row_of_label label 0 code ≡ Some tag.place.at)

  first_held : (ts : List (Option ℕ)) (y : List Slot) (tag : Tag) → HoldAll instance code ts y → tag_in y ≡ Some tag → IsTagOf (first_in ts) tag
  first_held [] [] tag h e = cc
  first_held [] (slot ∷ y) tag h e = absurd h
  first_held (t ∷ ts) [] tag h e = absurd h
  first_held (None ∷ ts) (Value v ∷ y) tag h e = first_held ts y tag h.1 e
  first_held (None ∷ ts) (TagSlot u ∷ y) tag h e = absurd h.0
  first_held (Some label ∷ ts) (Value v ∷ y) tag h e = absurd h.0
  first_held (Some label ∷ ts) (TagSlot u ∷ y) tag h e =
      let place = λ (o : Option Tag). option_map (λ t. t.place) o in
      let is : u.place ≡ tag.place = same_Some u.place tag.place (ap place e) in
      (label, refl, sym (ap (λ p. p.instance) is) ∙ h.0.0, h.0.1 ∙ ap (λ p. Some p.at) is)

  pub first_of : (s : Shape) (y : Option (List Slot)) (tag : Tag) → HasShape instance code s y → tag_of y ≡ Some tag → IsTagOf (first_tag s) tag
  first_of bare None tag h e = cc
  first_of bare (Some y) tag h e = absurd h
  first_of (sized ts) None tag h e = absurd h
  first_of (sized ts) (Some y) tag h e = first_held ts y tag h e
  first_of any y tag h e = cc

  -- ---- what a place may have

  to_any : (s : Shape) (y : Option (List Slot)) → not (is_some (first_tag s)) ≡ true → HasShape instance code s y → tag_of y ≡ None
  to_any bare None e h = refl
  to_any bare (Some y) e h = absurd h
  to_any (sized ts) None e h = absurd h
  to_any (sized ts) (Some y) e h = no_tag ts y h e
  to_any any y e h = h

  to_same : (s t : Shape) (y : Option (List Slot)) → same_shape s t ≡ true → HasShape instance code s y → HasShape instance code t y
  to_same bare bare y e h = h
  to_same bare (sized us) y e h = absurd (true≢false (sym e))
  to_same bare any y e h = absurd (true≢false (sym e))
  to_same (sized ts) bare y e h = absurd (true≢false (sym e))
  to_same (sized ts) (sized us) y e h = subst (λ us. HasShape instance code (sized us) y) (same_tags ts us e) h
  to_same (sized ts) any y e h = absurd (true≢false (sym e))
  to_same any bare y e h = absurd (true≢false (sym e))
  to_same any (sized us) y e h = absurd (true≢false (sym e))
  to_same any any y e h = h

  pub to_place : (s : Shape) (o : Option Shape) (y : Option (List Slot)) → may_have s o ≡ true → HasShape instance code s y → (t : Shape) × (o ≡ Some t) × HasShape instance code t y
  to_place s None y e h = absurd (true≢false (sym e))
  to_place s (Some any) y e h = (any, refl, to_any s y e h)
  to_place s (Some bare) y e h = (bare, refl, to_same s bare y e h)
  to_place s (Some (sized us)) y e h = (sized us, refl, to_same s (sized us) y e h)

  -- ---- registers that are there

  pub value_held : (ts : List (Option ℕ)) (y : List Slot) (n : ℕ) → HoldAll instance code ts y → is_value_in (slice_get ts n) ≡ true → is_some (value_in (slice_get y n)) ≡ true
  value_held [] y n h e = absurd (true≢false (sym e))
  value_held (t ∷ ts) [] n h e = absurd h
  value_held (None ∷ ts) (Value v ∷ y) zero h e = refl
  value_held (None ∷ ts) (TagSlot u ∷ y) zero h e = absurd h.0
  value_held (Some label ∷ ts) (slot ∷ y) zero h e = absurd (true≢false (sym e))
  value_held (t ∷ ts) (slot ∷ y) (suc n) h e = value_held ts y n h.1 e

  pub same_length : (ts : List (Option ℕ)) (y : List Slot) → HoldAll instance code ts y → length ts ≡ length y
  same_length [] [] h = refl
  same_length [] (slot ∷ y) h = absurd h
  same_length (t ∷ ts) [] h = absurd h
  same_length (t ∷ ts) (slot ∷ y) h = ap suc (same_length ts y h.1)

  -- ---- registers that are made and written

  pub set_held : (ts : List (Option ℕ)) (y : List Slot) (n : ℕ) (t : Option ℕ) (slot : Slot) → HoldAll instance code ts y → Holds instance code t slot → HoldAll instance code (set ts n t) (set y n slot)
  set_held [] [] n t slot h i = tt
  set_held [] (v ∷ y) n t slot h i = absurd h
  set_held (u ∷ ts) [] n t slot h i = absurd h
  set_held (u ∷ ts) (v ∷ y) zero t slot h i = (i, h.1)
  set_held (u ∷ ts) (v ∷ y) (suc n) t slot h i = (h.0, set_held ts y n t slot h.1 i)

  pub made_held : (n : ℕ) → HoldAll instance code (replicate n None) (replicate n (Value nil_term))
  made_held zero = tt
  made_held (suc n) = (tt, made_held n)

  pub drop_held : (n : ℕ) (ts : List (Option ℕ)) (y : List Slot) → HoldAll instance code ts y → HoldAll instance code (drop n ts) (drop n y)
  drop_held zero ts y h = h
  drop_held (suc n) [] [] h = tt
  drop_held (suc n) [] (v ∷ y) h = absurd h
  drop_held (suc n) (t ∷ ts) [] h = absurd h
  drop_held (suc n) (t ∷ ts) (v ∷ y) h = drop_held n ts y h.1
