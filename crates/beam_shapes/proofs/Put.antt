-- A shape is put in one place.
use Rattle.std.proofs.Common.{◌≡◌, ℕ, ◌<◌, true, List, [], ◌∷◌, ◌++◌, length, get_or, set, map, Option, Some, None, ap, sym, ◌∙◌, subst, arith, option_map, get_or-set_same}
use Rattle.std.proofs.lemmas.List.{length-map, map-set, get_or-map, get_or_read}
use Rattle.beam_model.specs.Prelude.{Assignment, may_have, Shape}
use Rattle.beam_shapes.specs.Prelude.{ShapeState, LiesUnder, room_of, Rises, Forces, shown, Parts}
use Rattle.beam_shapes.specs.declared.shape.Shape.{Shape as Kept}
use Rattle.beam_shapes.proofs.Forced.{forces_put}

module _ (p : Parts) (shapes : List (Option Kept)) (waiting : List ℕ) (old : ShapeState) (is : (record { parts = p; known = map (option_map (shown p)) shapes; waiting = waiting }) ≡ old) where
  pub put_known : (holds : Parts → Assignment → Type 0) (place : ℕ) (before : Option Kept) (after : Kept) → place < length old.known → before ≡ get_or shapes place before
      → room_of (Some (shown p after)) < room_of (option_map (shown p) before) → Rises (option_map (shown p) before) (Some (shown p after))
      → ((a : Assignment) → LiesUnder (option_map (shown p) before) (a place) → holds p a → may_have (shown p after) (a place) ≡ true)
      → (more : List ℕ) → more ≡ waiting ++ place ∷ []
      → Forces (holds old.parts) old (record { parts = p; known = map (option_map (shown p)) (set shapes place (Some after)); waiting = more })
  put_known holds place before after within read falls rises above more pushed =
      let now : ShapeState = record { parts = p; known = map (option_map (shown p)) shapes; waiting = waiting } in
      let new : ShapeState = record { parts = p; known = map (option_map (shown p)) (set shapes place (Some after)); waiting = more } in
      let few : place < length shapes = let l = ap (λ (s : ShapeState). length s.known) is in let m = length-map shapes (option_map (shown p)) in omega (arith, l, m, within) in
      let here : option_map (shown p) before ≡ get_or now.known place None =
      ap (option_map (shown p)) (get_or_read shapes place before few read None) ∙ sym (get_or-map (option_map (shown p)) shapes place None None few) in
      let one : place < length now.known = let m = length-map shapes (option_map (shown p)) in omega (arith, m, few) in
      let P : ShapeState → Type 0 = λ s. Forces (holds s.parts) s new in
      subst P is
      (forces_put (holds p) now new place (shown p after) (map-set (option_map (shown p)) shapes place (Some after)) pushed one
      (subst (λ (o : Option Shape). room_of (Some (shown p after)) < room_of o) here falls)
      (subst (λ (o : Option Shape). Rises o (Some (shown p after))) here rises)
      (λ a under h. above a (subst (λ (o : Option Shape). LiesUnder o (a place)) (sym here) under) h))

  -- a shape that may come to another one may come to the place where that is put
  pub put_there : (place : ℕ) (after : Kept) (s : Shape) → place < length old.known → may_have s (Some (shown p after)) ≡ true
      → may_have s (get_or (map (option_map (shown p)) (set shapes place (Some after))) place None) ≡ true
  put_there place after s within under =
      let known = map (option_map (shown p)) shapes in
      let one : place < length known = let l = ap (λ (s : ShapeState). length s.known) is in omega (arith, l, within) in
      ap (may_have s) (ap (λ (ks : List (Option Shape)). get_or ks place None) (map-set (option_map (shown p)) shapes place (Some after)) ∙ get_or-set_same known place (Some (shown p after)) None one) ∙ under
