-- The modules from an index on, one after another.
use Rattle.std.proofs.Common.{◌≡◌, ℕ, zero, suc, ◌+◌, ◌-◌, ◌<◌, ◌≤◌, List, [], ◌∷◌, map, take, drop, slice_get, refl, sym, ap, ◌∙◌, arith, Option, Some, None, option_map}
use Rattle.beam_machine.specs.Prelude.{Code, Versions}
use Rattle.beam_looks.specs.declared.module_rows.ModuleRow.{ModuleRow}
use Rattle.beam_looks.specs.Modules.{module_row, modules_after}

-- if there is a module at an index, it is the first of those from there on
first_at : (vs : List Versions) (i n : ℕ) (v : Versions) → slice_get vs i ≡ Some v → take (suc n) (drop i vs) ≡ v ∷ take n (drop (suc i) vs)
first_at [] i n v e = absurd (cc)
first_at (x ∷ vs) zero n v e = cc
first_at (x ∷ vs) (suc i) n v e = first_at vs i n v e

-- if there is none, none follow
none_from : (vs : List Versions) (i n : ℕ) → slice_get vs i ≡ None → take n (drop i vs) ≡ []
none_from [] zero zero e = refl
none_from [] zero (suc n) e = refl
none_from [] (suc i) zero e = refl
none_from [] (suc i) (suc n) e = refl
none_from (x ∷ vs) zero n e = absurd (cc)
none_from (x ∷ vs) (suc i) n e = none_from vs i n e

some_is : (a b : ModuleRow) → Some a ≡ Some b → a ≡ b
some_is a b e = cc

-- if there is a row at an index, it is the first of those from there on
pub next_row : (code : Code) (index end : ℕ) (row : ModuleRow) → Some row ≡ option_map (module_row code) (slice_get code index) → index < end
    → modules_after code index (end - index) ≡ row ∷ modules_after code (index + 1) (end - (index + 1))
next_row code index end row = elim (slice_get code index) as (λ (found : Option Versions). slice_get code index ≡ found → Some row ≡ option_map (module_row code) found
    → index < end → modules_after code index (end - index) ≡ row ∷ modules_after code (index + 1) (end - (index + 1))) [
      | None ↦ λ is e less. absurd (cc)
      | Some v ↦ λ is e less.
          let here : end - index ≡ suc (end - (index + 1)) = omega (arith, less) in
          let behind : suc index ≡ index + 1 = omega arith in
          ap (λ n. map (module_row code) (take n (drop index code))) here
          ∙ ap (map (module_row code)) (first_at code index (end - (index + 1)) v is ∙ ap (λ k. v ∷ take (end - (index + 1)) (drop k code)) behind)
          ∙ ap (λ (r : ModuleRow). r ∷ modules_after code (index + 1) (end - (index + 1))) (sym (some_is row (module_row code v) e))
    ] refl

-- if there is none, none follow
pub no_row : (code : Code) (index n : ℕ) → None ≡ option_map (module_row code) (slice_get code index) → modules_after code index n ≡ []
no_row code index n = elim (slice_get code index) as (λ (found : Option Versions). slice_get code index ≡ found → None ≡ option_map (module_row code) found
    → modules_after code index n ≡ []) [
      | None ↦ λ is e. ap (map (module_row code)) (none_from code index n is)
      | Some v ↦ λ is e. absurd (cc)
    ] refl

-- behind the end none is left
pub no_row_left : (code : Code) (index end : ℕ) → end ≤ index → modules_after code index (end - index) ≡ []
no_row_left code index end over = let none : end - index ≡ 0 = omega (arith, over) in ap (λ n. modules_after code index n) none
