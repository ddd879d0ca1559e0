-- Modules that are there once, taken one after another.
use Rattle.std.proofs.Common.{◌≡◌, ℕ, Bool, true, false, not, ◌&&◌, ◌||◌, List, [], ◌∷◌, ◌++◌, refl, ap, ◌∙◌}
use Rattle.std.proofs.lemmas.List.Folds.{list_any-append}
use Rattle.std.specs.List.{list_any}
use Rattle.std.specs.Cmp.Lexicographic.{nat_list_eq_equiv}
use Rattle.beam_machine.specs.Prelude.{are_apart}
use Rattle.beam_model.specs.Prelude.{Listing, same_text}

-- no module is there twice, or has one of these names
abbrev pub are_apart_after : List (List ℕ) → List Listing → Bool
are_apart_after seen [] = true
are_apart_after seen (l ∷ rest) = not (list_any (same_text l.name) seen) && are_apart_after (seen ++ l.name ∷ []) rest

-- none of these listings has one of these names
abbrev are_new : List (List ℕ) → List Listing → Bool
are_new seen [] = true
are_new seen (l ∷ rest) = not (list_any (same_text l.name) seen) && are_new seen rest

one_more : (a t l r : Bool) → (not (a || (t || false)) && (l && not r)) ≡ ((not a && l) && not (t || r))
one_more true t l r = refl
one_more false true true r = refl
one_more false true false r = refl
one_more false false l r = refl

new_after : (seen : List (List ℕ)) (name : List ℕ) (ls : List Listing) → are_new (seen ++ name ∷ []) ls ≡ (are_new seen ls && not (list_any (λ other. same_text name other.name) ls))
new_after seen name [] = refl
new_after seen name (l ∷ rest) =
    let among : list_any (same_text l.name) (seen ++ name ∷ []) ≡ (list_any (same_text l.name) seen || (same_text name l.name || false))
    = list_any-append (same_text l.name) seen (name ∷ []) ∙ ap (λ b. list_any (same_text l.name) seen || (b || false)) (nat_list_eq_equiv.symm l.name name) in
    ap (λ b. not b && are_new (seen ++ name ∷ []) rest) among
    ∙ (ap (λ b. not (list_any (same_text l.name) seen || (same_text name l.name || false)) && b) (new_after seen name rest)
    ∙ one_more (list_any (same_text l.name) seen) (same_text name l.name) (are_new seen rest) (list_any (λ other. same_text name other.name) rest))

regrouped : (a b c d : Bool) → (a && ((b && c) && d)) ≡ ((a && b) && (c && d))
regrouped true true c d = refl
regrouped true false c d = refl
regrouped false b c d = refl

after_is : (seen : List (List ℕ)) (ls : List Listing) → are_apart_after seen ls ≡ (are_new seen ls && are_apart ls)
after_is seen [] = refl
after_is seen (l ∷ rest) =
    let new = not (list_any (same_text l.name) seen) in
    ap (λ b. new && b) (after_is (seen ++ l.name ∷ []) rest ∙ ap (λ b. b && are_apart rest) (new_after seen l.name rest))
    ∙ regrouped new (are_new seen rest) (not (list_any (λ other. same_text l.name other.name) rest)) (are_apart rest)

all_new : (ls : List Listing) → are_new [] ls ≡ true
all_new [] = refl
all_new (l ∷ rest) = all_new rest

pub after_none : (ls : List Listing) → are_apart_after [] ls ≡ are_apart ls
after_none ls = after_is [] ls ∙ ap (λ b. b && are_apart ls) (all_new ls)
