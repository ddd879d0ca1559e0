-- The first time that is due, found by the pairs.
use Rattle.std.proofs.Common.{◌≡◌, ℕ, zero, suc, ◌+◌, ◌*◌, ◌/◌, ◌%◌, ◌<◌, ◌≤◌, ◌⊎◌, ◌||◌, nat_le, Bool, true, false, cond, List, [], ◌∷◌, length, drop, get_or, slice_get, refl, sym, ap, subst, ◌∙◌, inl, inr, add-one, arith, Option, Some, None, option_map}
use Rattle.std.proofs.lemmas.Option.{slice_get-get_or}
use Rattle.beam_agenda.specs.Prelude.{earlier, is_due_by, pairs, first_position, position_from, length-pairs}
use Rattle.beam_agenda.proofs.Pairing.{double, two_times, double_half, suc_double_half, drop-pairs, parity, nat_le_true, nat_le_false}
use Rattle.beam_agenda.proofs.Positions.{position_later, position_within}

abbrev pub due_at : ℕ → Option (Option ℕ) → Bool
due_at by (Some due) = is_due_by by due
due_at by None = false

-- the first of two neighbours, if it is due, else the second
abbrev pub due_of_pair : ℕ → List (Option ℕ) → ℕ → ℕ
due_of_pair by ts k = cond (due_at by (slice_get ts (double k))) (double k) (suc (double k))

-- ---- of two times

or_none : (b : Bool) → b ≡ (b || false)
or_none true = refl
or_none false = refl

due_three : (at a b : ℕ) (ab at_a at_b : Bool) → nat_le a b ≡ ab → nat_le a at ≡ at_a → nat_le b at ≡ at_b
    → is_due_by at (cond ab (Some a) (Some b)) ≡ (at_a || at_b)
due_three at a b true true t h k l = k
due_three at a b true false false h k l = k
due_three at a b true false true h k l = absurd (omega (arith, nat_le_true a b h, nat_le_false a at k, nat_le_true b at l))
due_three at a b false true true h k l = l
due_three at a b false true false h k l = absurd (omega (arith, nat_le_false a b h, nat_le_true a at k, nat_le_false b at l))
due_three at a b false false t h k l = l

due_of_two : (at : ℕ) (a b : Option ℕ) → is_due_by at (earlier a b) ≡ (is_due_by at a || is_due_by at b)
due_of_two at None b = refl
due_of_two at (Some a) None = or_none (nat_le a at)
due_of_two at (Some a) (Some b) = due_three at a b (nat_le a b) (nat_le a at) (nat_le b at) refl refl refl

-- ---- from the beginning

one : (by : ℕ) (a : Option ℕ) (t : Bool) → is_due_by by a ≡ t
    → cond t (Some 0) None ≡ option_map (due_of_pair by (a ∷ [])) (cond t (Some 0) None)
one by a true h = ap (λ t. Some (cond t 0 1)) (sym h)
one by a false h = refl

two_on : (by : ℕ) (a b : Option ℕ) (rest : List (Option ℕ)) (o : Option ℕ)
    → option_map (λ n. n + 1) (option_map (λ n. n + 1) (option_map (due_of_pair by rest) o)) ≡ option_map (due_of_pair by (a ∷ b ∷ rest)) (option_map (λ n. n + 1) o)
two_on by a b rest None = refl
two_on by a b rest (Some n) =
    subst (λ m. Some (due_of_pair by rest n + 1 + 1) ≡ Some (due_of_pair by (a ∷ b ∷ rest) m)) (sym (add-one n)) (ap Some (at (due_at by (slice_get rest (double n)))))
  where
    at : (t : Bool) → cond t (double n) (suc (double n)) + 1 + 1 ≡ cond t (suc (suc (double n))) (suc (suc (suc (double n))))
    at true = omega arith
    at false = omega arith

two : (by : ℕ) (a b : Option ℕ) (rest : List (Option ℕ)) (o : Option ℕ) (s t : Bool) → is_due_by by a ≡ s
    → cond s (Some 0) (option_map (λ n. n + 1) (cond t (Some 0) (option_map (λ n. n + 1) (option_map (due_of_pair by rest) o))))
    ≡ option_map (due_of_pair by (a ∷ b ∷ rest)) (cond (s || t) (Some 0) (option_map (λ n. n + 1) o))
two by a b rest o true t h = ap (λ s. Some (cond s 0 1)) (sym h)
two by a b rest o false true h = ap (λ s. Some (cond s 0 1)) (sym h)
two by a b rest o false false h = two_on by a b rest o

first-pairs : (by : ℕ) (ts : List (Option ℕ)) → first_position (is_due_by by) ts ≡ option_map (due_of_pair by ts) (first_position (is_due_by by) (pairs ts))
first-pairs by [] = refl
first-pairs by (a ∷ []) = one by a (is_due_by by a) refl
first-pairs by (a ∷ b ∷ rest) =
    ap (λ o. cond (is_due_by by a) (Some 0) (option_map (λ n. n + 1) (cond (is_due_by by b) (Some 0) (option_map (λ n. n + 1) o)))) (first-pairs by rest)
    ∙ (two by a b rest (first_position (is_due_by by) (pairs rest)) (is_due_by by a) (is_due_by by b) refl
    ∙ ap (λ t. option_map (due_of_pair by (a ∷ b ∷ rest)) (cond t (Some 0) (option_map (λ n. n + 1) (first_position (is_due_by by) (pairs rest))))) (sym (due_of_two by a b)))

-- ---- from a position

-- one time alone that isn't due
pub position_alone : (by from : ℕ) (ts : List (Option ℕ)) (due : Option ℕ) → length ts ≤ 1 → slice_get ts from ≡ Some due → is_due_by by due ≡ false → None ≡ position_from (is_due_by by) from ts
position_alone by from [] due l h t = absurd (cc)
position_alone by zero (a ∷ []) due l h t = let same : a ≡ due = cc in ap (λ t. option_map (λ n. 0 + n) (cond t (Some 0) None)) (sym t ∙ ap (is_due_by by) (sym same))
position_alone by (suc from) (a ∷ []) due l h t = absurd (cc)
position_alone by from (a ∷ b ∷ ts) due l h t = absurd (omega arith)

double_add : (k n : ℕ) → double (k + n) ≡ double k + double n
double_add k n = omega (arith, two_times (k + n), two_times k, two_times n)

get_drop : (m n : ℕ) (ts : List (Option ℕ)) → slice_get (drop m ts) n ≡ slice_get ts (m + n)
get_drop zero n ts = let e : n ≡ 0 + n = omega arith in ap (slice_get ts) e
get_drop (suc m) n [] = refl
get_drop (suc m) n (x ∷ ts) = let e : suc (m + n) ≡ suc m + n = omega arith in get_drop m n ts ∙ ap (slice_get (x ∷ ts)) e

two_later : (by : ℕ) (ts : List (Option ℕ)) (k : ℕ) (o : Option ℕ)
    → option_map (λ n. double k + n) (option_map (due_of_pair by (drop (double k) ts)) o) ≡ option_map (due_of_pair by ts) (option_map (λ n. k + n) o)
two_later by ts k None = refl
two_later by ts k (Some n) =
    ap Some (ap (λ o. double k + cond (due_at by o) (double n) (suc (double n))) (get_drop (double k) (double n) ts)
    ∙ subst (λ m. double k + cond (due_at by (slice_get ts (double k + double n))) (double n) (suc (double n)) ≡ cond (due_at by (slice_get ts m)) m (suc m)) (sym (double_add k n))
    (at (due_at by (slice_get ts (double k + double n)))))
  where
    at : (t : Bool) → double k + cond t (double n) (suc (double n)) ≡ cond t (double k + double n) (suc (double k + double n))
    at true = refl
    at false = omega arith

even_position : (by k : ℕ) (ts : List (Option ℕ)) → position_from (is_due_by by) (double k) ts ≡ option_map (due_of_pair by ts) (position_from (is_due_by by) k (pairs ts))
even_position by k ts =
    ap (option_map (λ n. double k + n)) (first-pairs by (drop (double k) ts))
    ∙ (ap (λ ps. option_map (λ n. double k + n) (option_map (due_of_pair by (drop (double k) ts)) (first_position (is_due_by by) ps))) (sym (drop-pairs k ts))
    ∙ two_later by ts k (first_position (is_due_by by) (drop k (pairs ts))))

-- from a time that isn't due
place-pairs : (by from : ℕ) (ts : List (Option ℕ)) (due : Option ℕ) → slice_get ts from ≡ Some due → is_due_by by due ≡ false
    → position_from (is_due_by by) from ts ≡ option_map (due_of_pair by ts) (position_from (is_due_by by) (from / 2 + from % 2) (pairs ts))
place-pairs by from ts due h t = at (parity from)
  where
    at : (from % 2 ≡ 0) ⊎ (from % 2 ≡ 1) → position_from (is_due_by by) from ts ≡ option_map (due_of_pair by ts) (position_from (is_due_by by) (from / 2 + from % 2) (pairs ts))
    at (inl even) =
        let same : from / 2 + from % 2 ≡ from / 2 = omega arith in
        ap (λ n. position_from (is_due_by by) n ts) (double_half from even) ∙ (even_position by (from / 2) ts ∙ ap (λ n. option_map (due_of_pair by ts) (position_from (is_due_by by) n (pairs ts))) (sym same))
    at (inr odd) =
        let same : from / 2 + from % 2 ≡ suc (from / 2) = omega arith in
        let next : suc from ≡ double (suc (from / 2)) = ap suc (suc_double_half from odd) in
        position_later (is_due_by by) from ts due h t
        ∙ (ap (λ n. position_from (is_due_by by) n ts) next ∙ (even_position by (suc (from / 2)) ts ∙ ap (λ n. option_map (due_of_pair by ts) (position_from (is_due_by by) n (pairs ts))) (sym same)))

-- ---- one list up

two_is : (by : ℕ) (ts : List (Option ℕ)) (pair r : ℕ) → 2 * pair < length ts → ((due : Option ℕ) → slice_get ts (2 * pair) ≡ Some due → r ≡ cond (is_due_by by due) (2 * pair) (2 * pair + 1))
    → r ≡ due_of_pair by ts pair
two_is by ts pair r l h =
    let due : Option ℕ = get_or ts (2 * pair) None in
    let there : slice_get ts (2 * pair) ≡ Some due = slice_get-get_or ts (2 * pair) None l in
    let next : 2 * pair + 1 ≡ suc (2 * pair) = omega arith in
    h due there ∙ (ap (cond (is_due_by by due) (2 * pair)) next ∙ (ap (λ o. cond (due_at by o) (2 * pair) (suc (2 * pair))) (sym there)
    ∙ ap (λ n. cond (due_at by (slice_get ts n)) n (suc n)) (two_times pair)))

pub pair_within : (by n : ℕ) (ts above : List (Option ℕ)) (pair : ℕ) → above ≡ pairs ts → Some pair ≡ position_from (is_due_by by) n above → 2 * pair < length ts
pair_within by n ts above pair h f = omega (arith, position_within (is_due_by by) n above pair f, ap length h, length-pairs ts)

pub climbs_some : (by from : ℕ) (ts above : List (Option ℕ)) (due : Option ℕ) (pair r : ℕ) → slice_get ts from ≡ Some due → is_due_by by due ≡ false → above ≡ pairs ts
    → Some pair ≡ position_from (is_due_by by) (from / 2 + from % 2) above → ((due : Option ℕ) → slice_get ts (2 * pair) ≡ Some due → r ≡ cond (is_due_by by due) (2 * pair) (2 * pair + 1))
    → Some r ≡ position_from (is_due_by by) from ts
climbs_some by from ts above due pair r there misfit h f is =
    ap Some (two_is by ts pair r (pair_within by (from / 2 + from % 2) ts above pair h f) is)
    ∙ (ap (option_map (due_of_pair by ts)) (f ∙ ap (position_from (is_due_by by) (from / 2 + from % 2)) h)
    ∙ sym (place-pairs by from ts due there misfit))

pub climbs_none : (by from : ℕ) (ts above : List (Option ℕ)) (due : Option ℕ) → slice_get ts from ≡ Some due → is_due_by by due ≡ false → above ≡ pairs ts
    → None ≡ position_from (is_due_by by) (from / 2 + from % 2) above → None ≡ position_from (is_due_by by) from ts
climbs_none by from ts above due there misfit h f =
    ap (option_map (due_of_pair by ts)) (f ∙ ap (position_from (is_due_by by) (from / 2 + from % 2)) h)
    ∙ sym (place-pairs by from ts due there misfit)
