-- The list of the pairs of a list that changes.
use Rattle.std.proofs.Common.{◌≡◌, ℕ, zero, suc, ◌+◌, ◌*◌, ◌/◌, ◌%◌, ◌<◌, ◌≤◌, ◌⊎◌, Bool, true, false, cond, nat_le, List, [], ◌∷◌, ◌++◌, length, drop, get_or, slice_get, refl, sym, ap, subst, ◌∙◌, inl, inr, arith, Option, Some, None}
use Rattle.std.proofs.Math.ListN.{set}
use Rattle.std.proofs.lemmas.Bool.Decides.{nat_tests}
use Rattle.std.proofs.lemmas.Option.{same_Some, slice_get-get_or, slice_get_past}
use Rattle.beam_agenda.specs.Prelude.{earlier, least_of, pairs}

-- ---- the least time

pub nat_le_true : (m n : ℕ) → nat_le m n ≡ true → m ≤ n
nat_le_true m n h = grind (arith, nat_tests)

pub nat_le_false : (m n : ℕ) → nat_le m n ≡ false → n < m
nat_le_false m n h = grind (arith, nat_tests)

lesser_three : (a b c : ℕ) (ab bc ac : Bool) → nat_le a b ≡ ab → nat_le b c ≡ bc → nat_le a c ≡ ac
    → earlier (cond ab (Some a) (Some b)) (Some c) ≡ earlier (Some a) (cond bc (Some b) (Some c))
lesser_three a b c true true true h k l = ap (λ q. cond q (Some a) (Some c)) l ∙ sym (ap (λ q. cond q (Some a) (Some b)) h)
lesser_three a b c true true false h k l = absurd (omega (arith, nat_le_true a b h, nat_le_true b c k, nat_le_false a c l))
lesser_three a b c true false ac h k l = refl
lesser_three a b c false true ac h k l = ap (λ q. cond q (Some b) (Some c)) k ∙ sym (ap (λ q. cond q (Some a) (Some b)) h)
lesser_three a b c false false true h k l = absurd (omega (arith, nat_le_false a b h, nat_le_false b c k, nat_le_true a c l))
lesser_three a b c false false false h k l = ap (λ q. cond q (Some b) (Some c)) k ∙ sym (ap (λ q. cond q (Some a) (Some c)) l)

pub earlier_none : (a : Option ℕ) → earlier a None ≡ a
earlier_none None = refl
earlier_none (Some a) = refl

pub earlier_of_three : (a b c : Option ℕ) → earlier (earlier a b) c ≡ earlier a (earlier b c)
earlier_of_three None b c = refl
earlier_of_three (Some a) None c = refl
earlier_of_three (Some a) (Some b) None = earlier_none (earlier (Some a) (Some b))
earlier_of_three (Some a) (Some b) (Some c) = lesser_three a b c (nat_le a b) (nat_le b c) (nat_le a c) refl refl refl

pub least_of-pairs : (ts : List (Option ℕ)) → least_of (pairs ts) ≡ least_of ts
least_of-pairs [] = refl
least_of-pairs (a ∷ []) = refl
least_of-pairs (a ∷ b ∷ rest) = ap (earlier (earlier a b)) (least_of-pairs rest) ∙ earlier_of_three a b (least_of rest)

-- ---- positions

abbrev pub double : ℕ → ℕ
double zero = zero
double (suc k) = suc (suc (double k))

pub two_times : (k : ℕ) → 2 * k ≡ double k
two_times zero = omega arith
two_times (suc k) = omega (arith, two_times k)

pub double_half : (n : ℕ) → n % 2 ≡ 0 → n ≡ double (n / 2)
double_half n h = omega (arith, two_times (n / 2))

pub suc_double_half : (n : ℕ) → n % 2 ≡ 1 → n ≡ suc (double (n / 2))
suc_double_half n h = omega (arith, two_times (n / 2))

below_two : (r : ℕ) → r < 2 → (r ≡ 0) ⊎ (r ≡ 1)
below_two zero h = inl refl
below_two (suc zero) h = inr refl
below_two (suc (suc r)) h = absurd (omega arith)

pub parity : (n : ℕ) → (n % 2 ≡ 0) ⊎ (n % 2 ≡ 1)
parity n = below_two (n % 2) (omega arith)

-- ---- one entry more

pub pairs-append_even : (ts : List (Option ℕ)) (k : ℕ) (e : Option ℕ) → length ts ≡ double k → pairs (ts ++ e ∷ []) ≡ pairs ts ++ e ∷ []
pairs-append_even [] k e h = refl
pairs-append_even (a ∷ []) zero e h = cc
pairs-append_even (a ∷ []) (suc k) e h = absurd (omega arith)
pairs-append_even (a ∷ b ∷ rest) zero e h = absurd (omega arith)
pairs-append_even (a ∷ b ∷ rest) (suc k) e h = ap (λ ts. earlier a b ∷ ts) (pairs-append_even rest k e (omega arith))

pub pairs-append_odd : (ts : List (Option ℕ)) (k : ℕ) (e last : Option ℕ) → length ts ≡ suc (double k) → slice_get ts (double k) ≡ Some last → pairs (ts ++ e ∷ []) ≡ set (pairs ts) k (earlier last e)
pairs-append_odd [] k e last h g = absurd (omega arith)
pairs-append_odd (a ∷ []) zero e last h g = ap (λ a. earlier a e ∷ []) (same_Some a last g)
pairs-append_odd (a ∷ []) (suc k) e last h g = absurd (omega arith)
pairs-append_odd (a ∷ b ∷ rest) zero e last h g = absurd (omega arith)
pairs-append_odd (a ∷ b ∷ rest) (suc k) e last h g = ap (λ ts. earlier a b ∷ ts) (pairs-append_odd rest k e last (omega arith) g)

-- ---- an entry that changes

-- the time that stands for the two times at a position
pub pair_there : (ts : List (Option ℕ)) (k : ℕ) (left right : Option ℕ) → slice_get ts (double k) ≡ Some left → slice_get ts (suc (double k)) ≡ Some right → slice_get (pairs ts) k ≡ Some (earlier left right)
pair_there [] k left right h g = absurd (cc)
pair_there (a ∷ []) zero left right h g = absurd (cc)
pair_there (a ∷ []) (suc k) left right h g = absurd (cc)
pair_there (a ∷ b ∷ rest) zero left right h g = ap (λ a. Some (earlier a b)) (same_Some a left h) ∙ ap (λ b. Some (earlier left b)) (same_Some b right g)
pair_there (a ∷ b ∷ rest) (suc k) left right h g = pair_there rest k left right h g

pub pair_last : (ts : List (Option ℕ)) (k : ℕ) (left : Option ℕ) → slice_get ts (double k) ≡ Some left → slice_get ts (suc (double k)) ≡ None → slice_get (pairs ts) k ≡ Some left
pair_last [] k left h g = absurd (cc)
pair_last (a ∷ []) zero left h g = h
pair_last (a ∷ []) (suc k) left h g = absurd (cc)
pair_last (a ∷ b ∷ rest) zero left h g = absurd (cc)
pair_last (a ∷ b ∷ rest) (suc k) left h g = pair_last rest k left h g

pub pairs-set_left : (ts : List (Option ℕ)) (k : ℕ) (e pair : Option ℕ) → slice_get (pairs (set ts (double k) e)) k ≡ Some pair → pairs (set ts (double k) e) ≡ set (pairs ts) k pair
pairs-set_left [] k e pair h = refl
pairs-set_left (a ∷ []) zero e pair h = ap (λ e. e ∷ []) (same_Some e pair h)
pairs-set_left (a ∷ []) (suc k) e pair h = refl
pairs-set_left (a ∷ b ∷ rest) zero e pair h = ap (λ e. e ∷ pairs rest) (same_Some (earlier e b) pair h)
pairs-set_left (a ∷ b ∷ rest) (suc k) e pair h = ap (λ ts. earlier a b ∷ ts) (pairs-set_left rest k e pair h)

pub pairs-set_right : (ts : List (Option ℕ)) (k : ℕ) (e pair : Option ℕ) → slice_get (pairs (set ts (suc (double k)) e)) k ≡ Some pair → pairs (set ts (suc (double k)) e) ≡ set (pairs ts) k pair
pairs-set_right [] k e pair h = refl
pairs-set_right (a ∷ []) zero e pair h = ap (λ e. e ∷ []) (same_Some a pair h)
pairs-set_right (a ∷ []) (suc k) e pair h = refl
pairs-set_right (a ∷ b ∷ rest) zero e pair h = ap (λ e. e ∷ pairs rest) (same_Some (earlier a e) pair h)
pairs-set_right (a ∷ b ∷ rest) (suc k) e pair h = ap (λ ts. earlier a b ∷ ts) (pairs-set_right rest k e pair h)

-- a time changes, and so does the one that stands for its pair
pub pairs-set : (ts : List (Option ℕ)) (at : ℕ) (e pair : Option ℕ) → slice_get (pairs (set ts at e)) (at / 2) ≡ Some pair → pairs (set ts at e) ≡ set (pairs ts) (at / 2) pair
pairs-set ts at e pair h = either (parity at)
  where
    either : (at % 2 ≡ 0) ⊎ (at % 2 ≡ 1) → pairs (set ts at e) ≡ set (pairs ts) (at / 2) pair
    either (inl even) = subst (λ n. slice_get (pairs (set ts n e)) (at / 2) ≡ Some pair → pairs (set ts n e) ≡ set (pairs ts) (at / 2) pair) (sym (double_half at even)) (pairs-set_left ts (at / 2) e pair) h
    either (inr odd) = subst (λ n. slice_get (pairs (set ts n e)) (at / 2) ≡ Some pair → pairs (set ts n e) ≡ set (pairs ts) (at / 2) pair) (sym (suc_double_half at odd)) (pairs-set_right ts (at / 2) e pair) h

there : (ts : List (Option ℕ)) (at : ℕ) (e : Option ℕ) → at < length ts → e ≡ get_or ts at e → slice_get ts at ≡ Some e
there ts at e l h = slice_get-get_or ts at e l ∙ ap Some (sym h)

pub of_two_is : (ts : List (Option ℕ)) (at : ℕ) (left right both : Option ℕ) → left ≡ get_or ts (2 * at) left → 2 * at + 1 < length ts → right ≡ get_or ts (2 * at + 1) right → both ≡ earlier left right
    → Some both ≡ slice_get (pairs ts) at
of_two_is ts at left right both g l h e =
    let first : double at ≡ 2 * at = omega (arith, two_times at) in
    let second : suc (double at) ≡ 2 * at + 1 = omega (arith, two_times at) in
    ap Some e ∙ sym (pair_there ts at left right
    (ap (slice_get ts) first ∙ there ts (2 * at) left (omega arith) g)
    (ap (slice_get ts) second ∙ there ts (2 * at + 1) right l h))

pub of_last_is : (ts : List (Option ℕ)) (at : ℕ) (left : Option ℕ) → 2 * at < length ts → left ≡ get_or ts (2 * at) left → length ts ≤ 2 * at + 1
    → Some left ≡ slice_get (pairs ts) at
of_last_is ts at left l g h =
    let first : double at ≡ 2 * at = omega (arith, two_times at) in
    let second : suc (double at) ≡ 2 * at + 1 = omega (arith, two_times at) in
    sym (pair_last ts at left
    (ap (slice_get ts) first ∙ there ts (2 * at) left l g)
    (ap (slice_get ts) second ∙ slice_get_past ts (2 * at + 1) h))

-- ---- the rest after a position

pub drop-pairs : (k : ℕ) (ts : List (Option ℕ)) → drop k (pairs ts) ≡ pairs (drop (double k) ts)
drop-pairs zero ts = refl
drop-pairs (suc k) [] = refl
drop-pairs (suc k) (a ∷ []) = drop_none k
  where
    drop_none : (k : ℕ) → drop k [] ≡ pairs (drop (suc (double k)) [])
    drop_none zero = refl
    drop_none (suc k) = refl
drop-pairs (suc k) (a ∷ b ∷ rest) = drop-pairs k rest
