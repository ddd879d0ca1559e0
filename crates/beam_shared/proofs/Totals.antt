-- If all seats are there, each once, together they keep as many commands as the journal has.
use Rattle.std.proofs.Common.{◌≡◌, ◌≢◌, ℕ, zero, suc, ◌+◌, ◌≤◌, ◌<◌, List, [], ◌∷◌, length, Bool, true, false, cond, eqb, eq-eqb, ne_eqb, Some, refl, sym, ap, subst, ◌∙◌, arith, slice_get, sum_by}
use Rattle.std.proofs.lemmas.List.Sums.{sum_by-cons}
use mathlib.Core.Logic.{dite}
use native.Mathlib.Decide.{ℕ_discrete}
use Rattle.beam_receipts.specs.Receipts.{AreOfGiven, SeatHistory, sum_below}
use Rattle.beam_receipts.proofs.Counts.{counts, zeros}
use Rattle.beam_shared.specs.Prelude.{Node, Agree, AreAll, AreBelow, AreDistinct, commands_in, commands_kept, commands_of}

-- ---- sums over the first numbers

same_below : (f g : ℕ → ℕ) (n : ℕ) → ((k : ℕ) → k < n → f k ≡ g k) → sum_below f n ≡ sum_below g n
same_below f g zero e = refl
same_below f g (suc n) e =
    let before : sum_below f n ≡ sum_below g n = same_below f g n (λ k less. e k (omega (arith, less))) in
    let now : f n ≡ g n = e n (omega arith) in
    omega (arith, before, now)

no_more : (f : ℕ → ℕ) (n : ℕ) → ((k : ℕ) → f k ≤ 1) → sum_below f n ≤ n
no_more f zero few = omega arith
no_more f (suc n) few = omega (arith, no_more f n few, few n)

-- if n numbers are at most 1 each, and their sum is n, each of them is 1
each_is_one : (f : ℕ → ℕ) (n : ℕ) → ((k : ℕ) → f k ≤ 1) → sum_below f n ≡ n → (k : ℕ) → k < n → f k ≡ 1
each_is_one f zero few all k less = absurd (omega (arith, less))
each_is_one f (suc n) few all k less =
    dite (ℕ_discrete k n)
    (λ (same : k ≡ n). ap f same ∙ omega (arith, all, few n, no_more f n few))
    (λ (apart : k ≢ n). each_is_one f n few (omega (arith, all, few n, no_more f n few)) k (omega (arith, less, apart)))

two_sums : (f g : ℕ → ℕ) (n : ℕ) → sum_below (λ k. f k + g k) n ≡ sum_below f n + sum_below g n
two_sums f g zero = refl
two_sums f g (suc n) = omega (arith, two_sums f g n)

-- ---- statements of all seats, by position

rest_below : (given : ℕ) (s : SeatHistory) (rest : List SeatHistory) → AreBelow given (s ∷ rest) → AreBelow given rest
rest_below given s rest below = λ i t at. below (suc i) t at

rest_distinct : (s : SeatHistory) (rest : List SeatHistory) → AreDistinct (s ∷ rest) → AreDistinct rest
rest_distinct s rest distinct = λ i j t u x y e. let same : suc i ≡ suc j = distinct (suc i) (suc j) t u x y e in omega (arith, same)

-- ---- seats by their numbers

-- the sum of the weights of all seats with this number
abbrev weight_at : (ℕ → ℕ) → ℕ → List SeatHistory → ℕ
weight_at w k seats = sum_by (λ s. cond (eqb s.number k) (w k) 0) seats

weight_cons : (w : ℕ → ℕ) (k : ℕ) (s : SeatHistory) (rest : List SeatHistory) → weight_at w k (s ∷ rest) ≡ cond (eqb s.number k) (w k) 0 + weight_at w k rest
weight_cons w k s rest = sum_by-cons (λ (t : SeatHistory). cond (eqb t.number k) (w k) 0) s rest

-- a seat adds nothing to the sum over numbers up to its own
not_yet : (w : ℕ → ℕ) (m n : ℕ) → n ≤ m → sum_below (λ k. cond (eqb m k) (w k) 0) n ≡ 0
not_yet w m zero le = refl
not_yet w m (suc n) le =
    let before : sum_below (λ k. cond (eqb m k) (w k) 0) n ≡ 0 = not_yet w m n (omega (arith, le)) in
    let now : cond {A = ℕ} (eqb m n) (w n) 0 ≡ 0 = ap (λ b. cond b (w n) 0) (ne_eqb m n (λ (same : m ≡ n). omega (arith, le, same))) in
    omega (arith, before, now)

once : (w : ℕ → ℕ) (m n : ℕ) → m < n → sum_below (λ k. cond (eqb m k) (w k) 0) n ≡ w m
once w m zero less = absurd (omega (arith, less))
once w m (suc n) less =
    dite (ℕ_discrete m n)
    (λ (same : m ≡ n).
    let before : sum_below (λ k. cond (eqb m k) (w k) 0) n ≡ 0 = not_yet w m n (omega (arith, same)) in
    let now : cond {A = ℕ} (eqb m n) (w n) 0 ≡ w n = ap (λ b. cond b (w n) 0) (eq-eqb m n same) in
    let own : w m ≡ w n = ap w same in
    omega (arith, before, now, own))
    (λ (apart : m ≢ n).
    let before : sum_below (λ k. cond (eqb m k) (w k) 0) n ≡ w m = once w m n (omega (arith, less, apart)) in
    let now : cond {A = ℕ} (eqb m n) (w n) 0 ≡ 0 = ap (λ b. cond b (w n) 0) (ne_eqb m n apart) in
    omega (arith, before, now))

-- the weights of all seats, summed by their numbers
spread : (w : ℕ → ℕ) (n : ℕ) (seats : List SeatHistory) → AreBelow n seats → sum_below (λ k. weight_at w k seats) n ≡ sum_by (λ s. w s.number) seats
spread w n [] below = zeros n
spread w n (s ∷ rest) below =
    let cons : sum_below (λ k. weight_at w k (s ∷ rest)) n ≡ sum_below (λ k. cond (eqb s.number k) (w k) 0 + weight_at w k rest) n
    = same_below (λ k. weight_at w k (s ∷ rest)) (λ k. cond (eqb s.number k) (w k) 0 + weight_at w k rest) n (λ k _. weight_cons w k s rest) in
    let split : sum_below (λ k. cond (eqb s.number k) (w k) 0 + weight_at w k rest) n
    ≡ sum_below (λ k. cond (eqb s.number k) (w k) 0) n + sum_below (λ k. weight_at w k rest) n
    = two_sums (λ k. cond (eqb s.number k) (w k) 0) (λ k. weight_at w k rest) n in
    let own : sum_below (λ k. cond (eqb s.number k) (w k) 0) n ≡ w s.number = once w s.number n (below 0 s refl) in
    let others : sum_below (λ k. weight_at w k rest) n ≡ sum_by (λ t. w t.number) rest = spread w n rest (rest_below n s rest below) in
    let all : sum_by (λ t. w t.number) (s ∷ rest) ≡ w s.number + sum_by (λ t. w t.number) rest = sum_by-cons (λ (t : SeatHistory). w t.number) s rest in
    omega (arith, cons, split, own, others, all)

-- whether one of the seats has this number
abbrev has : ℕ → List SeatHistory → Bool
has k [] = false
has k (s ∷ rest) = cond (eqb s.number k) true (has k rest)

no_other : (k : ℕ) (rest : List SeatHistory) → ((i : ℕ) (t : SeatHistory) → slice_get rest i ≡ Some t → t.number ≢ k) → has k rest ≡ false
no_other k [] none = refl
no_other k (s ∷ rest) none = ap (λ b. cond b true (has k rest)) (ne_eqb s.number k (none 0 s refl)) ∙ no_other k rest (λ i t at. none (suc i) t at)

-- if all seats' numbers differ, the seats of one number weigh as one seat, or as none
weighs_once : (w : ℕ → ℕ) (k : ℕ) (seats : List SeatHistory) → AreDistinct seats → weight_at w k seats ≡ cond (has k seats) (w k) 0
weighs_once w k [] distinct = refl
weighs_once w k (s ∷ rest) distinct =
    let others : weight_at w k rest ≡ cond (has k rest) (w k) 0 = weighs_once w k rest (rest_distinct s rest distinct) in
    let cons = weight_cons w k s rest in
    dite (ℕ_discrete s.number k)
    (λ (same : s.number ≡ k).
    let first = eq-eqb s.number k same in
    let alone : has k rest ≡ false
    = no_other k rest (λ i t at own. let at_first : suc i ≡ 0 = distinct (suc i) 0 t s at refl (own ∙ sym same) in absurd (omega (arith, at_first))) in
    let none : cond {A = ℕ} (has k rest) (w k) 0 ≡ 0 = ap (λ b. cond b (w k) 0) alone in
    let now : cond {A = ℕ} (eqb s.number k) (w k) 0 ≡ w k = ap (λ b. cond b (w k) 0) first in
    let all : cond {A = ℕ} (has k (s ∷ rest)) (w k) 0 ≡ w k = ap (λ b. cond (cond b true (has k rest)) (w k) 0) first in
    omega (arith, cons, others, none, now, all))
    (λ (apart : s.number ≢ k).
    let later = ne_eqb s.number k apart in
    let now : cond {A = ℕ} (eqb s.number k) (w k) 0 ≡ 0 = ap (λ b. cond b (w k) 0) later in
    let all : cond {A = ℕ} (has k (s ∷ rest)) (w k) 0 ≡ cond (has k rest) (w k) 0 = ap (λ b. cond (cond b true (has k rest)) (w k) 0) later in
    omega (arith, cons, others, now, all))

-- ---- all seats, each once

ones : (seats : List SeatHistory) → sum_by (λ _. 1) seats ≡ length seats
ones [] = refl
ones (s ∷ rest) = omega (arith, sum_by-cons (λ _. 1) s rest, ones rest)

at_most_one : (b : Bool) → cond {A = ℕ} b 1 0 ≤ 1
at_most_one true = omega arith
at_most_one false = omega arith

is_there : (b : Bool) → cond {A = ℕ} b 1 0 ≡ 1 → b ≡ true
is_there true e = refl
is_there false e = absurd (omega (arith, e))

abbrev one : ℕ → ℕ
one n = 1

-- if n seats have different numbers below n, each number below n is there
each_is_there : (seats : List SeatHistory) → AreBelow (length seats) seats → AreDistinct seats → (k : ℕ) → k < length seats → has k seats ≡ true
each_is_there seats below distinct k less =
    let few : (m : ℕ) → weight_at one m seats ≤ 1 = λ m. subst (λ n. n ≤ 1) (sym (weighs_once one m seats distinct)) (at_most_one (has m seats)) in
    let all : sum_below (λ m. weight_at one m seats) (length seats) ≡ length seats = spread one (length seats) seats below ∙ ones seats in
    is_there (has k seats) (sym (weighs_once one k seats distinct) ∙ each_is_one (λ m. weight_at one m seats) (length seats) few all k less)

pub as_numbers : (w : ℕ → ℕ) (seats : List SeatHistory) → AreBelow (length seats) seats → AreDistinct seats → sum_by (λ s. w s.number) seats ≡ sum_below w (length seats)
as_numbers w seats below distinct =
    sym (spread w (length seats) seats below)
    ∙ same_below (λ k. weight_at w k seats) w (length seats)
    (λ k less. weighs_once w k seats distinct ∙ ap (λ b. cond b (w k) 0) (each_is_there seats below distinct k less))

same_sums : (f g : SeatHistory → ℕ) (seats : List SeatHistory) → ((i : ℕ) (s : SeatHistory) → slice_get seats i ≡ Some s → f s ≡ g s) → sum_by f seats ≡ sum_by g seats
same_sums f g [] e = refl
same_sums f g (s ∷ rest) e =
    let now : f s ≡ g s = e 0 s refl in
    let others : sum_by f rest ≡ sum_by g rest = same_sums f g rest (λ i t at. e (suc i) t at) in
    omega (arith, sum_by-cons f s rest, sum_by-cons g s rest, now, others)

pub they_add_up : (n : Node) (seats : List SeatHistory) → AreAll n seats → AreBelow n.seats seats → Agree n.journal seats → AreOfGiven n.seats n.journal
    → commands_kept seats ≡ commands_in n.journal
they_add_up n seats all below agree given =
    let few : AreBelow (length seats) seats = subst (λ m. AreBelow m seats) (sym all.0) below in
    same_sums (λ s. length s.kept) (λ s. commands_of s.number n.journal) seats (λ i s at. ap length (agree i s at))
    ∙ (as_numbers (λ number. commands_of number n.journal) seats few all.1
    ∙ (ap (sum_below (λ number. commands_of number n.journal)) all.0 ∙ counts n.seats n.journal given))
