-- How many entries the seats have together.
use Rattle.std.proofs.Common.{◌≡◌, ◌≢◌, ℕ, zero, suc, ◌+◌, ◌<◌, ◌≤◌, List, [], ◌∷◌, length, Bool, true, false, cond, eqb, eq-eqb, ne_eqb, refl, sym, ap, ◌∙◌, arith, count_by, Option, Some, None, IfSome, is_some}
use Rattle.std.proofs.lemmas.List.Sums.{sum_by-cons}
use mathlib.Core.Logic.{dite}
use native.Mathlib.Decide.{ℕ_discrete}
use Rattle.beam_machine.specs.Prelude.{Entry}
use Rattle.beam_receipts.specs.Receipts.{is_number, is_of, of_seat, sum_below, AreOfGiven}

pub zeros : (n : ℕ) → sum_below (λ _. 0) n ≡ 0
zeros zero = refl
zeros (suc n) = ap (λ x. x + 0) (zeros n)

sums : (f g h : ℕ → ℕ) → ((n : ℕ) → h n ≡ f n + g n) → (n : ℕ) → sum_below h n ≡ sum_below f n + sum_below g n
sums f g h e zero = refl
sums f g h e (suc n) = let now = e n in let before = sums f g h e n in omega arith

not_yet : (m n : ℕ) → n ≤ m → sum_below (λ k. cond (eqb m k) 1 0) n ≡ 0
not_yet m zero le = refl
not_yet m (suc n) le =
    let before : sum_below (λ k. cond (eqb m k) 1 0) n ≡ 0 = not_yet m n (omega arith) in
    let now : cond {A = ℕ} (eqb m n) 1 0 ≡ 0 = ap (λ b. cond b 1 0) (ne_eqb m n (λ (same : m ≡ n). omega arith)) in
    omega arith

once : (m n : ℕ) → m < n → sum_below (λ k. cond (eqb m k) 1 0) n ≡ 1
once m zero lt = absurd (omega arith)
once m (suc n) lt =
    dite (ℕ_discrete m n)
    (λ (same : m ≡ n).
    let before : sum_below (λ k. cond (eqb m k) 1 0) n ≡ 0 = not_yet m n (omega arith) in
    let now : cond {A = ℕ} (eqb m n) 1 0 ≡ 1 = ap (λ b. cond b 1 0) (eq-eqb m n same) in
    omega arith)
    (λ (apart : m ≢ n).
    let before : sum_below (λ k. cond (eqb m k) 1 0) n ≡ 1 = once m n (omega arith) in
    let now : cond {A = ℕ} (eqb m n) 1 0 ≡ 0 = ap (λ b. cond b 1 0) (ne_eqb m n apart) in
    omega arith)

-- an entry is of one seat at most
of_one : (o : Option ℕ) (given : ℕ) → IfSome o (λ m. m < given) → sum_below (λ n. cond (is_number n o) 1 0) given ≡ cond (is_some o) 1 0
of_one None given lt = zeros given
of_one (Some m) given lt = once m given lt

one_more : (b : Bool) (e : Entry) (l : List Entry) → length (cond b (e ∷ l) l) ≡ cond b 1 0 + length l
one_more true e l = omega arith
one_more false e l = omega arith

pub counts : (given : ℕ) (journal : List Entry) → AreOfGiven given journal → sum_below (λ n. length (of_seat n journal)) given ≡ count_by (λ e. is_some e.seat) journal
counts given [] below = zeros given
counts given (e ∷ rest) below =
    let first = of_one e.seat given (below 0 e (omega arith)) in
    let others = counts given rest (λ k d lt. below (suc k) d (omega arith)) in
    let split = sums (λ n. cond (is_number n e.seat) 1 0) (λ n. length (of_seat n rest)) (λ n. length (of_seat n (e ∷ rest))) (λ n. one_more (is_of n e) e (of_seat n rest)) given in
    split ∙ (λ i. first i + others i) ∙ sym (sum_by-cons (λ (x : Entry). cond (is_some x.seat) 1 0) e rest)
