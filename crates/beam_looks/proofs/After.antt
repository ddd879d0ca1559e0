-- The processes above a number, one after another.
use Rattle.std.proofs.Common.{◌≡◌, ℕ, zero, suc, ◌+◌, ◌-◌, ◌<◌, ◌≤◌, nat_lt, true, cond, List, [], ◌∷◌, ◌++◌, map, take, drop, slice_get, refl, sym, ap, ◌∙◌, append-nil, arith, Some, None}
use Rattle.std.proofs.lemmas.Bool.Decides.{nat_tests}
use Rattle.beam_machine.specs.Prelude.{Debugged, Process, process_of}
use Rattle.beam_looks.specs.Rows.{processes_after, row_of, rows_after}

-- if there is a process at an index, it is the first of those from there on
first_at : (ps : List Process) (i n : ℕ) (p : Process) → slice_get ps i ≡ Some p → take (suc n) (drop i ps) ≡ p ∷ take n (drop (suc i) ps)
first_at [] i n p e = absurd (cc)
first_at (x ∷ ps) zero n p e = cc
first_at (x ∷ ps) (suc i) n p e = first_at ps i n p e

-- if there is none, none follow
none_at : (ps : List Process) (i n : ℕ) → slice_get ps i ≡ None → take n (drop i ps) ≡ []
none_at [] zero zero e = refl
none_at [] zero (suc n) e = refl
none_at [] (suc i) zero e = refl
none_at [] (suc i) (suc n) e = refl
none_at (x ∷ ps) zero n e = absurd (cc)
none_at (x ∷ ps) (suc i) n e = none_at ps i n e

-- the process of the number behind another one stands at the index of that
at_next : (ps : List Process) (after : ℕ) → process_of ps (after + 1) ≡ slice_get ps after
at_next ps after =
    let some : nat_lt 0 (after + 1) ≡ true = grind (arith, nat_tests) in
    let less : (after + 1) - 1 ≡ after = omega arith in
    ap (λ b. cond b (slice_get ps ((after + 1) - 1)) None) some ∙ ap (slice_get ps) less

-- a list that what is left completes is whole where nothing is left
pub whole : {A : Type 0} (xs ys all : List A) → xs ++ ys ≡ all → ys ≡ [] → xs ≡ all
whole xs ys all is none = sym (append-nil xs) ∙ ap (λ zs. xs ++ zs) (sym none) ∙ is

-- and it stays one if the first of those that are left goes over to its end
pub goes_over : {A : Type 0} (xs ys zs all : List A) (y : A) → xs ++ ys ≡ all → ys ≡ y ∷ zs → (xs ++ (y ∷ [])) ++ zs ≡ all
goes_over [] ys zs all y is next = sym next ∙ is
goes_over (x ∷ xs) ys zs all y is next = ap (λ l. x ∷ l) (goes_over xs ys zs (xs ++ ys) y refl next) ∙ is

-- the next process is the first of those above a number
pub next_process : (d : Debugged) (pid end : ℕ) (p : Process) → Some p ≡ process_of d.node.processes (pid + 1) → pid < end
    → processes_after d pid (end - pid) ≡ p ∷ processes_after d (pid + 1) (end - (pid + 1))
next_process d pid end p is less =
    let ps = d.node.processes in
    let here : end - pid ≡ suc (end - (pid + 1)) = omega (arith, less) in
    let behind : suc pid ≡ pid + 1 = omega arith in
    ap (λ n. take n (drop pid ps)) here ∙ first_at ps pid (end - (pid + 1)) p (sym (is ∙ at_next ps pid))
    ∙ ap (λ k. p ∷ take (end - (pid + 1)) (drop k ps)) behind

-- without a next process none is above a number
pub no_process : (d : Debugged) (pid n : ℕ) → None ≡ process_of d.node.processes (pid + 1) → processes_after d pid n ≡ []
no_process d pid n is = none_at d.node.processes pid n (sym (is ∙ at_next d.node.processes pid))

-- behind the end none is left
pub none_behind : (d : Debugged) (pid end : ℕ) → end ≤ pid → processes_after d pid (end - pid) ≡ []
none_behind d pid end over = let none : end - pid ≡ 0 = omega (arith, over) in ap (λ n. processes_after d pid n) none

-- ---- rows

pub next_row : (d : Debugged) (pid end : ℕ) (p : Process) → Some p ≡ process_of d.node.processes (pid + 1) → pid < end
    → rows_after d pid (end - pid) ≡ row_of d p ∷ rows_after d (pid + 1) (end - (pid + 1))
next_row d pid end p is less = ap (map (row_of d)) (next_process d pid end p is less)

pub no_row : (d : Debugged) (pid n : ℕ) → None ≡ process_of d.node.processes (pid + 1) → rows_after d pid n ≡ []
no_row d pid n is = ap (map (row_of d)) (no_process d pid n is)

pub no_row_left : (d : Debugged) (pid end : ℕ) → end ≤ pid → rows_after d pid (end - pid) ≡ []
no_row_left d pid end over = ap (map (row_of d)) (none_behind d pid end over)
