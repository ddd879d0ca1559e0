-- The process of a number, and lists by their places.
use Rattle.std.proofs.Common.{◌≡◌, ℕ, zero, suc, ◌+◌, ◌-◌, ◌<◌, true, cond, nat_lt, List, [], ◌∷◌, length, slice_get, get_or, refl, sym, ap, ◌∙◌, arith, Some, None}
use Rattle.std.proofs.Math.ListN.{set}
use Rattle.std.proofs.lemmas.Bool.Decides.{nat_tests}
use Rattle.std.proofs.lemmas.Option.{slice_get-get_or}
use Rattle.beam_machine.specs.Prelude.{Process, process_of}

pub at_pid : (ps : List Process) (i n : ℕ) → n ≡ i + 1 → process_of ps n ≡ slice_get ps i
at_pid ps i n e =
    let there : nat_lt 0 n ≡ true = grind (arith, nat_tests) in
    let place : n - 1 ≡ i = omega (arith, e) in
    ap (λ b. cond b (slice_get ps (n - 1)) None) there ∙ ap (slice_get ps) place

-- two lists with one item at each place are one list
pub same_lists : {A : Type 0} (xs ys : List A) → ((i : ℕ) → slice_get xs i ≡ slice_get ys i) → xs ≡ ys
same_lists [] [] same = refl
same_lists [] (y ∷ ys) same = none_some (same 0)
  where
    none_some : None ≡ Some y → [] ≡ y ∷ ys
    none_some e = cc
same_lists (x ∷ xs) [] same = some_none (same 0)
  where
    some_none : Some x ≡ None → x ∷ xs ≡ []
    some_none e = cc
same_lists (x ∷ xs) (y ∷ ys) same =
    let first : Some x ≡ Some y = same 0 in
    let is : x ≡ y = cc in
    ap (λ z. z ∷ xs) is ∙ ap (λ zs. y ∷ zs) (same_lists xs ys (λ i. same (suc i)))

pub pid_found : (ps : List Process) (at pid : ℕ) (p : Process) → pid ≡ at + 1 → at < length ps → p ≡ get_or ps at p → process_of ps pid ≡ Some p
pid_found ps at pid p e l g =
    let positive : nat_lt 0 pid ≡ true = grind (arith, nat_tests) in
    let same : pid - 1 ≡ at = omega arith in
    ap (λ b. cond b (slice_get ps (pid - 1)) None) positive
    ∙ (ap (λ k. slice_get ps k) same ∙ (slice_get-get_or ps at p l ∙ ap (λ q. Some q) (sym g)))

pub put_back : (ps : List Process) (at : ℕ) (p : Process) → at < length ps → p ≡ get_or ps at p → set ps at p ≡ ps
put_back [] at p l g = absurd (omega arith)
put_back (q ∷ ps) zero p l g = ap (λ r. r ∷ ps) g
put_back (q ∷ ps) (suc at) p l g = ap (λ l. q ∷ l) (put_back ps at p (omega arith) g)
