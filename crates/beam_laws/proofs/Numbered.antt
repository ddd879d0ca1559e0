-- Processes by their numbers, where one is put into the list.
use Rattle.std.proofs.Common.{◌≡◌, ◌≢◌, ℕ, zero, suc, ◌-◌, ◌<◌, Bool, true, false, cond, nat_lt, List, [], ◌∷◌, slice_get, refl, ap, arith, Some, None, slice_set}
use Rattle.std.proofs.lemmas.Bool.Decides.{nat_tests}
use Rattle.beam_machine.specs.Prelude.{Process, is_ended, process_of, with_process, alive}
use Rattle.beam_laws.proofs.Ending.{get_set, at_index}

-- ---- by index

set_same : (ps : List Process) (i : ℕ) (p : Process) → slice_get ps i ≡ Some p → slice_set ps i p ≡ ps
set_same [] i p e = cc
set_same (x ∷ ps) zero p e = cc
set_same (x ∷ ps) (suc i) p e = ap (λ qs. x ∷ qs) (set_same ps i p e)

set_set : (ps : List Process) (i : ℕ) (p q : Process) → slice_set (slice_set ps i p) i q ≡ slice_set ps i q
set_set [] i p q = refl
set_set (x ∷ ps) zero p q = refl
set_set (x ∷ ps) (suc i) p q = ap (λ qs. x ∷ qs) (set_set ps i p q)

set_commutes : (ps : List Process) (i j : ℕ) (p q : Process) → i ≢ j → slice_set (slice_set ps i p) j q ≡ slice_set (slice_set ps j q) i p
set_commutes [] i j p q ne = refl
set_commutes (x ∷ ps) zero zero p q ne = absurd (ne refl)
set_commutes (x ∷ ps) zero (suc j) p q ne = refl
set_commutes (x ∷ ps) (suc i) zero p q ne = refl
set_commutes (x ∷ ps) (suc i) (suc j) p q ne = ap (λ qs. x ∷ qs) (set_commutes ps i j p q (λ e. ne (ap suc e)))

get_set_same : (ps : List Process) (i : ℕ) (p q : Process) → slice_get ps i ≡ Some p → slice_get (slice_set ps i q) i ≡ Some q
get_set_same [] i p q e = cc
get_set_same (x ∷ ps) zero p q e = refl
get_set_same (x ∷ ps) (suc i) p q e = get_set_same ps i p q e

-- ---- by number

pub positive : (ps : List Process) (pid : ℕ) (p : Process) → process_of ps pid ≡ Some p → 0 < pid
positive ps pid p = go (nat_lt 0 pid) refl
  where
    go : (b : Bool) → nat_lt 0 pid ≡ b → cond b (slice_get ps (pid - 1)) None ≡ Some p → 0 < pid
    go true e h = grind (arith, nat_tests)
    go false e h = cc

pub put_same : (ps : List Process) (pid : ℕ) (p : Process) → process_of ps pid ≡ Some p → with_process ps pid p ≡ ps
put_same ps pid p e = set_same ps (pid - 1) p (at_index ps pid p e)

pub put_put : (ps : List Process) (pid : ℕ) (p q : Process) → with_process (with_process ps pid p) pid q ≡ with_process ps pid q
put_put ps pid p q = set_set ps (pid - 1) p q

pub put_commutes : (ps : List Process) (pid to : ℕ) (p q : Process) → pid ≢ to → 0 < pid → 0 < to → with_process (with_process ps pid p) to q ≡ with_process (with_process ps to q) pid p
put_commutes ps pid to p q ne l m = set_commutes ps (pid - 1) (to - 1) p q (λ e. ne (omega arith))

pub put_here : (ps : List Process) (pid : ℕ) (p q : Process) → process_of ps pid ≡ Some p → process_of (with_process ps pid q) pid ≡ Some q
put_here ps pid p q = elim (nat_lt 0 pid) as (λ b. cond b (slice_get ps (pid - 1)) None ≡ Some p → cond b (slice_get (slice_set ps (pid - 1) q) (pid - 1)) None ≡ Some q) [
  | true ↦ λ e. get_set_same ps (pid - 1) p q e
  | false ↦ λ e. cc
]

pub put_elsewhere : (ps : List Process) (pid other : ℕ) (q : Process) → other ≢ pid → 0 < pid → process_of (with_process ps pid q) other ≡ process_of ps other
put_elsewhere ps pid other q ne l = go (nat_lt 0 other) refl
  where
    go : (b : Bool) → nat_lt 0 other ≡ b → cond b (slice_get (slice_set ps (pid - 1) q) (other - 1)) None ≡ cond b (slice_get ps (other - 1)) None
    go true e =
        let m : 0 < other = grind (arith, nat_tests) in
        get_set ps (pid - 1) (other - 1) q (λ h. ne (omega arith))
    go false e = refl

pub alive_of : (p : Process) → is_ended p.status ≡ false → alive (Some p) ≡ Some p
alive_of p e = ap (λ b. cond b None (Some p)) e

pub gone : (p : Process) → is_ended p.status ≡ true → alive (Some p) ≡ None
gone p e = ap (λ b. cond b None (Some p)) e
