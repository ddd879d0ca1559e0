-- The processes that are checked out can be held without memory.
use Rattle.std.proofs.Common.{◌≡◌, ℕ, ◌==◌, ◌<◌, ◌≤◌, not, Bool, true, false, cond, List, [], ◌∷◌, ◌++◌, map, Some, refl, arith, is_some}
use Rattle.std.proofs.lemmas.Bool.Decides.{nat_tests}
use Rattle.beam_debug.specs.Prelude.{Debugger}
use Rattle.beam_shared.specs.declared.checked_out.CheckoutEntry.{CheckoutEntry}
use Rattle.beam_shared.specs.Prelude.{checked_out_of, HasCapacityFor, serial_of, without_entry}

pub more_capacity : (d x : Debugger) (checked_out : List CheckoutEntry) → d.capacity ≤ x.capacity → HasCapacityFor d checked_out → HasCapacityFor x checked_out
more_capacity d x [] more h = tt
more_capacity d x (entry ∷ rest) more h =
    let less : entry.pid < x.capacity = omega (arith, more, h.0) in
    (less, more_capacity d x rest more h.1)

pub capacity_with : (d : Debugger) (checked_out : List CheckoutEntry) (entry : CheckoutEntry) → HasCapacityFor d checked_out → entry.pid < d.capacity → HasCapacityFor d (checked_out ++ entry ∷ [])
capacity_with d [] entry h less = (less, tt)
capacity_with d (first ∷ rest) entry h less = (h.0, capacity_with d rest entry h.1 less)

kept_capacity : (d : Debugger) (entry : CheckoutEntry) (rest : List CheckoutEntry) (b : Bool) → entry.pid < d.capacity → HasCapacityFor d rest → HasCapacityFor d (cond b (entry ∷ rest) rest)
kept_capacity d entry rest true less h = (less, h)
kept_capacity d entry rest false less h = h

pub capacity_without : (d : Debugger) (pid : ℕ) (checked_out : List CheckoutEntry) → HasCapacityFor d checked_out → HasCapacityFor d (without_entry pid checked_out)
capacity_without d pid [] h = tt
capacity_without d pid (entry ∷ rest) h = kept_capacity d entry (without_entry pid rest) (not (entry.pid == pid)) h.0 (capacity_without d pid rest h.1)

-- a process that is checked out can be held without memory
pub capacity_for : (d : Debugger) (pid : ℕ) (checked_out : List CheckoutEntry) → HasCapacityFor d checked_out → is_some (serial_of pid (map checked_out_of checked_out)) ≡ true → pid < d.capacity
capacity_for d pid [] h there = absurd (cc there)
capacity_for d pid (entry ∷ rest) h there = by (entry.pid == pid) refl there (λ e. capacity_for d pid rest h.1 e)
  where
    by : (b : Bool) → (entry.pid == pid) ≡ b → is_some (cond b (Some entry.serial) (serial_of pid (map checked_out_of rest))) ≡ true
        → (is_some (serial_of pid (map checked_out_of rest)) ≡ true → pid < d.capacity) → pid < d.capacity
    by true own e more =
        let same : entry.pid ≡ pid = grind (arith, nat_tests, own) in
        omega (arith, same, h.0)
    by false own e more = more e
