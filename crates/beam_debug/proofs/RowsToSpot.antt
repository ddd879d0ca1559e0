-- Rows of a process that runs, up to a break spot, as the node answers them.
use Rattle.std.proofs.Common.{◌≡◌, ℕ, ◌<◌, Bool, true, false, cond, nat_lt, List, [], refl, sym, ap, ◌∙◌, arith, true≢false, Ok, ◌&&◌, zero, suc, Option, Some, None, option_map}
use Rattle.std.proofs.lemmas.Bool.Decides.{nat_tests}
use Rattle.beam_machine.specs.declared.event.Then.{Then}
use Rattle.beam_machine.specs.declared.event.Then.TheVariants.{GoesOn, Waits, Ended as EndedThen}
use Rattle.beam_machine.specs.Prelude.{Halting, Process, then_of, State, process_of, effective_rows}
use Rattle.beam_model.specs.Prelude.{Place}
use Rattle.beam_machine.specs.Next.{steps}
use Rattle.beam_core.specs.Halt.{HaltsAt}
use Rattle.beam_core.proofs.Stepping.{done_steps, never_stopped}
use Rattle.beam_debug.specs.Prelude.{then_at, RowIs}
use Rattle.beam_debug.proofs.Halting.{goes_on_runs, row_is}

-- a process of that status is there
pub standing : (o : Option Process) (after : Then) → option_map (λ p. then_of p.status) o ≡ Some after → (p : Process) × (o ≡ Some p) × (then_of p.status ≡ after)
standing None after e = cc
standing (Some p) after e = (p, refl, inner (then_of p.status) after e)
  where
    inner : (a b : Then) → Some a ≡ Some b → a ≡ b
    inner a b e = cc

-- ---- one row

one_granted_by : (count : ℕ) → cond {A = ℕ} (nat_lt 0 count && nat_lt count 1) count 1 ≡ 1
one_granted_by zero = refl
one_granted_by (suc count) =
    let first : nat_lt 0 (suc count) ≡ true = grind (arith, nat_tests) in
    let short : nat_lt (suc count) 1 ≡ false = grind (arith, nat_tests) in
    rw (first, short) refl

one_granted : (count : ℕ) (after : Then) → effective_rows 1 count after ≡ 1
one_granted count GoesOn = one_granted_by count
one_granted count Waits = refl
one_granted count (EndedThen r v) = refl

pub one_of_one : (s t : State) (pid count : ℕ) (after : Then) → then_at s pid ≡ Some GoesOn → HaltsAt [] true pid 1 s (Ok (count, Some after)) t → RowIs s pid (Ok after) t
one_of_one s t pid count after runs h =
    let p = standing (process_of s.processes pid) GoesOn runs in
    let rows : steps s pid (effective_rows 1 count after) ≡ record { count = count; state = t } = done_steps (effective_rows 1 count after) count true s t pid h.0 in
    let all : steps s pid 1 ≡ record { count = count; state = t } = ap (steps s pid) (sym (one_granted count after)) ∙ rows in
    let one : count ≡ 1 = (row_is s t pid count p.0 (goes_on_runs s pid p.0 runs p.1) all).0 in
    (all ∙ ap (λ (k : ℕ). record { count = k; state = t }) one, h.1)

-- without break spots no process stops before one
pub no_stop : (s t : State) (pid count n : ℕ) (passes : Bool) → HaltsAt [] passes pid n s (Ok (count, None)) t → ⊥
no_stop s t pid count n passes h = never_stopped n count passes s t pid h.0

-- ---- a process that stops before the row of a break spot

pub some_rows : (spots : List Place) (passes : Bool) (pid n count : ℕ) (s t : State) → HaltsAt spots passes pid n s (Ok (count, None)) t → 0 < n
some_rows spots passes pid zero count s t h = absurd (true≢false (sym (ap (λ (x : Halting). x.stopped) h.0)))
some_rows spots passes pid (suc n) count s t h = omega arith
