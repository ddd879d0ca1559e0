-- Runs of rows that stop before break spots, one row at a time.
use Rattle.std.proofs.Common.{◌≡◌, ◌≢◌, ℕ, suc, zero, ◌+◌, ◌-◌, ◌≤◌, ◌<◌, nat_lt, Bool, true, false, not, cond, List, [], Option, Some, None, Ok, refl, sym, ap, ◌∙◌, arith, ◌&&◌, option_map}
use Rattle.std.proofs.lemmas.Bool.Decides.{nat_tests}
use Rattle.beam_machine.specs.declared.process.Status.{Status}
use Rattle.beam_machine.specs.declared.process.Status.TheVariants.{Running, Waiting, Ended}
use Rattle.beam_machine.specs.declared.event.Then.{Then}
use Rattle.beam_machine.specs.declared.event.Then.TheVariants.{GoesOn}
use Rattle.beam_machine.specs.declared.event.Reply.TheVariants.{Ran}
use Rattle.beam_machine.specs.Prelude.{Halting, halting, halts_or, no_rows, and_one, is_at_spot, Process, is_running, then_of, State, process_of, Rows, running, row, row_and, ran, ran_to, replied, effective_rows}
use Rattle.beam_machine.specs.Next.{steps}
use Rattle.beam_model.specs.Prelude.{Place}
use Rattle.beam_rows.specs.Prelude.{is_stopped, passes_after}
use Rattle.beam_rows.proofs.Clearing.{passes_no_more}
use Rattle.beam_state.specs.Prelude.{then_at}
use Rattle.beam_laws.proofs.Spots.{none_at}
use Rattle.beam_core.specs.Halt.{rows_done, rows_stopped}

-- ---- the first of some rows

-- rows of a process, if there is one
halts_from : List Place → Bool → State → ℕ → ℕ → Option Process → Halting
halts_from spots passes s pid n o = halts_or (λ t. halting spots false t pid n) spots passes s pid o

-- a row before which the process doesn't stop, and then m more rows
pub halts_row : (spots : List Place) (passes : Bool) (s t : State) (pid : ℕ) (p : Process) (m : ℕ) → running (process_of s.processes pid) ≡ Some p
    → is_stopped spots passes p ≡ false → row s pid p ≡ t → halting spots passes s pid (suc m) ≡ and_one (halting spots false t pid m)
halts_row spots passes s t pid p m runs clear is =
    ap (λ o. halts_or (λ t. halting spots false t pid m) spots passes s pid o) runs
    ∙ (ap (λ b. cond {A = Halting} b (no_rows s true) (and_one (halting spots false (row s pid p) pid m))) clear
    ∙ ap (λ (u : State). and_one (halting spots false u pid m)) is)

pub one_halts : (spots : List Place) (passes : Bool) (s t : State) (pid : ℕ) (p : Process) → running (process_of s.processes pid) ≡ Some p
    → is_stopped spots passes p ≡ false → row s pid p ≡ t → halting spots passes s pid 1 ≡ rows_done 1 t
one_halts spots passes s t pid p runs clear is = halts_row spots passes s t pid p 0 runs clear is

-- a process that stops before its next row
stops_row : (spots : List Place) (passes : Bool) (s : State) (pid : ℕ) (p : Process) (m : ℕ) → running (process_of s.processes pid) ≡ Some p
    → is_stopped spots passes p ≡ true → halting spots passes s pid (suc m) ≡ no_rows s true
stops_row spots passes s pid p m runs stops =
    ap (λ o. halts_or (λ t. halting spots false t pid m) spots passes s pid o) runs
    ∙ ap (λ b. cond {A = Halting} b (no_rows s true) (and_one (halting spots false (row s pid p) pid m))) stops

-- a process that doesn't run does no more rows
no_more : (m : ℕ) (spots : List Place) (passes : Bool) (s : State) (pid : ℕ) → running (process_of s.processes pid) ≡ None → halting spots passes s pid m ≡ no_rows s false
no_more zero spots passes s pid h = refl
no_more (suc m) spots passes s pid h = ap (λ o. halts_or (λ t. halting spots false t pid m) spots passes s pid o) h

option_halts : (o : Option Process) (after : Then) → (after ≡ GoesOn → ⊥) → option_map (λ p. then_of p.status) o ≡ Some after → running o ≡ None
option_halts None after other e = refl
option_halts (Some p) after other e = at p.status e
  where
    some_is : (a b : Then) → Some a ≡ Some b → b ≡ a
    some_is a b e = cc

    at : (q : Status) → Some (then_of q) ≡ Some after → cond {A = Option Process} (is_running q) (Some p) None ≡ None
    at Running e = absurd (other (some_is GoesOn after e))
    at Waiting e = refl
    at (Ended r v) e = refl

-- ---- rows after others

-- the rows of `rest`, after `count` others
before : ℕ → Halting → Halting
before count rest = record { rows = record { count = count + rest.rows.count; state = rest.rows.state }; stopped = rest.stopped }

with_count : Halting → ℕ → Halting
with_count h count = record { rows = record { count = count; state = h.rows.state }; stopped = h.stopped }

none_before : (h : Halting) → h ≡ before 0 h
unfolding before with_count
none_before h =
    let same : h.rows.count ≡ 0 + h.rows.count = omega arith in
    ap (with_count h) same

and_before : (n : ℕ) (h : Halting) → and_one (before n h) ≡ before (suc n) h
unfolding before with_count
and_before n h =
    let same : (n + h.rows.count) + 1 ≡ suc n + h.rows.count = omega arith in
    ap (with_count h) same

one_less : (n : ℕ) (h : Halting) (t : State) → and_one h ≡ rows_done (suc n) t → h ≡ rows_done n t
one_less n h t e =
    let counts : h.rows.count + 1 ≡ suc n = ap (λ (h : Halting). h.rows.count) e in
    let count : h.rows.count ≡ n = omega arith in
    let state : h.rows.state ≡ t = ap (λ (h : Halting). h.rows.state) e in
    let stopped : h.stopped ≡ false = ap (λ (h : Halting). h.stopped) e in
    λ i. record { rows = record { count = count i; state = state i }; stopped = stopped i }

-- if n rows are executed, m more rows follow them
halts_join : (n m : ℕ) (spots : List Place) (passes : Bool) (pid : ℕ) (s t : State) → halting spots passes s pid n ≡ rows_done n t
    → halting spots passes s pid (n + m) ≡ before n (halting spots (passes_after passes n) t pid m)
unfolding halts_from before
halts_join zero m spots passes pid s t e =
    let here : s ≡ t = ap (λ (h : Halting). h.rows.state) e in
    let none : 0 + m ≡ m = omega arith in
    ap (halting spots passes s pid) none ∙ (ap (λ u. halting spots passes u pid m) here ∙ none_before (halting spots passes t pid m))
halts_join (suc n) m spots passes pid s t e =
    let longer : suc n + m ≡ suc (n + m) = omega arith in
    ap (halting spots passes s pid) longer ∙ at (running (process_of s.processes pid)) e (λ p k. halts_join n m spots false pid (row s pid p) t k)
  where
    goes_on : (h more : Halting) → and_one h ≡ rows_done (suc n) t → (h ≡ rows_done n t → more ≡ before n (halting spots (passes_after false n) t pid m))
        → and_one more ≡ before (suc n) (halting spots false t pid m)
    goes_on h more e k =
        ap and_one (k (one_less n h t e))
        ∙ (ap (λ b. and_one (before n (halting spots b t pid m))) (passes_no_more n) ∙ and_before n (halting spots false t pid m))

    by : (b : Bool) (h more : Halting) → cond {A = Halting} b (no_rows s true) (and_one h) ≡ rows_done (suc n) t
        → (h ≡ rows_done n t → more ≡ before n (halting spots (passes_after false n) t pid m))
        → cond {A = Halting} b (no_rows s true) (and_one more) ≡ before (suc n) (halting spots false t pid m)
    by true h more e k = let z : 0 ≡ suc n = ap (λ (h : Halting). h.rows.count) e in absurd (omega arith)
    by false h more e k = goes_on h more e k

    at : (o : Option Process) → halts_from spots passes s pid n o ≡ rows_done (suc n) t
        → ((p : Process) → halting spots false (row s pid p) pid n ≡ rows_done n t
        → halting spots false (row s pid p) pid (n + m) ≡ before n (halting spots (passes_after false n) t pid m))
        → halts_from spots passes s pid (n + m) o ≡ before (suc n) (halting spots false t pid m)
    at None e k = let z : 0 ≡ suc n = ap (λ (h : Halting). h.rows.count) e in absurd (omega arith)
    at (Some p) e k =
        by (not passes && is_at_spot spots p.goes) (halting spots false (row s pid p) pid n) (halting spots false (row s pid p) pid (n + m)) e (k p)

-- n rows, and then m rows, make n + m rows
pub halts_more : (n m : ℕ) (spots : List Place) (passes : Bool) (pid : ℕ) (s t u : State) → halting spots passes s pid n ≡ rows_done n t
    → halting spots (passes_after passes n) t pid m ≡ rows_done m u → halting spots passes s pid (n + m) ≡ rows_done (n + m) u
unfolding before
halts_more n m spots passes pid s t u e f = halts_join n m spots passes pid s t e ∙ ap (before n) f

halts_past : (n m : ℕ) (spots : List Place) (passes : Bool) (pid : ℕ) (s t : State) → n ≤ m → halting spots passes s pid n ≡ rows_done n t
    → running (process_of t.processes pid) ≡ None → halting spots passes s pid m ≡ rows_done n t
unfolding before
halts_past n m spots passes pid s t l e halts =
    let all : m ≡ n + (m - n) = omega arith in
    let none : n + 0 ≡ n = omega arith in
    ap (halting spots passes s pid) all
    ∙ (halts_join n (m - n) spots passes pid s t e
    ∙ (ap (before n) (no_more (m - n) spots (passes_after passes n) t pid halts)
    ∙ ap (λ k. rows_done k t) none))

-- rows after others, by the last of which the process waits or has ended
pub halts_to_end : (count more m : ℕ) (spots : List Place) (passes : Bool) (pid : ℕ) (s t u : State) (after : Then) → halting spots passes s pid count ≡ rows_done count t
    → count + more ≤ m → halting spots (passes_after passes count) t pid more ≡ rows_done more u → then_at u.processes pid ≡ Some after → (after ≡ GoesOn → ⊥)
    → halting spots passes s pid m ≡ rows_done (count + more) u
halts_to_end count more m spots passes pid s t u after e l h stands other =
    halts_past (count + more) m spots passes pid s u l (halts_more count more spots passes pid s t u e h) (option_halts (process_of u.processes pid) after other stands)

-- the next row is that of a break spot
pub halts_stop : (count m : ℕ) (spots : List Place) (passes : Bool) (pid : ℕ) (s t : State) (p : Process) → count < m → halting spots passes s pid count ≡ rows_done count t
    → running (process_of t.processes pid) ≡ Some p → is_stopped spots (passes_after passes count) p ≡ true → halting spots passes s pid m ≡ rows_stopped count t
unfolding before
halts_stop count m spots passes pid s t p l e runs stops =
    let rest : ℕ = m - count - 1 in
    let all : m ≡ count + suc rest = omega arith in
    let none : count + 0 ≡ count = omega arith in
    ap (halting spots passes s pid) all
    ∙ (halts_join count (suc rest) spots passes pid s t e
    ∙ (ap (before count) (stops_row spots (passes_after passes count) t pid p rest runs stops)
    ∙ ap (λ k. rows_stopped k t) none))

-- zero rows change nothing
pub none_done : (n : ℕ) (spots : List Place) (passes : Bool) (pid : ℕ) (s t : State) → n ≡ 0 → halting spots passes s pid n ≡ rows_done n t → t ≡ s
none_done zero spots passes pid s t z e = sym (ap (λ (h : Halting). h.rows.state) e)
none_done (suc n) spots passes pid s t z e = absurd (omega arith)

-- ---- whether the next row may be that of a break spot

pub passes_twice : (passes : Bool) (a b : ℕ) → passes_after (passes_after passes a) b ≡ passes_after passes (a + b)
passes_twice passes zero b = let none : b ≡ 0 + b = omega arith in ap (passes_after passes) none
passes_twice passes (suc n) b =
    let longer : suc (n + b) ≡ suc n + b = omega arith in
    passes_no_more b ∙ ap (passes_after passes) longer

pub passed : (passes : Bool) (n : ℕ) → 0 < n → false ≡ passes_after passes n
passed passes zero h = absurd (omega arith)
passed passes (suc n) h = refl

-- ---- without break spots

whole : Rows → Halting
whole rows = record { rows = rows; stopped = false }

unhalted_by : (passes : Bool) (s : State) (pid : ℕ) (halts : State → Halting) (rest : State → Rows) (o : Option Process) → ((t : State) → halts t ≡ whole (rest t))
    → halts_or halts [] passes s pid o ≡ whole (row_and rest s pid o)
unfolding whole
unhalted_by passes s pid halts rest None same = refl
unhalted_by passes s pid halts rest (Some p) same =
    ap (λ b. cond {A = Halting} b (no_rows s true) (and_one (halts (row s pid p)))) (none_at passes p.goes) ∙ ap and_one (same (row s pid p))

unhalted : (n : ℕ) (passes : Bool) (s : State) (pid : ℕ) → halting [] passes s pid n ≡ whole (steps s pid n)
unfolding whole
unhalted zero passes s pid = refl
unhalted (suc n) passes s pid =
    unhalted_by passes s pid (λ t. halting [] false t pid n) (λ t. steps t pid n) (running (process_of s.processes pid)) (λ t. unhalted n false t pid)

pub any_passes : (n : ℕ) (passes : Bool) (s : State) (pid : ℕ) → halting [] passes s pid n ≡ halting [] false s pid n
any_passes n passes s pid = unhalted n passes s pid ∙ sym (unhalted n false s pid)

pub done_steps : (n count : ℕ) (passes : Bool) (s t : State) (pid : ℕ) → halting [] passes s pid n ≡ rows_done count t → steps s pid n ≡ record { count = count; state = t }
unfolding whole
done_steps n count passes s t pid e = ap (λ (h : Halting). h.rows) (sym (unhalted n passes s pid) ∙ e)

pub never_stopped : (n count : ℕ) (passes : Bool) (s t : State) (pid : ℕ) → halting [] passes s pid n ≡ rows_stopped count t → ⊥
unfolding whole
never_stopped n count passes s t pid e = false_true (ap (λ (h : Halting). h.stopped) (sym (unhalted n passes s pid) ∙ e))
  where
    false_true : false ≡ true → ⊥
    false_true e = cc

-- ---- the answer

-- the answer after rows of a process that runs or has ended, where these rows are known
pub rows_answer : (s t : State) (pid m count : ℕ) (after : Then) → steps s pid m ≡ record { count = count; state = t } → then_at t.processes pid ≡ Some after → ran pid (steps s pid m) ≡ record { answer = Ok (Ran count after); state = t }
rows_answer s t pid m count after e h = ap (λ r. ran pid r) e ∙ at (process_of t.processes pid) h
  where
    at : (o : Option Process) → option_map (λ p. then_of p.status) o ≡ Some after → ran_to (record { count = count; state = t }) o ≡ record { answer = Ok (Ran count after); state = t }
    at None e = cc
    at (Some p) e = ap (λ a. replied t (Ran count a)) (some_is (then_of p.status) after e)
      where
        some_is : (a b : Then) → Some a ≡ Some b → a ≡ b
        some_is a b e = cc

-- `Steps` that memory stopped in the middle stand in the list of events with the rows that were executed
pub granted_some : (n count : ℕ) → count ≢ 0 → count < n → effective_rows n count GoesOn ≡ count
granted_some n count some less =
    let first : nat_lt 0 count ≡ true = grind (arith, nat_tests) in
    let short : nat_lt count n ≡ true = grind (arith, nat_tests) in
    rw (first, short) refl
