-- Turns, waits and rows, one after another.
use Rattle.std.proofs.Common.{arith, ◌+◌, ◌<◌, ◌≤◌, ◌≡◌, ◌∙◌, ap, sym, refl, ℕ, suc, zero, Bool, true, false, Option, Some, None, Result, Ok, Err, IfOk, nat_le, if◌then◌else◌}
use Rattle.std.proofs.lemmas.Bool.Decides.{nat_tests}
use Rattle.beam_machine.specs.declared.event.Event.TheVariants.{Steps, Timeout}
use Rattle.beam_machine.specs.declared.event.Refused.{Refused}
use Rattle.beam_machine.specs.declared.event.Then.{Then}
use Rattle.beam_machine.specs.declared.event.Then.TheVariants.{GoesOn, Waits, Ended}
use Rattle.beam_machine.specs.Prelude.{Answer, Next, Rows, next, next_steps, ran, ran_to, refused as refused_with, row, row_and, running, Process, is_waiting, next_deadline, Answers, effective_rows, State, live_process, process_of}
use Rattle.beam_machine.specs.declared.event.Refused.TheVariants as refused
use Rattle.beam_machine.specs.declared.event.Reply.TheVariants as reply
use Rattle.beam_machine.specs.Next.{steps}
use Rattle.beam_tools.specs.declared.rounds.CallOutcome.{CallOutcome}
use Rattle.beam_tools.specs.declared.rounds.CallOutcome.TheVariants.{Spent}
use Rattle.beam_tools.specs.declared.rounds.Rounds.{Rounds}
use Rattle.beam_tools.specs.Prelude.{IsWhole, onward, outcome_by, outcome_within, rows_of, onward_of, wake, woken}

-- ---- rows

-- rows that memory didn't stop stand in the list of events with the number that was asked for
all_granted : (n count : ℕ) (after : Then) → IsWhole n (Ok (reply.Ran count after)) → effective_rows n count after ≡ n
all_granted n count GoesOn whole = grind (arith, nat_tests)
all_granted n count Waits whole = refl
all_granted n count (Ended reason value) whole = refl

-- rows that memory didn't stop are an event with the number that was asked for
all_rows : (old new : State) (pid n : ℕ) (answer : Answer) → IsWhole n answer → Answers old (Steps pid n) answer new
    → next old (Steps pid n) ≡ record { answer = answer; state = new }
all_rows old new pid n (Err refused.NoMemory) whole h = absurd whole
all_rows old new pid n (Ok (reply.Ran count after)) whole h = ap (λ (m : ℕ). next old (Steps pid m)) (sym (all_granted n count after whole)) ∙ h
all_rows old new pid n answer whole h = h

pub state_after : (old new : State) (pid n : ℕ) (answer : Answer) (r : Result ℕ Refused) → IfOk r (λ count. IsWhole n answer) → Answers old (Steps pid n) answer new
    → IfOk r (λ count. new ≡ (next old (Steps pid n)).state)
state_after old new pid n answer (Ok count) whole h = ap (λ (x : Next). x.state) (sym (all_rows old new pid n answer whole h))
state_after old new pid n answer (Err e) whole h = tt

pub count_after : (old new : State) (pid n : ℕ) (answer : Answer) (r : Result ℕ Refused) → IfOk r (λ count. IsWhole n answer) → IfOk r (λ count. count ≡ rows_of answer)
    → Answers old (Steps pid n) answer new → IfOk r (λ count. count ≡ rows_of (next old (Steps pid n)).answer)
count_after old new pid n answer (Ok count) whole is h = is ∙ ap (λ (x : Next). rows_of x.answer) (sym (all_rows old new pid n answer whole h))
count_after old new pid n answer (Err e) whole is h = tt

-- at most as many rows are run as were asked for
steps_within : (s : State) (pid n : ℕ) → (steps s pid n).count ≤ n
steps_within s pid zero = omega arith
steps_within s pid (suc n) = go (running (process_of s.processes pid)) (λ t. steps_within t pid n)
  where
    go : (o : Option Process) → ((t : State) → (steps t pid n).count ≤ n) → (row_and (λ t. steps t pid n) s pid o).count ≤ suc n
    go None rest = omega arith
    go (Some p) rest =
        let fewer = rest (row s pid p) in
        omega arith

ran_within : (rows : Rows) (n : ℕ) (o : Option Process) → rows.count ≤ n → rows_of (ran_to rows o).answer ≤ n
ran_within rows n None few = omega arith
ran_within rows n (Some p) few = few

next_within : (s : State) (pid n : ℕ) → rows_of (next s (Steps pid n)).answer ≤ n
next_within s pid n = go (live_process s.processes pid)
  where
    waits : (b : Bool) → rows_of (if b then refused_with s refused.NotReady else ran pid (steps s pid n)).answer ≤ n
    waits true = omega arith
    waits false = ran_within (steps s pid n) n (process_of (steps s pid n).state.processes pid) (steps_within s pid n)

    go : (o : Option Process) → rows_of (next_steps s pid n o).answer ≤ n
    go None = omega arith
    go (Some p) = waits (is_waiting p.status)

pub within : (s : State) (pid n : ℕ) (r : Result ℕ Refused) → IfOk r (λ count. count ≡ rows_of (next s (Steps pid n)).answer) → IfOk r (λ count. count ≤ n)
within s pid n (Ok count) is =
    let few = next_within s pid n in
    omega arith
within s pid n (Err e) is = tt

-- ---- waits

woken_on : (m n now : ℕ) (s : State) (o : Option (ℕ × ℕ)) → m ≡ n + 1 → next_deadline s.processes ≡ o → woken m now s ≡ wake (woken n now) now s o
unfolding woken
woken_on zero n now s o e is = absurd (omega arith)
woken_on (suc m) n now s o e is =
    let same : m ≡ n = omega arith in
    ap (λ (k : ℕ). wake (woken k now) now s (next_deadline s.processes)) same ∙ ap (wake (woken n now) now s) is

pub woken_none : (m n now : ℕ) (s : State) → m ≡ n + 1 → next_deadline s.processes ≡ None → woken m now s ≡ s
woken_none m n now s e is = woken_on m n now s None e is

pub woken_late : (m n now : ℕ) (s : State) (due : ℕ × ℕ) → m ≡ n + 1 → next_deadline s.processes ≡ Some due → now < due.0 → woken m now s ≡ s
woken_late m n now s due e is late =
    let no : nat_le due.0 now ≡ false = grind (arith, nat_tests) in
    woken_on m n now s (Some due) e is ∙ ap (λ (b : Bool). if b then woken n now (next s (Timeout due.1)).state else s) no

pub woken_due : (m n now : ℕ) (s : State) (due : ℕ × ℕ) → m ≡ n + 1 → next_deadline s.processes ≡ Some due → due.0 ≤ now
    → woken m now s ≡ woken n now (next s (Timeout due.1)).state
woken_due m n now s due e is come =
    let yes : nat_le due.0 now ≡ true = grind (arith, nat_tests) in
    woken_on m n now s (Some due) e is ∙ ap (λ (b : Bool). if b then woken n now (next s (Timeout due.1)).state else s) yes

pub woken_zero : (m now : ℕ) (s : State) → m ≡ 0 → woken m now s ≡ s
unfolding woken
woken_zero zero now s e = refl
woken_zero (suc m) now s e = absurd (omega arith)

-- ---- turns

pub outcome_on : (m n : ℕ) (r next_one : Rounds) (o : Option CallOutcome) → m ≡ n + 1 → onward_of o next_one ≡ onward r → outcome_within m r ≡ outcome_by (outcome_within n) (onward_of o next_one)
unfolding outcome_within
outcome_on zero n r next_one o e is = absurd (omega arith)
outcome_on (suc m) n r next_one o e is =
    let same : m ≡ n = omega arith in
    ap (λ (k : ℕ). outcome_by (outcome_within k) (onward r)) same ∙ ap (outcome_by (outcome_within n)) (sym is)

pub outcome_zero : (m : ℕ) (r : Rounds) → m ≡ 0 → outcome_within m r ≡ Spent
unfolding outcome_within
outcome_zero zero r e = refl
outcome_zero (suc m) r e = absurd (omega arith)
