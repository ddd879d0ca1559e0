-- How private rows end.
use Rattle.std.proofs.Common.{◌≡◌, ◌≢◌, ℕ, zero, suc, ◌+◌, ◌-◌, ◌≤◌, Bool, true, false, cond, ◌++◌, refl, sym, ap, subst, ◌∙◌, arith, Some, None, option_map}
use Rattle.beam_machine.specs.declared.event.Event.TheVariants as event
use Rattle.beam_machine.specs.declared.event.Refused.TheVariants.{NotReady}
use Rattle.beam_machine.specs.declared.event.Reply.TheVariants.{Ran}
use Rattle.beam_machine.specs.declared.process.Status.{Status}
use Rattle.beam_machine.specs.declared.process.Status.TheVariants.{Running, Waiting, Ended}
use Rattle.beam_machine.specs.Prelude.{Code, Process, is_running, is_waiting, is_ended, then_of, Outcome, makes, sends, asks, sleeps, outcome, State, process_of, alive, live_process, running, refused, replied, ran, ran_to, next_steps, next, Private, End, at_limit, after_row, before_node_row, at_spot, stops, private_by, private_rows}
use Rattle.beam_machine.specs.Next.{steps}
use Rattle.beam_laws.specs.Prelude.{with_signals, downs_of_end, after_private, before, signals_to}
use Rattle.beam_laws.proofs.Ending.{runs_on}
use Rattle.beam_laws.proofs.Numbered.{alive_of}
use Rattle.beam_laws.proofs.Events.{Alike, steps_alike}
pub use Rattle.beam_laws.proofs.Private.{having_status}
use Rattle.beam_laws.proofs.Sending.{idle, steps_state, own_stays_private, others_stay_private}
use Rattle.beam_laws.proofs.Commits.{rows_go_on}

-- at the limit all rows are done; after a row the process doesn't run
abbrev EndsAt : ℕ → ℕ → Process → End → Type 0
EndsAt n count p at_limit = count ≡ n
EndsAt n count p after_row = (count ≤ n) × (is_running p.status ≡ false)
EndsAt n count p before_node_row = Unit {0}
EndsAt n count p at_spot = ⊥

abbrev Ends : ℕ → Private → Type 0
Ends n rows = EndsAt n rows.count rows.process rows.end

one_more_ends : (n count : ℕ) (p : Process) (end : End) → EndsAt n count p end → EndsAt (suc n) (count + 1) p end
one_more_ends n count p at_limit h = omega arith
one_more_ends n count p after_row h = (omega arith, h.1)
one_more_ends n count p before_node_row h = tt
one_more_ends n count p at_spot h = h

row_ends : (code : Code) (n : ℕ) → ((p : Process) → Ends n (private_rows code n p)) → (p : Process) (o : Outcome) → Ends (suc n) (private_by (private_rows code n) p o)
row_ends code n h p (makes q) = one_more_ends n (private_rows code n q).count (private_rows code n q).process (private_rows code n q).end (h q)
row_ends code n h p (sends q to signal) = one_more_ends n (private_rows code n q).count (private_rows code n q).process (private_rows code n q).end (h q)
row_ends code n h p (asks q native arity after) = tt
row_ends code n h p (sleeps q k next) = tt

ends : (code : Code) (n : ℕ) (p : Process) → Ends n (private_rows code n p)
ends code zero p = refl
ends code (suc n) p = go (ends code n) (is_running p.status) refl
  where
    go : ((p : Process) → Ends n (private_rows code n p)) → (b : Bool) → is_running p.status ≡ b → Ends (suc n) (cond b (private_by (private_rows code n) p (outcome code p)) (stops p after_row))
    go h true r = row_ends code n h p (outcome code p)
    go h false r = (omega arith, r)

stopped : (s : State) (pid n : ℕ) (p : Process) → process_of s.processes pid ≡ Some p → is_running (private_rows s.code n p).process.status ≡ false
    → running (process_of (after_private s pid (private_rows s.code n p)).processes pid) ≡ None
stopped s pid n p e r =
    let rows : Private = private_rows s.code n p in
    let q : Process = with_signals (signals_to pid rows.sent) rows.process in
    ap running (own_stays_private s pid n p e) ∙ ap (λ b. cond b (Some q) None) (ap is_running (having_status rows.process.name (rows.process.transit ++ signals_to pid rows.sent) rows.process) ∙ r)

whole : (s t : State) (pid n count : ℕ) (q : Process) (end : End) → EndsAt n count q end → end ≢ before_node_row
    → ((m : ℕ) → steps s pid (count + m) ≡ before count (steps t pid m)) → (is_running q.status ≡ false → running (process_of t.processes pid) ≡ None) → steps s pid n ≡ record { count = count; state = t }
whole s t pid n count q at_limit h ne go_on stop =
    let all : n ≡ count + 0 = omega arith in
    let none : count + 0 ≡ count = omega arith in
    ap (steps s pid) all ∙ (go_on 0 ∙ ap (λ k. record { count = k; state = t }) none)
whole s t pid n count q after_row h ne go_on stop =
    let all : n ≡ count + (n - count) = omega (arith, h.0) in
    let none : count + 0 ≡ count = omega arith in
    ap (steps s pid) all ∙ (go_on (n - count) ∙ (ap (before count) (idle (n - count) t pid (stop h.1)) ∙ ap (λ k. record { count = k; state = t }) none))
whole s t pid n count q before_node_row h ne go_on stop = absurd (ne refl)
whole s t pid n count q at_spot h ne go_on stop = absurd h

pub rows_whole : (s : State) (pid n : ℕ) (p : Process) → process_of s.processes pid ≡ Some p → is_ended p.status ≡ false → (private_rows s.code n p).end ≢ before_node_row
    → steps s pid n ≡ record { count = (private_rows s.code n p).count; state = after_private s pid (private_rows s.code n p) }
rows_whole s pid n p e lives ne =
    let rows : Private = private_rows s.code n p in
    whole s (after_private s pid rows) pid n rows.count rows.process rows.end (ends s.code n p) ne (λ m. rows_go_on s pid n m p e lives) (stopped s pid n p e)

-- ---- events of rows

pub node_stays : (s : State) (pid n : ℕ) → ((next s (event.Steps pid n)).state.code ≡ s.code) × ((next s (event.Steps pid n)).state.clock ≡ s.clock) × ((next s (event.Steps pid n)).state.instances ≡ s.instances)
node_stays s pid n = subst (Alike s) (sym (steps_state s pid n)) (steps_alike n s pid)

pub others_stay_whole : (s : State) (pid n other : ℕ) (p : Process) → process_of s.processes pid ≡ Some p → is_ended p.status ≡ false → (private_rows s.code n p).end ≢ before_node_row → other ≢ pid
    → process_of (next s (event.Steps pid n)).state.processes other
    ≡ option_map (λ q. with_signals (signals_to other (private_rows s.code n p).sent ++ downs_of_end pid (private_rows s.code n p).process.status q) q) (process_of s.processes other)
others_stay_whole s pid n other p e lives end ne =
    ap (λ t. process_of t.processes other) (steps_state s pid n)
    ∙ (ap (λ rows. process_of rows.state.processes other) (rows_whole s pid n p e lives end) ∙ others_stay_private s pid n other p e ne)

pub running_waits : (status : Status) → is_running status ≡ true → is_waiting status ≡ false
running_waits Running e = refl
running_waits Waiting e = cc
running_waits (Ended reason value) e = refl

pub rows_event : (s : State) (pid n : ℕ) (p : Process) → process_of s.processes pid ≡ Some p → is_running p.status ≡ true
    → next s (event.Steps pid (private_rows s.code n p).count)
    ≡ replied (after_private s pid (private_rows s.code n p)) (Ran (private_rows s.code n p).count (then_of (private_rows s.code n p).process.status))
rows_event s pid n p e r =
    let rows : Private = private_rows s.code n p in
    let after : State = after_private s pid (private_rows s.code n p) in
    let q : Process = with_signals (signals_to pid rows.sent) rows.process in
    let none : rows.count + 0 ≡ rows.count = omega arith in
    let live : live_process s.processes pid ≡ Some p = ap alive e ∙ alive_of p (runs_on p.status r) in
    let done : steps s pid rows.count ≡ record { count = rows.count; state = after } =
    ap (steps s pid) (sym none) ∙ (rows_go_on s pid n 0 p e (runs_on p.status r) ∙ ap (λ k. record { count = k; state = after_private s pid (private_rows s.code n p) }) none) in
    ap (next_steps s pid rows.count) live
    ∙ (ap (λ b. cond b (refused s NotReady) (ran pid (steps s pid rows.count))) (running_waits p.status r)
    ∙ (ap (ran pid) done
    ∙ (ap (ran_to (record { count = rows.count; state = after })) (own_stays_private s pid n p e)
    ∙ ap (λ status. replied after (Ran rows.count (then_of status))) (having_status rows.process.name (rows.process.transit ++ signals_to pid rows.sent) rows.process))))
