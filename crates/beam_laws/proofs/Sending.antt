-- Rows of one process, seen from another.
use Rattle.std.proofs.Common.{◌≡◌, ◌≢◌, ℕ, zero, suc, ◌<◌, Bool, true, false, cond, List, [], ◌++◌, refl, sym, ap, subst, ◌∙◌, Option, Some, None, option_map, unwrap_or}
use Rattle.beam_machine.specs.declared.event.Event.TheVariants as event
use Rattle.beam_machine.specs.declared.event.Refused.TheVariants.{NotReady}
use Rattle.beam_machine.specs.declared.process.Status.{Status}
use Rattle.beam_machine.specs.declared.process.Status.TheVariants.{Running, Waiting, Ended}
use Rattle.beam_machine.specs.Prelude.{Process, is_running, is_waiting, is_ended, Outcome, makes, sends, asks, sleeps, answers, arguments_of, outcome, State, process_of, with_process, alive, live_process, posted, with_made, Answered, answer_of, Rows, refused, raised, continues, done_by, row, running, row_and, ran, ran_to, next_steps, next, Sent, Private, private_rows}
use Rattle.beam_machine.specs.declared.callee.After.{After}
use Rattle.beam_machine.specs.declared.process.Signal.{Signal}
use Rattle.beam_term.specs.Prelude.{TermValue}
use Rattle.beam_model.specs.declared.native.NodeNative.{NodeNative}
use Rattle.beam_model.specs.declared.native.NodeNative.TheVariants.{Monitor}
use Rattle.beam_machine.specs.Next.{steps}
use Rattle.beam_laws.specs.Prelude.{with_name_and_transit, with_signals, downs_of_end, posted_all, after_private, end_sends, asker_sends, row_sends, row_and_send, steps_send, signals_to, signal_to, native_sends}
use Rattle.beam_laws.proofs.Ending.{runs_on, running_is}
use Rattle.beam_laws.proofs.Numbered.{positive, put_here, put_elsewhere}
use Rattle.beam_laws.proofs.Hearing.{as_before, hears, hearing_at, hearing_here, heard_same}
use Rattle.beam_laws.proofs.Posting.{Grown, Grows, grows_still, grows_more, posted_grows, hearing_grows, Elsewhere, answer_grows, more_signals, all_posted_at}

-- ---- a process that doesn't run

pub idle : (n : ℕ) (s : State) (pid : ℕ) → running (process_of s.processes pid) ≡ None → steps s pid n ≡ record { count = 0; state = s }
idle zero s pid e = refl
idle (suc n) s pid e = ap (row_and (λ t. steps t pid n) s pid) e

pub idle_sends : (n : ℕ) (s : State) (pid : ℕ) → running (process_of s.processes pid) ≡ None → steps_send s pid n ≡ []
idle_sends zero s pid e = refl
idle_sends (suc n) s pid e = ap (row_and_send (λ t. steps_send t pid n) s pid) e

not_live : (o : Option Process) → alive o ≡ None → running o ≡ None
not_live None e = refl
not_live (Some p) e = go (is_running p.status) refl
  where
    go : (b : Bool) → is_running p.status ≡ b → cond b (Some p) None ≡ None
    go false r = refl
    go true r = absurd (clash (sym (ap (λ b. cond b None (Some p)) (runs_on p.status r)) ∙ e))
      where
        clash : Some p ≡ None → ⊥
        clash e = cc

waits : (status : Status) → is_waiting status ≡ true → is_running status ≡ false
waits Running e = cc
waits Waiting e = refl
waits (Ended reason value) e = refl

not_running : (o : Option Process) (p : Process) → alive o ≡ Some p → is_waiting p.status ≡ true → running o ≡ None
not_running None p e w = refl
not_running (Some x) p e w = go (is_ended x.status) e
  where
    go : (b : Bool) → cond b None (Some x) ≡ Some p → cond (is_running x.status) (Some x) None ≡ None
    go true h = cc
    go false h =
        let is : x ≡ p = cc in
        ap (λ b. cond b (Some x) None) (ap (λ y. is_running y.status) is ∙ waits p.status w)

-- the state after an event of rows is that after its rows
pub steps_state : (s : State) (pid n : ℕ) → (next_steps s pid n (live_process s.processes pid)).state ≡ (steps s pid n).state
steps_state s pid n = go (live_process s.processes pid) refl
  where
    ran_state : (rows : Rows) (o : Option Process) → (ran_to rows o).state ≡ rows.state
    ran_state rows None = refl
    ran_state rows (Some p) = refl

    by : (p : Process) (b : Bool) → is_waiting p.status ≡ b → live_process s.processes pid ≡ Some p → (cond b (refused s NotReady) (ran pid (steps s pid n))).state ≡ (steps s pid n).state
    by p true w e = ap (λ rows. rows.state) (sym (idle n s pid (not_running (process_of s.processes pid) p e w)))
    by p false w e = ran_state (steps s pid n) (process_of (steps s pid n).state.processes pid)

    go : (o : Option Process) → live_process s.processes pid ≡ o → (next_steps s pid n o).state ≡ (steps s pid n).state
    go None e = ap (λ rows. rows.state) (sym (idle n s pid (not_live (process_of s.processes pid) e)))
    go (Some p) e = by p (is_waiting p.status) refl e

-- ---- rows, seen from another process

module _ (pid other : ℕ) (ne : other ≢ pid) (l : 0 < pid) where
  put_grows : (xs : List Sent) (ps qs : List Process) (q : Process) → Grows other xs ps qs → Grows other xs ps (with_process qs pid q)
  put_grows xs ps qs q g = subst (Grown (signals_to other xs) (process_of ps other)) (sym (put_elsewhere qs pid other q ne l)) g

  -- a process is put, and the DOWNs of its end are sent
  pub made_grows : (ps : List Process) (q : Process) → Grows other (end_sends ps pid q) ps (with_made ps pid q)
  made_grows ps q =
      let qs : List Process = with_process ps pid q in
      grows_more other [] (end_sends ps pid q) ps qs (with_made ps pid q) (put_grows [] ps ps q (grows_still other ps)) (hearing_grows other pid q.status qs)

  continues_grows : (s : State) (after : After) (a : Answered) (o : Option Process) → s.processes ≡ a.processes
      → Grows other (asker_sends pid after a o) a.processes (continues s pid after a.value o).processes
  continues_grows s after a None e = subst (Grows other [] a.processes) (sym e) (grows_still other a.processes)
  continues_grows s after a (Some q) e =
      subst (λ ps. Grows other (asker_sends pid after a (Some q)) a.processes (with_made ps pid (answers q after (raised a.value)))) (sym e) (made_grows a.processes (answers q after (raised a.value)))

  elsewhere : (native : NodeNative) → Elsewhere other native pid
  elsewhere Monitor = ne
  elsewhere native = tt

  done_grows : (s : State) (o : Outcome) → Grows other (row_sends s pid o) s.processes (done_by s pid o).processes
  done_grows s (makes q) = made_grows s.processes q
  done_grows s (sends q to signal) =
      let ps : List Process = with_process s.processes pid q in
      grows_more other [] (signal_to ps to signal) s.processes ps (posted ps to signal) (put_grows [] s.processes s.processes q (grows_still other s.processes)) (posted_grows other ps to signal)
  done_grows s (asks q native arity after) =
      let ps : List Process = with_process s.processes pid q in
      let ts : List TermValue = arguments_of q arity in
      let a : Answered = answer_of s.references ps pid native ts in
      let xs : List Sent = native_sends s.references ps pid native ts in
      let ys : List Sent = asker_sends pid after a (process_of a.processes pid) in
      let t : State = record s { processes = a.processes; references = unwrap_or a.made s.references } in
      grows_more other [] (xs ++ ys) s.processes ps (continues t pid after a.value (process_of a.processes pid)).processes (put_grows [] s.processes s.processes q (grows_still other s.processes))
      (grows_more other xs ys ps a.processes (continues t pid after a.value (process_of a.processes pid)).processes (answer_grows other s.references ps pid native ts (elsewhere native))
      (continues_grows t after a (process_of a.processes pid) refl))
  done_grows s (sleeps q n next) = put_grows [] s.processes s.processes _ (grows_still other s.processes)

row_and_grows : (pid other : ℕ) → other ≢ pid → (s : State) (rest : State → Rows) (more : State → List Sent) (o : Option Process) → running (process_of s.processes pid) ≡ o
    → ((t : State) → Grows other (more t) t.processes (rest t).state.processes) → Grows other (row_and_send more s pid o) s.processes (row_and rest s pid o).state.processes
row_and_grows pid other ne s rest more None e h = grows_still other s.processes
row_and_grows pid other ne s rest more (Some p) e h =
    let r = running_is (process_of s.processes pid) p e in
    grows_more other (row_sends s pid (outcome s.code p)) (more (row s pid p)) s.processes (row s pid p).processes (rest (row s pid p)).state.processes
    (done_grows pid other ne (positive s.processes pid p r.0) s (outcome s.code p)) (h (row s pid p))

pub steps_grow : (n : ℕ) (s : State) (pid other : ℕ) → other ≢ pid → Grows other (steps_send s pid n) s.processes (steps s pid n).state.processes
steps_grow zero s pid other ne = grows_still other s.processes
steps_grow (suc n) s pid other ne =
    row_and_grows pid other ne s (λ t. steps t pid n) (λ t. steps_send t pid n) (running (process_of s.processes pid)) refl (λ t. steps_grow n t pid other ne)

pub others_stay : (s : State) (pid n other : ℕ) (q : Process) → process_of s.processes other ≡ Some q → other ≢ pid
    → (name : Option (List ℕ)) × (process_of (next s (event.Steps pid n)).state.processes other ≡ Some (with_name_and_transit name (q.transit ++ signals_to other (steps_send s pid n)) q))
others_stay s pid n other q e ne =
    let grown : Grown (signals_to other (steps_send s pid n)) (Some q) (process_of (steps s pid n).state.processes other) =
    subst (λ o. Grown (signals_to other (steps_send s pid n)) o (process_of (steps s pid n).state.processes other)) e (steps_grow n s pid other ne) in
    (grown.0, ap (λ t. process_of t.processes other) (steps_state s pid n) ∙ grown.1)

-- ---- after private rows

pub own_stays_private : (s : State) (pid n : ℕ) (p : Process) → process_of s.processes pid ≡ Some p
    → process_of (after_private s pid (private_rows s.code n p)).processes pid ≡ Some (with_signals (signals_to pid (private_rows s.code n p).sent) (private_rows s.code n p).process)
own_stays_private s pid n p e =
    let rows : Private = private_rows s.code n p in
    let signals : List Signal = signals_to pid rows.sent in
    let ps : List Process = posted_all (with_process s.processes pid rows.process) rows.sent in
    let there : process_of ps pid ≡ Some (with_signals signals rows.process) =
    all_posted_at (with_process s.processes pid rows.process) pid rows.sent ∙ ap (option_map (with_signals signals)) (put_here s.processes pid p rows.process e) in
    hearing_here pid rows.process.status ps (with_signals signals rows.process) there (as_before (λ q. q.status) signals rows.process refl)

-- signals, and then the DOWNs of an end
then_hears : (pid : ℕ) (status : Status) (signals : List Signal) (o : Option Process)
    → option_map (hears pid status) (option_map (with_signals signals) o) ≡ option_map (λ q. with_signals (signals ++ downs_of_end pid status q) q) o
then_hears pid status signals None = refl
then_hears pid status signals (Some q) =
    ap Some (ap (λ xs. with_signals xs (with_signals signals q)) (heard_same pid status signals q) ∙ more_signals signals (downs_of_end pid status q) q)

pub others_stay_private : (s : State) (pid n other : ℕ) (p : Process) → process_of s.processes pid ≡ Some p → other ≢ pid
    → process_of (after_private s pid (private_rows s.code n p)).processes other
    ≡ option_map (λ q. with_signals (signals_to other (private_rows s.code n p).sent ++ downs_of_end pid (private_rows s.code n p).process.status q) q) (process_of s.processes other)
others_stay_private s pid n other p e ne =
    let rows : Private = private_rows s.code n p in
    let signals : List Signal = signals_to other rows.sent in
    hearing_at pid rows.process.status (posted_all (with_process s.processes pid rows.process) rows.sent) other
    ∙ (ap (option_map (hears pid rows.process.status)) (all_posted_at (with_process s.processes pid rows.process) other rows.sent
    ∙ ap (option_map (with_signals signals)) (put_elsewhere s.processes pid other rows.process ne (positive s.processes pid p e)))
    ∙ then_hears pid rows.process.status signals (process_of s.processes other))
