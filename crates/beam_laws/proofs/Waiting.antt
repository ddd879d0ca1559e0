-- A process, and its private rows, after events of others.
use Rattle.std.proofs.Common.{◌≡◌, ◌≢◌, ℕ, ◌+◌, ◌==◌, eq-eqb, true≢false, Bool, true, false, cond, not, nat_lt, List, [], ◌∷◌, ◌++◌, length, refl, sym, ap, subst, ◌∙◌, Option, Some, None, nat_le, ◌&&◌}
use Rattle.std.specs.List.{AllByRecursion}
use Rattle.beam_machine.specs.declared.event.Event.{Event}
use Rattle.beam_machine.specs.declared.event.Refused.TheVariants.{BackwardClock, NotReady, TooMany}
use Rattle.beam_machine.specs.declared.event.Reply.TheVariants.{Done, Started, Ran}
use Rattle.beam_machine.specs.declared.process.Deadline.{Deadline}
use Rattle.beam_machine.specs.declared.process.Signal.{Signal}
use Rattle.beam_machine.specs.declared.process.Signal.TheVariants.{Message}
use Rattle.beam_machine.specs.declared.process.Status.TheVariants.{Running}
use Rattle.beam_machine.specs.Prelude.{Process, is_running, is_ended, is_waiting, then_of, started, goes_on, State, process_of, live_process, receiver_of, posted_to, most_processes, Next, refused, replied, put_process, made_process, next_steps, delivered, is_nothing, next_deliver, timed_out, next_timeout, sent_to, next_send, next, run, Sent, Private, private_rows}
use Rattle.beam_term.specs.Prelude.{TermValue}
use Rattle.beam_machine.specs.declared.event.Event.TheVariants as event
use Rattle.beam_model.specs.Prelude.{Listing}
use Rattle.beam_laws.specs.Prelude.{with_name_and_transit, after_private, with_name_and_transit_of, is_of_others, signal_to, signal_if, end_sends, steps_send, deliver_sends, event_sends, sent, signals_to}
use Rattle.beam_laws.proofs.Ending.{alive_is}
use Rattle.beam_laws.proofs.Events.{steps_alike}
use Rattle.beam_laws.proofs.Numbered.{positive, put_elsewhere}
use Rattle.beam_laws.proofs.Private.{having_own, rows_unread}
use Rattle.beam_laws.proofs.Posting.{Grown, Grows, grows_still, grows_more, posted_grows, started_grows}
use Rattle.beam_laws.proofs.Slices.{having_status, rows_event}
use Rattle.beam_laws.proofs.Sending.{steps_state, made_grows, steps_grow}
use Rattle.beam_laws.proofs.Arriving.{no_end_at}

-- the code stays, and the process grows
abbrev Leaves : ℕ → List Sent → State → State → Type 0
Leaves pid sents s t = (t.code ≡ s.code) × Grows pid sents s.processes t.processes

module _ (pid : ℕ) where
  leaves_still : (s : State) → Leaves pid [] s s
  leaves_still s = (refl, grows_still pid s.processes)

  either : (sents : List Sent) (s : State) (b : Bool) (x y : Next) → Leaves pid sents s x.state → Leaves pid sents s y.state → Leaves pid sents s (cond b x y).state
  either sents s true x y h k = h
  either sents s false x y h k = k

  -- the event of a process at another number
  apart : (at : ℕ) → not (at == pid) ≡ true → pid ≢ at
  apart at e i = true≢false (sym e ∙ ap not (eq-eqb at pid (sym i)))

  put_leaves : (s : State) (at : ℕ) (x q : Process) → live_process s.processes at ≡ Some x → pid ≢ at → Leaves pid [] s (put_process s at q)
  put_leaves s at x q e ne =
      (refl, subst (Grown [] (process_of s.processes pid)) (sym (put_elsewhere s.processes at pid q ne (positive s.processes at x (alive_is (process_of s.processes at) x e).0))) (grows_still pid s.processes))

  deliver_leaves : (s : State) (at : ℕ) (o : Option Process) → pid ≢ at → live_process s.processes at ≡ o → Leaves pid (deliver_sends s.processes at o) s (next_deliver s at o).state
  deliver_leaves s at None ne e = leaves_still s
  deliver_leaves s at (Some p) ne e = go (is_nothing p.transit) refl
    where
      q : Process
      q = delivered (record p { transit = [] }) p.transit

      no_transit : (ts : List Signal) → is_nothing ts ≡ true → ts ≡ []
      no_transit [] e = refl
      no_transit (t ∷ ts) e = cc

      go : (b : Bool) → is_nothing p.transit ≡ b → Leaves pid (end_sends s.processes at q) s (cond {A = Next} b (refused s NotReady) (replied (made_process s at q) Done)).state
      go true n =
          let a = alive_is (process_of s.processes at) p e in
          let lives : is_ended q.status ≡ false = ap (λ ts. is_ended (delivered (record p { transit = [] }) ts).status) (no_transit p.transit n) ∙ a.1 in
          (refl, subst (λ xs. Grown xs (process_of s.processes pid) (process_of s.processes pid)) (sym (no_end_at pid at s.processes q lives)) (grows_still pid s.processes))
      go false n = (refl, made_grows at pid ne (positive s.processes at p (alive_is (process_of s.processes at) p e).0) s.processes q)

  timed_out_leaves : (s : State) (at : ℕ) (p : Process) (o : Option Deadline) → pid ≢ at → live_process s.processes at ≡ Some p → Leaves pid [] s (timed_out s at p o).state
  timed_out_leaves s at p None ne e = leaves_still s
  timed_out_leaves s at p (Some d) ne e =
      let q : Process = record (goes_on p d.after) { deadline = None; status = Running } in
      either [] s (is_waiting p.status && nat_le d.at s.clock) (replied (put_process s at q) Done) (refused s NotReady) (put_leaves s at p q e ne) (leaves_still s)

  timeout_leaves : (s : State) (at : ℕ) (o : Option Process) → pid ≢ at → live_process s.processes at ≡ o → Leaves pid [] s (next_timeout s at o).state
  timeout_leaves s at None ne e = leaves_still s
  timeout_leaves s at (Some p) ne e = timed_out_leaves s at p p.deadline ne e

  sent_leaves : (s : State) (o : Option Process) (to : ℕ) (message : TermValue) → live_process s.processes to ≡ o → Leaves pid (signal_to s.processes to (Message message)) s (sent_to s o to message).state
  sent_leaves s None to message e =
      (refl, subst (Grows pid (signal_to s.processes to (Message message)) s.processes) (ap (posted_to s.processes to (Message message)) e) (posted_grows pid s.processes to (Message message)))
  sent_leaves s (Some p) to message e = (refl, posted_grows pid s.processes to (Message message))

  send_leaves : (s : State) (o : Option ℕ) (message : TermValue) → Leaves pid (signal_if s.processes o (Message message)) s (next_send s o message).state
  send_leaves s None message = leaves_still s
  send_leaves s (Some to) message = sent_leaves s (live_process s.processes to) to message refl

  steps_leave : (s : State) (at n : ℕ) → pid ≢ at → Leaves pid (steps_send s at n) s (next_steps s at n (live_process s.processes at)).state
  steps_leave s at n ne = subst (Leaves pid (steps_send s at n) s) (sym (steps_state s at n)) ((steps_alike n s at).0, steps_grow n s at pid ne)

  next_leaves : (s : State) (e : Event Listing) → is_of_others pid e ≡ true → Leaves pid (event_sends s e) s (next s e).state
  next_leaves s (event.Versions name) o = leaves_still s
  next_leaves s (event.Spawn m f arguments) o =
      let new : Process = started (length s.processes + 1) m f arguments in
      either [] s (nat_lt (length s.processes) most_processes) (replied (record s { processes = s.processes ++ new ∷ [] }) (Started (length s.processes + 1))) (refused s TooMany)
      (refl, started_grows pid s.processes (length s.processes + 1) m f arguments) (leaves_still s)
  next_leaves s (event.Send to message) o = send_leaves s (receiver_of s.processes to) message
  next_leaves s (event.Steps at n) o = steps_leave s at n (apart at o)
  next_leaves s (event.Deliver at) o = deliver_leaves s at (live_process s.processes at) (apart at o) refl
  next_leaves s (event.Clock now) o = either [] s (nat_lt now s.clock) (refused s BackwardClock) (replied (record s { clock = now }) Done) (leaves_still s) (refl, grows_still pid s.processes)
  next_leaves s (event.Timeout at) o = timeout_leaves s at (live_process s.processes at) (apart at o) refl
  next_leaves s e o = absurd (true≢false (sym o))

  run_leaves : (s : State) (events : List (Event Listing)) → AllByRecursion (λ e. is_of_others pid e ≡ true) events → Leaves pid (sent s events) s (run s events).state
  run_leaves s [] h = leaves_still s
  run_leaves s (e ∷ events) h =
      let first = next_leaves s e h.0 in
      let rest = run_leaves (next s e).state events h.1 in
      (rest.0 ∙ first.0, grows_more pid (event_sends s e) (sent (next s e).state events) s.processes (next s e).state.processes (run (next s e).state events).state.processes first.1 rest.1)

pub others_leave : (s : State) (events : List (Event Listing)) (pid : ℕ) (p : Process) → AllByRecursion (λ e. is_of_others pid e ≡ true) events → process_of s.processes pid ≡ Some p
    → ((run s events).state.code ≡ s.code) × ((name : Option (List ℕ)) × (process_of (run s events).state.processes pid ≡ Some (with_name_and_transit name (p.transit ++ signals_to pid (sent s events)) p)))
others_leave s events pid p h e =
    let leaves = run_leaves pid s events h in
    (leaves.0, subst (λ o. Grown (signals_to pid (sent s events)) o (process_of (run s events).state.processes pid)) e leaves.1)

-- the process has the name and the signals in transit that it was given
pub given : (name : Option (List ℕ)) (transit : List Signal) (p : Process) → with_name_and_transit name transit p ≡ with_name_and_transit (with_name_and_transit name transit p).name (with_name_and_transit name transit p).transit p
given name transit p = go (is_ended p.status) refl
  where
    go : (b : Bool) → is_ended p.status ≡ b → cond b p (record p { name = name; transit = transit }) ≡ with_name_and_transit (cond {A = Process} b p (record p { name = name; transit = transit })).name (cond {A = Process} b p (record p { name = name; transit = transit })).transit p
    go true e = sym (having_own p)
    go false e = sym (ap (λ b. cond b p (record p { name = name; transit = transit })) e)

pub was_given : (s : State) (events : List (Event Listing)) (pid : ℕ) (p q : Process) → AllByRecursion (λ e. is_of_others pid e ≡ true) events → process_of s.processes pid ≡ Some p
    → process_of (run s events).state.processes pid ≡ Some q → q ≡ with_name_and_transit q.name q.transit p
was_given s events pid p q h e f =
    let leaves = others_leave s events pid p h e in
    let same : Some q ≡ Some (with_name_and_transit leaves.1.0 (p.transit ++ signals_to pid (sent s events)) p) = sym f ∙ leaves.1.1 in
    let is : q ≡ with_name_and_transit leaves.1.0 (p.transit ++ signals_to pid (sent s events)) p = cc in
    subst (λ x. x ≡ with_name_and_transit x.name x.transit p) (sym is) (given leaves.1.0 (p.transit ++ signals_to pid (sent s events)) p)

pub rows_wait : (s : State) (events : List (Event Listing)) (pid n : ℕ) (p q : Process) → AllByRecursion (λ e. is_of_others pid e ≡ true) events → process_of s.processes pid ≡ Some p
    → process_of (run s events).state.processes pid ≡ Some q → private_rows (run s events).state.code n q ≡ with_name_and_transit_of q (private_rows s.code n p)
rows_wait s events pid n p q h e f =
    let leaves = others_leave s events pid p h e in
    ap (λ code. private_rows code n q) leaves.0 ∙ (ap (private_rows s.code n) (was_given s events pid p q h e f) ∙ rows_unread s.code n p q.name q.transit)

pub commits : (s : State) (events : List (Event Listing)) (pid n : ℕ) (p q : Process) → AllByRecursion (λ e. is_of_others pid e ≡ true) events → process_of s.processes pid ≡ Some p
    → process_of (run s events).state.processes pid ≡ Some q → is_running p.status ≡ true
    → next (run s events).state (event.Steps pid (private_rows s.code n p).count)
    ≡ replied (after_private (run s events).state pid (with_name_and_transit_of q (private_rows s.code n p))) (Ran (private_rows s.code n p).count (then_of (private_rows s.code n p).process.status))
commits s events pid n p q h e f r =
    let t : State = (run s events).state in
    let runs : is_running q.status ≡ true = ap (λ x. is_running x.status) (was_given s events pid p q h e f) ∙ (ap is_running (having_status q.name q.transit p) ∙ r) in
    let rows : Private = private_rows s.code n p in
    subst (λ (rows : Private). next (run s events).state (event.Steps pid rows.count) ≡ replied (after_private (run s events).state pid rows) (Ran rows.count (then_of rows.process.status)))
    (rows_wait s events pid n p q h e f) (rows_event t pid n q f runs)
    ∙ ap (λ status. replied (after_private t pid (with_name_and_transit_of q rows)) (Ran rows.count (then_of status))) (having_status q.name q.transit rows.process)
