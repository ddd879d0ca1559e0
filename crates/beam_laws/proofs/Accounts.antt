-- Over events, the signals sent to a process are those that arrived, and then those in transit to it.
use Rattle.std.proofs.Common.{◌≡◌, ◌≢◌, ℕ, ◌+◌, ◌-◌, ◌==◌, eq-eqb, true≢false, Bool, true, false, cond, nat_lt, List, [], ◌∷◌, ◌++◌, append-nil, length, map, not, slice_get, refl, sym, ap, subst, ◌∙◌, arith, Option, Some, None, option_map, nat_le, ◌&&◌, is_some, is_ok, Ok, Err, flat_map}
use Rattle.std.proofs.lemmas.Bool.Decides.{nat_tests}
use Rattle.beam_machine.specs.declared.event.Event.{Event}
use Rattle.beam_machine.specs.declared.event.Refused.TheVariants.{BackwardClock, NotReady, TooMany}
use Rattle.beam_machine.specs.declared.event.Reply.{Reply}
use Rattle.beam_machine.specs.declared.event.Reply.TheVariants.{Done, Changed, Started}
use Rattle.beam_machine.specs.declared.process.Deadline.{Deadline}
use Rattle.beam_machine.specs.declared.process.Signal.{Signal}
use Rattle.beam_machine.specs.declared.process.Signal.TheVariants.{Message}
use Rattle.beam_machine.specs.declared.process.Status.TheVariants.{Running}
use Rattle.beam_machine.specs.Prelude.{Process, is_ended, is_waiting, started, ended, killed, goes_on, State, empty, process_of, with_process, alive, live_process, receiver_of, posted_to, posted, with_signals, downs, with_made, most_processes, current_of, old_of, lingers_in_old, lingers_in_olds, pids_of, ends_or_hears, killing, Answer, Next, refused, replied, put_process, made_process, next_steps, delivered, is_nothing, next_deliver, timed_out, next_timeout, sent_to, next_send, next, run, Sent}
use Rattle.beam_term.specs.Prelude.{TermValue, nil_term}
use Rattle.beam_machine.specs.declared.event.Event.TheVariants as event
use Rattle.beam_model.specs.Prelude.{Listing}
use Rattle.beam_machine.specs.Next.{steps}
use Rattle.beam_laws.specs.Prelude.{signal_to, signal_if, each_sent, end_sends, steps_send, deliver_sends, event_sends, sent, signals_to, on_its_way, event_brings, brought, messages_for}
use Rattle.beam_laws.proofs.Ending.{alive_is}
use Rattle.beam_laws.proofs.Numbered.{positive, put_here, put_elsewhere, alive_of}
use Rattle.beam_laws.proofs.Hearing.{hearing_here, process_map}
use Rattle.beam_laws.proofs.Posting.{said, each_sent_to, posted_grows, started_grows}
use Rattle.beam_laws.proofs.Purging.{load_ends, strict_ends_none, soft_keeps}
use Rattle.beam_laws.proofs.Refusing.{refusal}
use Rattle.beam_laws.proofs.Upgraded.{upgrade_parts}
use Rattle.beam_laws.proofs.Sending.{steps_state, made_grows, steps_grow}
use Rattle.beam_laws.proofs.Arriving.{Lives, Account, Accounts, account_still, accounts_still, grown_account, grows_account, accounts_more, put_account, no_end, no_end_at, own_steps}
use Rattle.beam_laws.proofs.Delivering.{delivers}

module _ (pid : ℕ) where
  either : (came : List Signal) (sents : List Sent) (ps : List Process) (b : Bool) (x y : Next) → Accounts pid came sents ps x.state.processes → Accounts pid came sents ps y.state.processes
      → Accounts pid came sents ps (cond b x y).state.processes
  either came sents ps true x y h k = h
  either came sents ps false x y h k = k

  -- a process that is put into the place of another
  elsewhere : (ps : List Process) (at : ℕ) (x q : Process) → process_of ps at ≡ Some x → pid ≢ at → Accounts pid [] [] ps (with_process ps at q)
  elsewhere ps at x q e ne = subst (Account [] [] (process_of ps pid)) (sym (put_elsewhere ps at pid q ne (positive ps at x e))) (account_still (process_of ps pid))

  put_accounts : (ps : List Process) (at : ℕ) (x q : Process) → process_of ps at ≡ Some x → Account [] [] (Some x) (Some q) → Accounts pid [] [] ps (with_process ps at q)
  put_accounts ps at x q e a = go (at == pid) refl
    where
      go : (b : Bool) → (at == pid) ≡ b → Accounts pid [] [] ps (with_process ps at q)
      go true h =
          let here : at ≡ pid = grind (arith, nat_tests) in
          subst (λ pid. Accounts pid [] [] ps (with_process ps at q)) here (put_account at [] ps x q e a)
      go false h = elsewhere ps at x q e (λ i. true≢false (sym (eq-eqb at pid (sym i)) ∙ h))

  -- ---- rows

  steps_accounts : (s : State) (at n : ℕ) → Accounts pid [] (steps_send s at n) s.processes (next_steps s at n (live_process s.processes at)).state.processes
  steps_accounts s at n = subst (λ t. Accounts pid [] (steps_send s at n) s.processes t.processes) (sym (steps_state s at n)) (go (at == pid) refl)
    where
      go : (b : Bool) → (at == pid) ≡ b → Accounts pid [] (steps_send s at n) s.processes (steps s at n).state.processes
      go true h =
          let here : at ≡ pid = grind (arith, nat_tests) in
          subst (λ pid. Accounts pid [] (steps_send s at n) s.processes (steps s at n).state.processes) here (own_steps at n s)
      go false h = grows_account pid (steps_send s at n) s.processes (steps s at n).state.processes (steps_grow n s at pid (λ i. true≢false (sym (eq-eqb at pid (sym i)) ∙ h)))

  -- ---- what arrives

  no_transit : (p : Process) → is_nothing p.transit ≡ true → p.transit ≡ []
  no_transit p = go p.transit
    where
      go : (ts : List Signal) → is_nothing ts ≡ true → ts ≡ []
      go [] e = refl
      go (t ∷ ts) e = absurd (true≢false (sym e))

  -- a delivery to this process
  arrives_here : (s : State) (p : Process) (b : Bool) → live_process s.processes pid ≡ Some p → is_nothing p.transit ≡ b
      → Account p.transit (signals_to pid (deliver_sends s.processes pid (Some p))) (process_of s.processes pid)
      (process_of (cond {A = Next} b (refused s NotReady) (replied (made_process s pid (delivered (record p { transit = [] }) p.transit)) Done)).state.processes pid)
  arrives_here s p true e n =
      let a = alive_is (process_of s.processes pid) p e in
      let none : p.transit ≡ [] = no_transit p n in
      let none_ends : signals_to pid (deliver_sends s.processes pid (Some p)) ≡ [] =
      no_end pid s.processes (delivered (record p { transit = [] }) p.transit) (ap (λ ts. is_ended (delivered (record p { transit = [] }) ts).status) none ∙ a.1) in
      subst (λ o. Account p.transit (signals_to pid (deliver_sends s.processes pid (Some p))) o o) (sym a.0)
      (λ lives. (lives, ap (λ ts. p.transit ++ ts) none_ends ∙ (append-nil p.transit ∙ (none ∙ sym (ap (λ ts. ts ++ ts) none)))))
  arrives_here s p false e n =
      let a = alive_is (process_of s.processes pid) p e in
      let q : Process = delivered (record p { transit = [] }) p.transit in
      let sents : List Signal = signals_to pid (end_sends s.processes pid q) in
      subst (λ o. Account p.transit sents o (process_of (with_made s.processes pid q) pid)) (sym a.0)
      (subst (Account p.transit sents (Some p)) (sym (hearing_here pid q.status (with_process s.processes pid q) q (put_here s.processes pid p q a.0) refl))
      (λ lives. (
        a.1,
        ap (λ ts. p.transit ++ ts) (no_end pid s.processes q lives) ∙ ap (λ ts. p.transit ++ ts) (sym (delivers p.transit (record p { transit = [] }) lives).1),
      )))

  deliver_here : (s : State) (o : Option Process) → live_process s.processes pid ≡ o
      → Account (on_its_way o) (signals_to pid (deliver_sends s.processes pid o)) (process_of s.processes pid) (process_of (next_deliver s pid o).state.processes pid)
  deliver_here s None e = account_still (process_of s.processes pid)
  deliver_here s (Some p) e = arrives_here s p (is_nothing p.transit) e refl

  -- a delivery to another process
  arrives_elsewhere : (s : State) (at : ℕ) (p : Process) (b : Bool) → pid ≢ at → live_process s.processes at ≡ Some p → is_nothing p.transit ≡ b
      → Accounts pid [] (deliver_sends s.processes at (Some p)) s.processes
      (cond {A = Next} b (refused s NotReady) (replied (made_process s at (delivered (record p { transit = [] }) p.transit)) Done)).state.processes
  arrives_elsewhere s at p true ne e n =
      let a = alive_is (process_of s.processes at) p e in
      let none : p.transit ≡ [] = no_transit p n in
      let q : Process = delivered (record p { transit = [] }) p.transit in
      let lives : is_ended q.status ≡ false = ap (λ ts. is_ended (delivered (record p { transit = [] }) ts).status) none ∙ a.1 in
      subst (λ xs. Account [] xs (process_of s.processes pid) (process_of s.processes pid)) (sym (no_end_at pid at s.processes q lives)) (account_still (process_of s.processes pid))
  arrives_elsewhere s at p false ne e n =
      let q : Process = delivered (record p { transit = [] }) p.transit in
      grows_account pid (end_sends s.processes at q) s.processes (with_made s.processes at q)
      (made_grows at pid ne (positive s.processes at p (alive_is (process_of s.processes at) p e).0) s.processes q)

  deliver_elsewhere : (s : State) (at : ℕ) (o : Option Process) → pid ≢ at → live_process s.processes at ≡ o
      → Accounts pid [] (deliver_sends s.processes at o) s.processes (next_deliver s at o).state.processes
  deliver_elsewhere s at None ne e = accounts_still pid s.processes
  deliver_elsewhere s at (Some p) ne e = arrives_elsewhere s at p (is_nothing p.transit) ne e refl

  deliver_accounts : (s : State) (at : ℕ) (b : Bool) → (at == pid) ≡ b
      → Accounts pid (cond b (on_its_way (live_process s.processes pid)) []) (deliver_sends s.processes at (live_process s.processes at)) s.processes (next_deliver s at (live_process s.processes at)).state.processes
  deliver_accounts s at true h =
      let here : pid ≡ at = grind (arith, nat_tests) in
      subst (λ at. Accounts pid (on_its_way (live_process s.processes pid)) (deliver_sends s.processes at (live_process s.processes at)) s.processes (next_deliver s at (live_process s.processes at)).state.processes) here (deliver_here s (live_process s.processes pid) refl)
  deliver_accounts s at false h = deliver_elsewhere s at (live_process s.processes at) (λ i. true≢false (sym (eq-eqb at pid (sym i)) ∙ h)) refl

  -- ---- time, sending and changes of code

  timed_out_accounts : (s : State) (at : ℕ) (p : Process) (o : Option Deadline) → live_process s.processes at ≡ Some p → Accounts pid [] [] s.processes (timed_out s at p o).state.processes
  timed_out_accounts s at p None e = accounts_still pid s.processes
  timed_out_accounts s at p (Some d) e =
      let a = alive_is (process_of s.processes at) p e in
      let q : Process = record (goes_on p d.after) { deadline = None; status = Running } in
      either [] [] s.processes (is_waiting p.status && nat_le d.at s.clock) (replied (put_process s at q) Done) (refused s NotReady)
      (put_accounts s.processes at p q a.0 (λ lives. (a.1, append-nil p.transit))) (accounts_still pid s.processes)

  timeout_accounts : (s : State) (at : ℕ) (o : Option Process) → live_process s.processes at ≡ o → Accounts pid [] [] s.processes (next_timeout s at o).state.processes
  timeout_accounts s at None e = accounts_still pid s.processes
  timeout_accounts s at (Some p) e = timed_out_accounts s at p p.deadline e

  sent_processes : (s : State) (o : Option Process) (to : ℕ) (message : TermValue) → live_process s.processes to ≡ o → posted s.processes to (Message message) ≡ (sent_to s o to message).state.processes
  sent_processes s None to message e = ap (posted_to s.processes to (Message message)) e
  sent_processes s (Some p) to message e = refl

  send_accounts : (s : State) (o : Option ℕ) (message : TermValue) → Accounts pid [] (signal_if s.processes o (Message message)) s.processes (next_send s o message).state.processes
  send_accounts s None message = accounts_still pid s.processes
  send_accounts s (Some to) message =
      subst (Accounts pid [] (signal_to s.processes to (Message message)) s.processes) (sent_processes s (live_process s.processes to) to message refl)
      (grows_account pid (signal_to s.processes to (Message message)) s.processes (posted s.processes to (Message message)) (posted_grows pid s.processes to (Message message)))

  spawn_accounts : (s : State) (m f : List ℕ) (arguments : List TermValue) → Accounts pid [] [] s.processes (s.processes ++ started (length s.processes + 1) m f arguments ∷ [])
  spawn_accounts s m f arguments =
      let new : Process = started (length s.processes + 1) m f arguments in
      grows_account pid [] s.processes (s.processes ++ new ∷ []) (started_grows pid s.processes (length s.processes + 1) m f arguments)

  -- ---- changes of code

  -- the processes that pass a test end, and the others get the DOWNs
  killing_account : (test : Process → Bool) (pids : List ℕ) (o : Option Process)
      → Account [] (said (λ q. flat_map (λ pid. downs pid killed q.monitors) pids) o) o (option_map (ends_or_hears test pids) o)
  killing_account test pids None = account_still None
  killing_account test pids (Some p) = go (test p)
    where
      signals : List Signal
      signals = flat_map (λ pid. downs pid killed p.monitors) pids

      go : (b : Bool) → Account [] signals (Some p) (Some (cond b (ended p killed nil_term) (with_signals signals p)))
      go true = λ lives. absurd (true≢false lives)
      go false = grown_account signals (Some p) (Some (with_signals signals p)) (p.name, refl)

  killing_accounts : (test : Process → Bool) (ps : List Process)
      → Accounts pid [] (each_sent 1 (λ q. flat_map (λ pid. downs pid killed q.monitors) (pids_of test ps)) ps) ps (killing test ps)
  killing_accounts test ps =
      let f : Process → List Signal = λ q. flat_map (λ pid. downs pid killed q.monitors) (pids_of test ps) in
      subst (λ xs. Account [] xs (process_of ps pid) (process_of (killing test ps) pid)) (sym (each_sent_to f ps pid))
      (subst (Account [] (said f (process_of ps pid)) (process_of ps pid)) (sym (process_map (ends_or_hears test (pids_of test ps)) ps pid)) (killing_account test (pids_of test ps) (process_of ps pid)))

  same_accounts : (ps qs : List Process) → qs ≡ ps → Accounts pid [] [] ps qs
  same_accounts ps qs e = subst (Accounts pid [] [] ps) (sym e) (accounts_still pid ps)

  -- a change of code that isn't refused ends the processes that pass the test, and a refused one changes nothing
  change_accounts : (s : State) (e : Event Listing) (test : Process → Bool) → ((r : Reply) → (next s e).answer ≡ Ok r → (next s e).state.processes ≡ killing test s.processes)
      → Accounts pid [] (cond (is_ok (next s e).answer) (each_sent 1 (λ q. flat_map (λ pid. downs pid killed q.monitors) (pids_of test s.processes)) s.processes) []) s.processes (next s e).state.processes
  change_accounts s e test ends = go (next s e).answer refl
    where
      go : (a : Answer) → (next s e).answer ≡ a
          → Accounts pid [] (cond (is_ok a) (each_sent 1 (λ q. flat_map (λ pid. downs pid killed q.monitors) (pids_of test s.processes)) s.processes) []) s.processes (next s e).state.processes
      go (Ok r) is =
          subst (Accounts pid [] (each_sent 1 (λ q. flat_map (λ pid. downs pid killed q.monitors) (pids_of test s.processes)) s.processes) s.processes) (sym (ends r is)) (killing_accounts test s.processes)
      go (Err r) is = same_accounts s.processes (next s e).state.processes (ap (λ t. t.processes) (refusal s e r is))

  -- ---- events

  next_accounts : (s : State) (e : Event Listing) → Accounts pid (event_brings pid s e) (event_sends s e) s.processes (next s e).state.processes
  next_accounts s (event.Versions name) = accounts_still pid s.processes
  next_accounts s (event.Spawn m f arguments) =
      let new : Process = started (length s.processes + 1) m f arguments in
      either [] [] s.processes (nat_lt (length s.processes) most_processes) (replied (record s { processes = s.processes ++ new ∷ [] }) (Started (length s.processes + 1))) (refused s TooMany)
      (spawn_accounts s m f arguments) (accounts_still pid s.processes)
  next_accounts s (event.Send to message) = send_accounts s (receiver_of s.processes to) message
  next_accounts s (event.Steps at n) = steps_accounts s at n
  next_accounts s (event.Deliver at) = deliver_accounts s at (at == pid) refl
  next_accounts s (event.Clock now) =
      let still = accounts_still pid s.processes in
      either [] [] s.processes (nat_lt now s.clock) (refused s BackwardClock) (replied (record s { clock = now }) Done) still still
  next_accounts s (event.Timeout at) = timeout_accounts s at (live_process s.processes at) refl
  next_accounts s (event.Load l) = change_accounts s (event.Load l) (lingers_in_old s.code l.name) (load_ends s l)
  next_accounts s (event.LoadStrict l) = same_accounts s.processes (next s (event.LoadStrict l)).state.processes (strict_ends_none s l)
  next_accounts s (event.AtomicLoad mode ls) =
      change_accounts s (event.AtomicLoad mode ls) (lingers_in_olds s.code (map (λ l. l.name) ls)) (λ r e. ap (λ t. t.processes) (upgrade_parts s mode ls r e))
  next_accounts s (event.Purge name) = change_accounts s (event.Purge name) (lingers_in_old s.code name) (λ r e. refl)
  next_accounts s (event.SoftPurge name) = same_accounts s.processes (next s (event.SoftPurge name)).state.processes (soft_keeps s name)
  next_accounts s (event.Delete name) =
      let still = accounts_still pid s.processes in
      either [] [] s.processes (is_some (current_of s.code name) && not (is_some (old_of s.code name))) _ (replied s (Changed false)) still still

  run_accounts : (s : State) (events : List (Event Listing)) → Accounts pid (brought pid s events) (sent s events) s.processes (run s events).state.processes
  run_accounts s [] = accounts_still pid s.processes
  run_accounts s (e ∷ events) =
      accounts_more pid (event_brings pid s e) (brought pid (next s e).state events) (event_sends s e) (sent (next s e).state events)
      s.processes (next s e).state.processes (run (next s e).state events).state.processes (next_accounts s e) (run_accounts (next s e).state events)

lives_on : (o : Option Process) → Lives o → on_its_way (alive o) ≡ on_its_way o
lives_on None l = refl
lives_on (Some p) l = ap on_its_way (alive_of p l)

pub in_order : (s : State) (events : List (Event Listing)) (pid : ℕ) (q : Process) → live_process (run s events).state.processes pid ≡ Some q
    → on_its_way (live_process s.processes pid) ++ signals_to pid (sent s events) ≡ brought pid s events ++ q.transit
in_order s events pid q e =
    let a = alive_is (process_of (run s events).state.processes pid) q e in
    let account : Account (brought pid s events) (signals_to pid (sent s events)) (process_of s.processes pid) (Some q) =
    subst (Account (brought pid s events) (signals_to pid (sent s events)) (process_of s.processes pid)) a.0 (run_accounts pid s events) in
    ap (λ ts. ts ++ signals_to pid (sent s events)) (lives_on (process_of s.processes pid) (account a.1).0) ∙ (account a.1).1

nobody : (pid : ℕ) → live_process empty.processes pid ≡ None
nobody pid = elim (nat_lt 0 pid) as (λ b. alive (cond b (slice_get [] (pid - 1)) None) ≡ None) [ true ↦ refl | false ↦ refl ]

pub in_order_from_empty : (events : List (Event Listing)) (pid : ℕ) (q : Process) → live_process (run empty events).state.processes pid ≡ Some q
    → signals_to pid (sent empty events) ≡ brought pid empty events ++ q.transit
in_order_from_empty events pid q e = ap (λ o. on_its_way o ++ signals_to pid (sent empty events)) (sym (nobody pid)) ∙ in_order empty events pid q e

-- ---- the mailbox

pub behind_mailbox : (s : State) (pid : ℕ) (p q : Process) → live_process s.processes pid ≡ Some p → live_process (next s (event.Deliver pid)).state.processes pid ≡ Some q
    → q.mailbox.messages ≡ p.mailbox.messages ++ messages_for p.monitors p.transit
behind_mailbox s pid p q e = go (live_process s.processes pid) e
  where
    by : (b : Bool) → is_nothing p.transit ≡ b
        → live_process (cond {A = Next} b (refused s NotReady) (replied (made_process s pid (delivered (record p { transit = [] }) p.transit)) Done)).state.processes pid ≡ Some q
        → q.mailbox.messages ≡ p.mailbox.messages ++ messages_for p.monitors p.transit
    by true n f =
        let same : Some q ≡ Some p = sym f ∙ e in
        let is : q ≡ p = cc in
        ap (λ q. q.mailbox.messages) is ∙ (sym (append-nil p.mailbox.messages) ∙ ap (λ ts. p.mailbox.messages ++ messages_for p.monitors ts) (sym (no_transit pid p n)))
    by false n f =
        let r : Process = delivered (record p { transit = [] }) p.transit in
        let a = alive_is (process_of (with_made s.processes pid r) pid) q f in
        let here : process_of (with_made s.processes pid r) pid ≡ Some r =
        hearing_here pid r.status (with_process s.processes pid r) r (put_here s.processes pid p r (alive_is (process_of s.processes pid) p e).0) refl in
        let put : Some (delivered (record p { transit = [] }) p.transit) ≡ Some q = sym here ∙ a.0 in
        let is : delivered (record p { transit = [] }) p.transit ≡ q = cc in
        ap (λ q. q.mailbox.messages) (sym is) ∙ (delivers p.transit (record p { transit = [] }) (ap (λ q. is_ended q.status) is ∙ a.1)).0

    go : (o : Option Process) → o ≡ Some p → live_process (next_deliver s pid o).state.processes pid ≡ Some q → q.mailbox.messages ≡ p.mailbox.messages ++ messages_for p.monitors p.transit
    go None h = λ f. cc
    go (Some x) h = subst (λ o. live_process (next_deliver s pid o).state.processes pid ≡ Some q → q.mailbox.messages ≡ p.mailbox.messages ++ messages_for p.monitors p.transit) (sym h) (by (is_nothing p.transit) refl)
