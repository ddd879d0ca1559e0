-- A process begins only by rows of its own.
use Rattle.std.proofs.Common.{◌≡◌, ℕ, zero, suc, ◌+◌, ◌-◌, ◌<◌, ◌≤◌, ◌&&◌, ◌||◌, ◌==◌, Bool, true, false, cond, not, nat_lt, List, [], ◌∷◌, ◌++◌, length, map, slice_get, refl, sym, ap, subst, ◌∙◌, true≢false, arith, nat_le, codes, Option, Some, None, Result, slice_set, flat_map, unwrap_or}
use Rattle.std.proofs.lemmas.Option.{slice_get-map, same_Some}
use Rattle.beam_machine.specs.declared.callee.After.{After}
use Rattle.beam_machine.specs.declared.event.Event.{Event}
use Rattle.beam_machine.specs.declared.event.Refused.TheVariants.{BackwardClock, NotReady, TooMany}
use Rattle.beam_machine.specs.declared.event.Reply.TheVariants.{Done, Started}
use Rattle.beam_machine.specs.declared.process.Deadline.{Deadline}
use Rattle.beam_machine.specs.declared.process.Monitor.{Monitor as MonitorValue}
use Rattle.beam_machine.specs.declared.process.Signal.{Signal}
use Rattle.beam_machine.specs.declared.process.Signal.TheVariants.{Message, Exit as ExitSignal, Down}
use Rattle.beam_machine.specs.declared.process.Status.{Status}
use Rattle.beam_machine.specs.declared.process.Status.TheVariants.{Running}
use Rattle.beam_machine.specs.Prelude.{lingers_in_old, lingers_in_olds, pids_of, ends_or_hears, killing, Halting, is_at_spot, no_rows, and_one, halts_or, halting, Next, refused, replied, Rows, continues, done_by, row, running, row_and, received, signalled, down_term, notified, arrived, delivered, is_nothing, next_deliver, timed_out, next_timeout, sent_to, next_send, next, Answered, answer, fault, most_processes, spawns_with, names, registers, unnames, unregisters, is_alive, posted_if_own as signals, sends_named, most_references, makes_reference, or_noproc, put_monitor, monitored, monitors_by, answer_of, Process, is_ended, is_waiting, started, own_pid, ended, killed, monitor_of, without_monitor, Outcome, makes, sends, asks, sleeps, outcome, own_number, arguments_of, goes_on, State, process_of, with_process, live_process, registered, receiver_of, posted_to, posted, with_signals, downs, hearing_by, with_made, Touch, code, Touches, stays, in_turn, loads, deletes, ends, purges}
use Rattle.beam_term.specs.Prelude.{TermValue, atom_term, pid_term, nil_term}
use Rattle.beam_machine.specs.declared.event.Event.TheVariants as event
use Rattle.beam_model.specs.declared.exception.Fault.{Fault}
use Rattle.beam_model.specs.declared.exception.Fault.TheVariants.{Badarg, SystemLimit}
use Rattle.beam_model.specs.declared.native.NodeNative.{NodeNative}
use Rattle.beam_model.specs.declared.native.NodeNative.TheVariants.{Spawn, Register, Unregister, Whereis, IsProcessAlive, Exit, Send, MakeRef, Monitor}
use Rattle.beam_model.specs.Prelude.{Listing, around, elements_in, Place, same_text}
use Rattle.beam_machine.specs.Next.{steps}
use Rattle.beam_laws.specs.Prelude.{downs_of_end}
use Rattle.beam_laws.proofs.Ending.{alive_is, at_index}
use Rattle.beam_laws.proofs.Hearing.{as_before, hears, hearing_is}
use Rattle.beam_laws.proofs.Lookups.{left_false, right_false}
use Rattle.beam_debug.specs.Prelude.{steps_in, is_at_row, has_begun, BeginBelow}
use Rattle.beam_laws.proofs.Touching.{next_touches}
use Rattle.beam_laws.proofs.Orderly.{got, mapped}

-- ---- lists that are changed

pushed : {C : Type 0} (ps : List Process) (j : ℕ) (x r : Process) → slice_get (ps ++ x ∷ []) j ≡ Some r → (x ≡ r → C) → (slice_get ps j ≡ Some r → C) → C
pushed [] zero x r e f g = f (same_Some x r e)
pushed [] (suc j) x r e f g = g e
pushed (p ∷ ps) zero x r e f g = g e
pushed (p ∷ ps) (suc j) x r e f g = pushed ps j x r e f g

-- ---- processes that haven't begun

left_true : (a b : Bool) → (a && b) ≡ true → a ≡ true
left_true true b e = refl
left_true false b e = e

-- a process that arrives at its first entry, or has ended, hasn't begun
received_fresh : (p : Process) (t : TermValue) → has_begun p ≡ false → has_begun (received p t) ≡ false
received_fresh p t h = ap (λ b. b || false) (left_false (is_at_row p.goes) (is_waiting p.status) h)

signalled_fresh : (p : Process) (sender : ℕ) (reason : TermValue) → has_begun p ≡ false → has_begun (signalled p sender reason) ≡ false
signalled_fresh p sender (atom_term text) h =
    let b : Bool = same_text text (codes "normal") && not (sender == p.pid) in
    elim (same_text text (codes "kill")) as (λ c. has_begun (cond c (ended p killed nil_term) (cond b p (ended p (atom_term text) nil_term))) ≡ false) [
      | true ↦ refl
      | false ↦ elim b as (λ c. has_begun (cond c p (ended p (atom_term text) nil_term)) ≡ false) [ true ↦ h | false ↦ refl ]
    ]
signalled_fresh p sender reason h = refl

notified_fresh : (p : Process) (reason : TermValue) (o : Option MonitorValue) → has_begun p ≡ false → has_begun (notified p reason o) ≡ false
notified_fresh p reason (Some m) h = received_fresh (record p { monitors = without_monitor m.reference p.monitors }) (around (down_term m) reason) h
notified_fresh p reason None h = h

arrived_fresh : (p : Process) (signal : Signal) → has_begun p ≡ false → has_begun (arrived p signal) ≡ false
arrived_fresh p (Message t) h = received_fresh p t h
arrived_fresh p (ExitSignal sender reason) h = signalled_fresh p sender reason h
arrived_fresh p (Down reference reason) h = notified_fresh p reason (monitor_of reference p.monitors) h

delivered_fresh : (p : Process) (signals : List Signal) → has_begun p ≡ false → has_begun (delivered p signals) ≡ false
delivered_fresh p [] h = h
delivered_fresh p (signal ∷ rest) h =
    elim (is_ended p.status) as (λ c. has_begun (cond c p (delivered (arrived p signal) rest)) ≡ false) [
      | true ↦ h
      | false ↦ delivered_fresh (arrived p signal) rest (arrived_fresh p signal h)
    ]

-- a process that gets more signals in transit hasn't begun by that
hearing_fresh : (signals : List Signal) (p : Process) → has_begun p ≡ false → has_begun (with_signals signals p) ≡ false
hearing_fresh signals p h = as_before has_begun signals p refl ∙ h

killing_fresh : (test : Process → Bool) (pids : List ℕ) (p : Process) → has_begun p ≡ false → has_begun (ends_or_hears test pids p) ≡ false
killing_fresh test pids p h =
    let signals : List Signal = flat_map (λ pid. downs pid killed p.monitors) pids in
    elim (test p) as (λ b. has_begun (cond b (ended p killed nil_term) (with_signals signals p)) ≡ false) [ true ↦ refl | false ↦ hearing_fresh signals p h ]

module _ (capacity : ℕ) where
  abbrev Below : List Process → Type 0
  Below ps = BeginBelow capacity ps

  set_below : (ps : List Process) (i : ℕ) (q : Process) → Below ps → (capacity ≤ i + 1 → has_begun q ≡ false) → Below (slice_set ps i q)
  set_below ps i q h new j r e more =
      got ps i j q r e
      (λ same is.
      let within : capacity ≤ i + 1 = omega (arith, same, more) in
      subst (λ x. has_begun x ≡ false) is (new within))
      (λ old. h j r old more)

  push_below : (ps : List Process) (q : Process) → Below ps → has_begun q ≡ false → Below (ps ++ q ∷ [])
  push_below ps q h new j r e more = pushed ps j q r e (λ is. subst (λ x. has_begun x ≡ false) is new) (λ old. h j r old more)

  map_below : (f : Process → Process) (ps : List Process) → ((p : Process) → has_begun p ≡ false → has_begun (f p) ≡ false) → Below ps → Below (map f ps)
  map_below f ps keeps h i q e more =
      mapped f (slice_get ps i) q (sym (slice_get-map f ps i) ∙ e) (λ p old is. subst (λ x. has_begun x ≡ false) is (keeps p (h i p old more)))

  live_below : (ps : List Process) (pid : ℕ) (p : Process) → live_process ps pid ≡ Some p → Below ps → capacity ≤ (pid - 1) + 1 → has_begun p ≡ false
  live_below ps pid p e h more =
      let a = alive_is (process_of ps pid) p e in
      h (pid - 1) p (at_index ps pid p a.0) more

  posted_below : (ps : List Process) (pid : ℕ) (signal : Signal) (o : Option Process) → live_process ps pid ≡ o → Below ps → Below (posted_to ps pid signal o)
  posted_below ps pid signal None e h = h
  posted_below ps pid signal (Some p) e h = set_below ps (pid - 1) (record p { transit = p.transit ++ signal ∷ [] }) h (λ more. live_below ps pid p e h more)

  -- ---- ends

  hearing_below : (pid : ℕ) (status : Status) (ps : List Process) → Below ps → Below (hearing_by pid status ps)
  hearing_below pid status ps h = subst Below (sym (hearing_is pid status ps)) (map_below (hears pid status) ps (λ q fresh. hearing_fresh (downs_of_end pid status q) q fresh) h)

  made_below : (ps : List Process) (pid : ℕ) (q : Process) → Below (with_process ps pid q) → Below (with_made ps pid q)
  made_below ps pid q h = hearing_below pid q.status (with_process ps pid q) h

  killing_below : (test : Process → Bool) (ps : List Process) → Below ps → Below (killing test ps)
  killing_below test ps h = map_below (ends_or_hears test (pids_of test ps)) ps (λ p fresh. killing_fresh test (pids_of test ps) p fresh) h

  -- ---- natives of the node

  either : (b : Bool) (x y : Answered) → Below x.processes → Below y.processes → Below (cond b x y).processes
  either true x y h k = h
  either false x y h k = k

  spawns_below : (ps : List Process) (name function : List ℕ) (o : Option (List TermValue)) → Below ps → Below (spawns_with ps name function o).processes
  spawns_below ps name function None h = h
  spawns_below ps name function (Some arguments) h =
      let new : Process = started (length ps + 1) name function arguments in
      let b : Bool = nat_lt (length ps) most_processes in
      let spawned : Answered = answer (ps ++ new ∷ []) (own_pid (length ps + 1)) in
      either (nat_lt 255 (length arguments)) (fault ps Badarg) (cond b spawned (fault ps SystemLimit)) h (either b spawned (fault ps SystemLimit) (push_below ps new h refl) h)

  names_below : (ps : List Process) (name : List ℕ) (pid : ℕ) (o : Option Process) → live_process ps pid ≡ o → Below ps → Below (names ps name pid o).processes
  names_below ps name pid None e h = h
  names_below ps name pid (Some p) e h =
      either _ _ (fault ps Badarg) (set_below ps (pid - 1) (record p { name = Some name }) h (λ more. live_below ps pid p e h more)) h

  registers_below : (ps : List Process) (name : List ℕ) (o : Option ℕ) → Below ps → Below (registers ps name o).processes
  registers_below ps name None h = h
  registers_below ps name (Some pid) h = names_below ps name pid (live_process ps pid) refl h

  unnames_below : (ps : List Process) (pid : ℕ) (o : Option Process) → live_process ps pid ≡ o → Below ps → Below (unnames ps pid o).processes
  unnames_below ps pid None e h = h
  unnames_below ps pid (Some p) e h = set_below ps (pid - 1) (record p { name = None }) h (λ more. live_below ps pid p e h more)

  unregisters_below : (ps : List Process) (o : Option ℕ) → Below ps → Below (unregisters ps o).processes
  unregisters_below ps None h = h
  unregisters_below ps (Some pid) h = unnames_below ps pid (live_process ps pid) refl h

  signals_below : (ps : List Process) (o : Option ℕ) (signal : Signal) → Below ps → Below (signals ps o signal)
  signals_below ps None signal h = h
  signals_below ps (Some pid) signal h = posted_below ps pid signal (live_process ps pid) refl h

  sends_below : (ps : List Process) (o : Option ℕ) (message : TermValue) → Below ps → Below (sends_named ps o message).processes
  sends_below ps None message h = h
  sends_below ps (Some pid) message h = posted_below ps pid (Message message) (live_process ps pid) refl h

  noproc_below : (ps : List Process) (caller n : ℕ) (watched : TermValue) → Below ps → Below (or_noproc ps caller n watched)
  noproc_below ps caller n watched h =
      let signal : Signal = Down n (atom_term (codes "noproc")) in
      elim (is_alive ps (own_number watched)) as (λ b. Below (cond b ps (posted ps caller signal))) [
        | true ↦ h
        | false ↦ posted_below ps caller signal (live_process ps caller) refl h
      ]

  watching_below : (ps : List Process) (caller n : ℕ) (watched : TermValue) (o : Option Process) → live_process ps caller ≡ o → Below ps → Below (put_monitor ps caller n watched o)
  watching_below ps caller n watched None e h = h
  watching_below ps caller n watched (Some p) e h =
      set_below ps (caller - 1) (record p { monitors = p.monitors ++ record { reference = n; pid = watched } ∷ [] }) h (λ more. live_below ps caller p e h more)

  monitored_below : (ps : List Process) (caller : ℕ) (watched : TermValue) (n : ℕ) → Below ps → Below (monitored ps caller watched n)
  monitored_below ps caller watched n h =
      let qs : List Process = or_noproc ps caller n watched in
      watching_below qs caller n watched (live_process qs caller) refl (noproc_below ps caller n watched h)

  makes_below : (references : ℕ) (ps : List Process) (f : ℕ → List Process) → Below ps → Below (f (references + 1)) → Below (makes_reference references ps f).processes
  makes_below references ps f h k = either (nat_lt references most_references) _ (fault ps SystemLimit) k h

  monitors_below : (references : ℕ) (ps : List Process) (caller : ℕ) (kind : List ℕ) (watched : TermValue) → Below ps → Below (monitors_by references ps caller kind watched).processes
  monitors_below references ps caller kind watched h =
      either (same_text kind (codes "process")) (makes_reference references ps (monitored ps caller watched)) (fault ps Badarg)
      (makes_below references ps (monitored ps caller watched) h (monitored_below ps caller watched (references + 1) h)) h

  answer_below : (references : ℕ) (ps : List Process) (caller : ℕ) (native : NodeNative) (ts : List TermValue) → Below ps → Below (answer_of references ps caller native ts).processes
  answer_below references ps caller Spawn (atom_term name ∷ atom_term function ∷ arguments ∷ []) h = spawns_below ps name function (elements_in arguments) h
  answer_below references ps caller Register (atom_term name ∷ pid_term host id serial creation ∷ []) h = registers_below ps name (own_number (pid_term host id serial creation)) h
  answer_below references ps caller Unregister (atom_term name ∷ []) h = unregisters_below ps (registered ps name) h
  answer_below references ps caller Whereis (atom_term name ∷ []) h = h
  answer_below references ps caller IsProcessAlive (pid_term host id serial creation ∷ []) h = h
  answer_below references ps caller Exit (pid_term host id serial creation ∷ reason ∷ []) h = signals_below ps (own_number (pid_term host id serial creation)) (ExitSignal caller reason) h
  answer_below references ps caller Send (pid_term host id serial creation ∷ message ∷ []) h = signals_below ps (own_number (pid_term host id serial creation)) (Message message) h
  answer_below references ps caller Send (atom_term name ∷ message ∷ []) h = sends_below ps (registered ps name) message h
  answer_below references ps caller MakeRef [] h = makes_below references ps (λ n. ps) h h
  answer_below references ps caller Monitor (atom_term kind ∷ pid_term host id serial creation ∷ []) h =
      monitors_below references ps caller kind (pid_term host id serial creation) h
  answer_below references ps caller _ _ h = h

  -- ---- rows of a process below

  module _ (pid : ℕ) (own : (pid - 1) + 1 < capacity) where
    put_below : (ps : List Process) (q : Process) → Below ps → Below (with_process ps pid q)
    put_below ps q h = set_below ps (pid - 1) q h (λ more. absurd (omega (arith, own, more)))

    continues_below : (s : State) (after : After) (value : Result TermValue Fault) (o : Option Process) → Below s.processes → Below (continues s pid after value o).processes
    continues_below s after value None h = h
    continues_below s after value (Some p) h = made_below s.processes pid _ (put_below s.processes _ h)

    done_below : (s : State) (o : Outcome) → Below s.processes → Below (done_by s pid o).processes
    done_below s (makes p) h = made_below s.processes pid p (put_below s.processes p h)
    done_below s (sends p to signal) h =
        let ps = with_process s.processes pid p in
        posted_below ps to signal (live_process ps to) refl (put_below s.processes p h)
    done_below s (asks p native arity after) h =
        let ps = with_process s.processes pid p in
        let a = answer_of s.references ps pid native (arguments_of p arity) in
        continues_below (record s { processes = a.processes; references = unwrap_or a.made s.references }) after a.value (process_of a.processes pid)
        (answer_below s.references ps pid native (arguments_of p arity) (put_below s.processes p h))
    done_below s (sleeps p n place) h = put_below s.processes _ h

    row_and_below : (s : State) (rest : State → Rows) (o : Option Process) → ((t : State) → Below t.processes → Below (rest t).state.processes) → Below s.processes
        → Below (row_and rest s pid o).state.processes
    row_and_below s rest None more h = h
    row_and_below s rest (Some p) more h = more (row s pid p) (done_below s (outcome s.code p) h)

    pub steps_below : (n : ℕ) (s : State) → Below s.processes → Below (steps s pid n).state.processes
    steps_below zero s h = h
    steps_below (suc n) s h = row_and_below s (λ t. steps t pid n) (running (process_of s.processes pid)) (λ t. steps_below n t) h

    stops_below : (s : State) (rest : Halting) (b : Bool) → Below s.processes → Below rest.rows.state.processes → Below (cond {A = Halting} b (no_rows s true) (and_one rest)).rows.state.processes
    stops_below s rest true h k = h
    stops_below s rest false h k = k

    halts_below : (spots : List Place) (passes : Bool) (s : State) (rest : State → Halting) (o : Option Process)
        → ((t : State) → Below t.processes → Below (rest t).rows.state.processes) → Below s.processes → Below (halts_or rest spots passes s pid o).rows.state.processes
    halts_below spots passes s rest None more h = h
    halts_below spots passes s rest (Some p) more h =
        stops_below s (rest (row s pid p)) (not passes && is_at_spot spots p.goes) h (more (row s pid p) (done_below s (outcome s.code p) h))

    pub halting_below : (n : ℕ) (spots : List Place) (passes : Bool) (s : State) → Below s.processes → Below (halting spots passes s pid n).rows.state.processes
    halting_below zero spots passes s h = h
    halting_below (suc n) spots passes s h =
        halts_below spots passes s (λ t. halting spots false t pid n) (running (process_of s.processes pid)) (λ t. halting_below n spots false t) h

  -- ---- other events

  either_next : (b : Bool) (x y : Next) → Below x.state.processes → Below y.state.processes → Below (cond b x y).state.processes
  either_next true x y h k = h
  either_next false x y h k = k

  deliver_below : (s : State) (pid : ℕ) (o : Option Process) → live_process s.processes pid ≡ o → Below s.processes → Below (next_deliver s pid o).state.processes
  deliver_below s pid None e h = h
  deliver_below s pid (Some p) e h =
      let q : Process = delivered (record p { transit = [] }) p.transit in
      either_next (is_nothing p.transit) (refused s NotReady) _ h
      (made_below s.processes pid q
      (set_below s.processes (pid - 1) q h
      (λ more. delivered_fresh (record p { transit = [] }) p.transit (live_below s.processes pid p e h more))))

  timed_by : (s : State) (pid : ℕ) (q : Process) (b : Bool) → (b ≡ true → capacity ≤ (pid - 1) + 1 → has_begun q ≡ false) → Below s.processes
      → Below (cond {A = Next} b (replied (record s { processes = with_process s.processes pid q }) Done) (refused s NotReady)).state.processes
  timed_by s pid q true fresh h = set_below s.processes (pid - 1) q h (fresh refl)
  timed_by s pid q false fresh h = h

  -- a process that waits has begun
  timed_out_below : (s : State) (pid : ℕ) (p : Process) (o : Option Deadline) → live_process s.processes pid ≡ Some p → Below s.processes → Below (timed_out s pid p o).state.processes
  timed_out_below s pid p None e h = h
  timed_out_below s pid p (Some d) e h =
      timed_by s pid (record (goes_on p d.after) { deadline = None; status = Running }) (is_waiting p.status && nat_le d.at s.clock)
      (λ ready more.
      let fresh : is_waiting p.status ≡ false = right_false (is_at_row p.goes) (is_waiting p.status) (live_below s.processes pid p e h more) in
      absurd (true≢false (sym (left_true (is_waiting p.status) (nat_le d.at s.clock) ready) ∙ fresh))) h

  timeout_below : (s : State) (pid : ℕ) (o : Option Process) → live_process s.processes pid ≡ o → Below s.processes → Below (next_timeout s pid o).state.processes
  timeout_below s pid None e h = h
  timeout_below s pid (Some p) e h = timed_out_below s pid p p.deadline e h

  sent_below : (s : State) (o : Option Process) (to : ℕ) (message : TermValue) → Below s.processes → Below (sent_to s o to message).state.processes
  sent_below s None to message h = h
  sent_below s (Some p) to message h = posted_below s.processes to (Message message) (live_process s.processes to) refl h

  send_below : (s : State) (o : Option ℕ) (message : TermValue) → Below s.processes → Below (next_send s o message).state.processes
  send_below s None message h = h
  send_below s (Some to) message h = sent_below s (live_process s.processes to) to message h

  code_below : (t : Touch) (s u : State) → Touches t s u → t ≡ code → Below s.processes → Below u.processes
  code_below _ _ _ (stays t s) is h = h
  code_below _ _ _ (in_turn t s u v first second) is h = code_below t u v second is (code_below t s u first is h)
  code_below _ _ _ (loads s l) is h = killing_below (lingers_in_old s.code l.name) s.processes h
  code_below _ _ _ (deletes s name e) is h = h
  code_below _ _ _ (purges s name) is h = killing_below (lingers_in_old s.code name) s.processes h
  code_below _ _ _ (ends s ls) is h = killing_below (lingers_in_olds s.code (map (λ l. l.name) ls)) s.processes h
  code_below _ _ _ _ is h = cc

  pub next_below : (s : State) (e : Event Listing) → steps_in e ≡ None → Below s.processes → Below (next s e).state.processes
  next_below s (event.Steps pid n) other h = cc
  next_below s (event.Versions name) other h = h
  next_below s (event.Spawn name function arguments) other h =
      let new : Process = started (length s.processes + 1) name function arguments in
      either_next (nat_lt (length s.processes) most_processes) (replied (record s { processes = s.processes ++ new ∷ [] }) (Started (length s.processes + 1))) (refused s TooMany)
      (push_below s.processes new h refl) h
  next_below s (event.Send to message) other h = send_below s (receiver_of s.processes to) message h
  next_below s (event.Deliver at) other h = deliver_below s at (live_process s.processes at) refl h
  next_below s (event.Clock now) other h = either_next (nat_lt now s.clock) (refused s BackwardClock) (replied (record s { clock = now }) Done) h h
  next_below s (event.Timeout at) other h = timeout_below s at (live_process s.processes at) refl h
  next_below s e other h = code_below code s (next s e).state (next_touches s e) refl h
