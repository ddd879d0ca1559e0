-- Each event keeps the processes of a node with framed code shaped, and each of their rows finds what it names.
use Rattle.std.proofs.Common.{◌≡◌, ℕ, suc, zero, ◌+◌, ◌-◌, ◌==◌, ◌&&◌, ◌^◌, cond, Bool, true, false, not, nat_lt, List, [], ◌∷◌, ◌++◌, length, refl, sym, ap, subst, ◌∙◌, true≢false, Option, Some, None, Result, is_some, unwrap_or, nat_le, map, codes}
use Rattle.std.specs.List.{AllByRecursion, list_any}
use Rattle.std.proofs.lemmas.Option.{same_Some}
use Rattle.beam_lemmas.proofs.Options.{not_some}
use Rattle.beam_machine.specs.declared.callee.After.{After}
use Rattle.beam_machine.specs.declared.callee.After.TheVariants.{NextRow, Return}
use Rattle.beam_machine.specs.declared.event.Event.{Event}
use Rattle.beam_machine.specs.declared.event.UpgradeMode.{UpgradeMode}
use Rattle.beam_machine.specs.declared.event.Refused.TheVariants.{NotReady, Sticky, NotPurged, Duplicated, TooMany, BackwardClock}
use Rattle.beam_machine.specs.declared.event.Reply.TheVariants.{Done, Changed}
use Rattle.beam_machine.specs.declared.process.Deadline.{Deadline}
use Rattle.beam_machine.specs.declared.process.Frame.{Frame}
use Rattle.beam_machine.specs.declared.process.Goes.TheVariants.{At, Enter, Nowhere}
use Rattle.beam_machine.specs.declared.process.Signal.{Signal}
use Rattle.beam_machine.specs.declared.process.Signal.TheVariants.{Message, Exit, Down}
use Rattle.beam_machine.specs.declared.process.Monitor.{Monitor}
use Rattle.beam_machine.specs.declared.process.Status.{Status}
use Rattle.beam_machine.specs.declared.process.Status.TheVariants.{Running, Waiting, Ended}
use Rattle.beam_machine.specs.Prelude.{current_of, old_of, deleted, purged, lingers_at, lingers_in_old, lingers_in_olds, killing, Code, Next, refused, replied, raised, continues, deadline_at, done_by, row, Rows, running as running_one, row_and, ran_to, ran, next_steps, signalled, notified, arrived, delivered, is_nothing, next_deliver, timed_out, next_timeout, next_spawn, sent_to, next_send, end_old, load_new, has_instances_left, next_load, next_load_strict, next_delete, is_lingered_in, next_soft_purge, are_apart, stands_in_way, end_olds, load_each, upgraded, next_atomic, next, Answered, answer_of, most_processes, Process, is_running, is_ended, is_waiting, started, ended, killed, monitor_of, Outcome, makes, sends, asks, sleeps, answers, arguments_of, outcome, goes_on, run, State, process_of, with_process, live_process, receiver_of, hearing_by, with_made}
use Rattle.beam_model.specs.declared.exception.Fault.{Fault}
use Rattle.beam_model.specs.Prelude.{IsWellFormed, Listing, is_erlang, same_text}
use Rattle.beam_term.specs.Prelude.{TermValue, nil_term, atom_term}
use Rattle.beam_machine.specs.declared.event.Event.TheVariants as event
use Rattle.beam_machine.specs.declared.process.Goes.{Goes}
use Rattle.beam_machine.specs.Next.{steps}
use Rattle.beam_laws.specs.Prelude.{with_name_and_transit, downs_of_end, native_sends, signals_to}
use Rattle.beam_laws.proofs.Numbered.{put_here}
use Rattle.beam_laws.proofs.Numbering.{ordered_next, next_is_free}
use Rattle.beam_laws.proofs.Slices.{node_stays}
use Rattle.beam_laws.proofs.Arriving.{answer_asked}
use Rattle.beam_laws.proofs.Hearing.{nobody_ends, hears, hearing_is}
use Rattle.beam_laws.proofs.Purging.{nobody_at}
use Rattle.beam_shape_laws.specs.Shaped.{IsShaped, AreShaped, AreLawful, Framing, AreFit, WaitBehind}
use Rattle.beam_shape_laws.proofs.Codes.{loaded_lawful, deleted_lawful, purged_lawful, signals_shaped, purged_shaped, deleted_shaped, loaded_shaped, killed_shaped}
use Rattle.beam_shape_laws.proofs.Entries.{enters}
use Rattle.beam_shape_laws.proofs.Outcomes.{outcome_right}
use Rattle.beam_shape_laws.proofs.Processes.{started_shaped, IsShapedIf, set_shaped, process_shaped, live_shaped, appended_shaped, posted_shaped, AllBut, set_apart, set_back, answer_apart}
use Rattle.beam_shape_laws.proofs.Actions.{IsReady, Comes, Enters, answered}
use Rattle.beam_shape_laws.proofs.Standing.{over}

pub is_running_status : (status : Status) → is_running status ≡ true → status ≡ Running
is_running_status Running e = refl
is_running_status Waiting e = absurd (true≢false (sym e))
is_running_status (Ended reason value) e = absurd (true≢false (sym e))

is_waiting_status : (status : Status) → is_waiting status ≡ true → status ≡ Waiting
is_waiting_status Waiting e = refl
is_waiting_status Running e = absurd (true≢false (sym e))
is_waiting_status (Ended reason value) e = absurd (true≢false (sym e))

-- ---- rows

-- the code's entries begin without y registers, and the processes are shaped
abbrev pub RowsLawful : State → Type 0
RowsLawful s = Enters s.code × AreShaped s.code s.processes

having_ready : (code : Code) (after : After) (q : Process) (name : Option (List ℕ)) (transit : List Signal) (ms : List Monitor) → IsReady code after q → IsReady code after (record (with_name_and_transit name transit q) { monitors = ms })
having_ready code (NextRow place) q name transit ms k =
    elim (is_ended q.status) as (λ b. IsReady code (NextRow place) (record (cond {A = Process} b q (record q { name = name; transit = transit })) { monitors = ms })) [ true ↦ k | false ↦ k ]
having_ready code Return q name transit ms k =
    elim (is_ended q.status) as (λ b. IsReady code Return (record (cond {A = Process} b q (record q { name = name; transit = transit })) { monitors = ms })) [ true ↦ k | false ↦ k ]

-- the DOWNs of an end leave the processes shaped
hearing_shaped : (code : Code) (pid : ℕ) (status : Status) (ps : List Process) → AreShaped code ps → AreShaped code (hearing_by pid status ps)
hearing_shaped code pid status ps h = subst (AreShaped code) (sym (hearing_is pid status ps)) (each ps h)
  where
    each : (ps : List Process) → AreShaped code ps → AreShaped code (map (hears pid status) ps)
    each [] h = tt
    each (q ∷ qs) h = (signals_shaped code (downs_of_end pid status q) q h.0, each qs h.1)

-- a process is put, with the DOWNs of its end if it has ended
made_shaped : (s : State) (pid : ℕ) (q : Process) → AreShaped s.code s.processes → IsShaped s.code q → AreShaped s.code (with_made s.processes pid q)
made_shaped s pid q h k = hearing_shaped s.code pid q.status (with_process s.processes pid q) (set_shaped s.code s.processes (pid - 1) q h k)

continued : (s : State) (pid : ℕ) (after : After) (value : Result TermValue Fault) (o : Option Process) (r : Process) → o ≡ Some r → Enters s.code → AllBut s.code (pid - 1) s.processes → IsReady s.code after r
    → RowsLawful (continues s pid after value o)
continued s pid after value None r e enter h k = cc
continued s pid after value (Some q) r e enter h k =
    let x : Process = answers q after (raised value) in (
      enter,
      hearing_shaped s.code pid x.status (with_process s.processes pid x)
          (set_back s.code (pid - 1) s.processes x h (answered s.code q after (raised value) (subst (IsReady s.code after) (same_Some r q (sym e)) k))),
    )

asked : (s : State) (pid : ℕ) (p q : Process) (native : _) (arity : ℕ) (after : After) → process_of s.processes pid ≡ Some p → RowsLawful s → IsReady s.code after q → RowsLawful (done_by s pid (asks q native arity after))
asked s pid p q native arity after e h k =
    let ps : List Process = with_process s.processes pid q in
    let ts : List TermValue = arguments_of q arity in
    let a : Answered = answer_of s.references ps pid native ts in
    let xs : List Signal = signals_to pid (native_sends s.references ps pid native ts) in
    let asked = answer_asked pid s.references ps native ts q (put_here s.processes pid p q e) (ap is_ended (runs after k)) in
    let x : Process = record (with_name_and_transit asked.0 (q.transit ++ xs) q) { monitors = asked.1 } in
    continued (record s { processes = a.processes; references = unwrap_or a.made s.references }) pid after a.value (process_of a.processes pid) x asked.2
    h.0 (answer_apart s.code (pid - 1) s.references ps pid native ts (set_apart s.code (pid - 1) s.processes q h.1)) (having_ready s.code after q asked.0 (q.transit ++ xs) asked.1 k)
  where
    runs : (after : After) → IsReady s.code after q → q.status ≡ Running
    runs (NextRow place) k = k.2
    runs Return k = k.2

done_right : (s : State) (pid : ℕ) (p : Process) (o : Outcome) → process_of s.processes pid ≡ Some p → RowsLawful s → Comes s.code o → RowsLawful (done_by s pid o)
done_right s pid p (makes q) e h c = (h.0, made_shaped s pid q h.1 c)
done_right s pid p (sends q to signal) e h c = (h.0, posted_shaped s.code (with_process s.processes pid q) to signal (set_shaped s.code s.processes (pid - 1) q h.1 c))
done_right s pid p (asks q native arity after) e h c = asked s pid p q native arity after e h c
done_right s pid p (sleeps q n place) e h c =
    (h.0, set_shaped s.code s.processes (pid - 1) (record q { deadline = Some (deadline_at s.clock n place) }) h.1 (c (deadline_at s.clock n place) refl))

row_right : (s : State) (pid : ℕ) (p : Process) → process_of s.processes pid ≡ Some p → p.status ≡ Running → RowsLawful s → RowsLawful (row s pid p)
row_right s pid p e run h =
    let shaped : IsShaped s.code p = subst (IsShapedIf s.code) e (process_shaped s.code s.processes pid h.1) in
    done_right s pid p (outcome s.code p) e h (outcome_right s.code h.0 p shaped run).1

row_and_right : (rest : State → Rows) → ((s : State) → RowsLawful s → RowsLawful (rest s).state) → (s : State) (pid : ℕ) (o : Option Process) → process_of s.processes pid ≡ o → RowsLawful s → RowsLawful (row_and rest s pid (running_one o)).state
row_and_right rest k s pid None e h = h
row_and_right rest k s pid (Some p) e h = go (is_running p.status) refl
  where
    go : (b : Bool) → is_running p.status ≡ b → RowsLawful (row_and rest s pid (cond b (Some p) None)).state
    go true r = k (row s pid p) (row_right s pid p e (is_running_status p.status r) h)
    go false r = h

pub steps_right : (n : ℕ) (s : State) (pid : ℕ) → RowsLawful s → RowsLawful (steps s pid n).state
steps_right zero s pid h = h
steps_right (suc n) s pid h = row_and_right (λ t. steps t pid n) (λ t i. steps_right n t pid i) s pid (process_of s.processes pid) refl h

-- ---- what arrives

signalled_shaped : (code : Code) (p : Process) (sender : ℕ) (reason : TermValue) → IsShaped code p → IsShaped code (signalled p sender reason)
signalled_shaped code p sender (atom_term text) h =
    elim (same_text text (codes "kill")) as (λ c. IsShaped code (cond c (ended p killed nil_term) (cond (same_text text (codes "normal") && not (sender == p.pid)) p (ended p (atom_term text) nil_term)))) [
      | true ↦ over code p killed nil_term
      | false ↦ elim (same_text text (codes "normal") && not (sender == p.pid)) as (λ c. IsShaped code (cond c p (ended p (atom_term text) nil_term))) [ true ↦ h | false ↦ over code p (atom_term text) nil_term ]
    ]
signalled_shaped code p sender reason h = over code p reason nil_term

arrived_shaped : (code : Code) (p : Process) (signal : Signal) → is_ended p.status ≡ false → IsShaped code p → IsShaped code (arrived p signal)
arrived_shaped code p (Message t) lives h = λ e. ((h lives).0, λ d w f. cc)
arrived_shaped code p (Exit sender reason) lives h = signalled_shaped code p sender reason h
arrived_shaped code p (Down reference reason) lives h = notified_shaped (monitor_of reference p.monitors)
  where
    notified_shaped : (o : Option Monitor) → IsShaped code (notified p reason o)
    notified_shaped None = h
    notified_shaped (Some m) = λ e. ((h lives).0, λ d w f. cc)

delivered_shaped : (code : Code) (p : Process) (signals : List Signal) → IsShaped code p → IsShaped code (delivered p signals)
delivered_shaped code p [] h = h
delivered_shaped code p (signal ∷ rest) h = go (is_ended p.status) refl (λ k. delivered_shaped code (arrived p signal) rest k)
  where
    go : (b : Bool) → is_ended p.status ≡ b → (IsShaped code (arrived p signal) → IsShaped code (delivered (arrived p signal) rest)) → IsShaped code (cond b p (delivered (arrived p signal) rest))
    go true e later = h
    go false e later = later (arrived_shaped code p signal e h)

-- ---- one event

-- the listings can be loaded, and the processes are shaped
abbrev Kept : State → Type 0
Kept s = AreLawful s.code × AreShaped s.code s.processes

either : (P : State → Type 0) (b : Bool) (x y : Next) → P x.state → P y.state → P (cond b x y).state
either P true x y h k = h
either P false x y h k = k

load_new_kept : (s : State) (l : Listing) → IsWellFormed l → Framing s → Kept (load_new (end_old s l.name) l).state
load_new_kept s l w h = (loaded_lawful s.code (s.instances + 1) l w h.0, loaded_shaped s.code (s.instances + 1) l s.processes (next_is_free s.code s.instances h.1) h.2)

load_kept : (s : State) (l : Listing) → IsWellFormed l → Framing s → Kept (next_load s l).state
load_kept s l w h =
    either Kept (is_erlang l.name) (refused s Sticky) _ (h.0, h.2) (either Kept (has_instances_left s) (load_new (end_old s l.name) l) (refused s TooMany) (load_new_kept s l w h) (h.0, h.2))

strict_kept : (s : State) (l : Listing) → IsWellFormed l → Framing s → Kept (next_load_strict s l).state
strict_kept s l w h = either Kept (is_erlang l.name) (refused s Sticky) _ (h.0, h.2) (go (is_some (old_of s.code l.name)) refl)
  where
    over_none : old_of s.code l.name ≡ None → Kept (load_new s l).state
    over_none e =
        subst (λ (ps : List Process). Kept (load_new (record s { processes = ps }) l).state)
        (ap (λ o. killing (lingers_at o) s.processes) e ∙ nobody_ends (lingers_at None) s.processes (nobody_at s.processes)) (load_new_kept s l w h)

    go : (b : Bool) → is_some (old_of s.code l.name) ≡ b → Kept (cond {A = Next} b (refused s NotPurged) (cond (has_instances_left s) (load_new s l) (refused s TooMany))).state
    go true e = (h.0, h.2)
    go false e = either Kept (has_instances_left s) (load_new s l) (refused s TooMany) (over_none (not_some (old_of s.code l.name) e)) (h.0, h.2)

each_kept : (s : State) (ls : List Listing) → AllByRecursion IsWellFormed ls → Framing s → Kept (load_each s ls)
each_kept s [] w h = (h.0, h.2)
each_kept s (l ∷ rest) w h =
    let this = load_kept s l w.0 h in
    each_kept (next_load s l).state rest w.1 (this.0, ordered_next s (event.Load l) h.1, this.1)

atomic_kept : (s : State) (mode : UpgradeMode) (ls : List Listing) → AllByRecursion IsWellFormed ls → Framing s → Kept (next_atomic s mode ls).state
atomic_kept s mode ls w h =
    either Kept (list_any (λ l. is_erlang l.name) ls) (refused s Sticky) _ (h.0, h.2)
    (either Kept (not (are_apart ls)) (refused s Duplicated) _ (h.0, h.2)
    (either Kept (list_any (λ l. stands_in_way mode s l.name) ls) (refused s NotPurged) _ (h.0, h.2)
    (either Kept (nat_lt (s.instances + length ls) (2 ^ 32)) (upgraded (load_each (end_olds s ls) ls) ls) (refused s TooMany)
    (each_kept (end_olds s ls) ls w (h.0, h.1, killed_shaped (lingers_in_olds s.code (map (λ l. l.name) ls)) s.code s.processes h.2)) (h.0, h.2))))

delete_kept : (s : State) (name : List ℕ) → Framing s → Kept (next_delete s name).state
delete_kept s name h = go (is_some (current_of s.code name)) (is_some (old_of s.code name)) refl
  where
    go : (b c : Bool) → is_some (old_of s.code name) ≡ c → Kept (cond {A = Next} (b && not c) (replied (record s { code = deleted s.code name }) (Changed true)) (replied s (Changed false))).state
    go true false e = (deleted_lawful s.code name h.0, deleted_shaped s.code name s.processes (not_some (old_of s.code name) e) h.2)
    go true true e = (h.0, h.2)
    go false c e = (h.0, h.2)

soft_kept : (s : State) (name : List ℕ) → Framing s → Kept (next_soft_purge s name).state
soft_kept s name h = go (is_lingered_in s name) refl
  where
    go : (b : Bool) → is_lingered_in s name ≡ b → Kept (cond {A = Next} b (replied s (Changed false)) (replied (record s { code = purged s.code name }) (Changed true))).state
    go true e = (h.0, h.2)
    go false e = (purged_lawful s.code name h.0, subst (AreShaped (purged s.code name)) (nobody_ends (lingers_in_old s.code name) s.processes e) (purged_shaped s.code name s.processes h.2))

pub rows_lawful : (s : State) → Framing s → RowsLawful s
rows_lawful s h = (enters s.code h.0 (λ n. (h.1 n).0), h.2)

ran_shaped : (pid : ℕ) (rows : Rows) (o : Option Process) → AreShaped rows.state.code rows.state.processes → AreShaped (ran_to rows o).state.code (ran_to rows o).state.processes
ran_shaped pid rows None h = h
ran_shaped pid rows (Some p) h = h

abbrev ShapedState : State → Type 0
ShapedState s = AreShaped s.code s.processes

steps_shaped : (s : State) (pid n : ℕ) (o : Option Process) → Framing s → ShapedState (next_steps s pid n o).state
steps_shaped s pid n None h = h.2
steps_shaped s pid n (Some p) h =
    either ShapedState (is_waiting p.status) (refused s NotReady) (ran pid (steps s pid n)) h.2
    (ran_shaped pid (steps s pid n) (process_of (steps s pid n).state.processes pid) (steps_right n s pid (rows_lawful s h)).1)

steps_kept : (s : State) (pid n : ℕ) → Framing s → Kept (next s (event.Steps pid n)).state
steps_kept s pid n h = (subst AreLawful (sym (node_stays s pid n).0) h.0, steps_shaped s pid n (live_process s.processes pid) h)

deliver_kept : (s : State) (pid : ℕ) (o : Option Process) → IsShapedIf s.code o → Framing s → Kept (next_deliver s pid o).state
deliver_kept s pid None k h = (h.0, h.2)
deliver_kept s pid (Some p) k h =
    either Kept (is_nothing p.transit) (refused s NotReady) _ (h.0, h.2)
    (h.0, made_shaped s pid (delivered (record p { transit = [] }) p.transit) h.2 (delivered_shaped s.code (record p { transit = [] }) p.transit k))

behind_fit : (code : Code) (goes : Goes) (frames : List Frame) → AreFit code goes frames → WaitBehind code frames
behind_fit code (At place) frames k = k.1
behind_fit code (Enter «module» function arity) frames k = subst (WaitBehind code) (sym k) tt
behind_fit code Nowhere frames k = absurd k

timed_out_shaped : (code : Code) (p : Process) (d : Deadline) → is_ended p.status ≡ false → IsShaped code p → p.status ≡ Waiting → p.deadline ≡ Some d → IsShaped code (record (goes_on p d.after) { deadline = None; status = Running })
timed_out_shaped code p d lives h w e = λ f. (((h lives).1 d w e, behind_fit code p.goes p.frames (h lives).0), λ d' w' f'. cc)

timed_out_kept : (s : State) (pid : ℕ) (p : Process) (o : Option Deadline) → p.deadline ≡ o → IsShaped s.code p → Framing s → Kept (timed_out s pid p o).state
timed_out_kept s pid p None e k h = (h.0, h.2)
timed_out_kept s pid p (Some d) e k h = go (is_waiting p.status) refl
  where
    then : State
    then = record s { processes = with_process s.processes pid (record (goes_on p d.after) { deadline = None; status = Running }) }

    go : (b : Bool) → is_waiting p.status ≡ b → Kept (cond (b && nat_le d.at s.clock) (replied then Done) (refused s NotReady)).state
    go false w = (h.0, h.2)
    go true w =
        let waits = is_waiting_status p.status w in
        either Kept (nat_le d.at s.clock) (replied then Done) (refused s NotReady)
        (h.0, set_shaped s.code s.processes (pid - 1) (record (goes_on p d.after) { deadline = None; status = Running }) h.2 (timed_out_shaped s.code p d (ap is_ended waits) k waits e)) (h.0, h.2)

timeout_kept : (s : State) (pid : ℕ) (o : Option Process) → IsShapedIf s.code o → Framing s → Kept (next_timeout s pid o).state
timeout_kept s pid None k h = (h.0, h.2)
timeout_kept s pid (Some p) k h = timed_out_kept s pid p p.deadline refl k h

spawn_kept : (s : State) (name function : List ℕ) (arguments : List TermValue) → Framing s → Kept (next_spawn s name function arguments).state
spawn_kept s name function arguments h =
    either Kept (nat_lt (length s.processes) most_processes) _ (refused s TooMany)
    (h.0, appended_shaped s.code s.processes (started (length s.processes + 1) name function arguments) h.2 (started_shaped s.code (length s.processes + 1) name function arguments)) (h.0, h.2)

sent_kept : (s : State) (o : Option Process) (pid : ℕ) (message : TermValue) → Framing s → Kept (sent_to s o pid message).state
sent_kept s None pid message h = (h.0, h.2)
sent_kept s (Some p) pid message h = (h.0, posted_shaped s.code s.processes pid (Message message) h.2)

send_kept : (s : State) (o : Option ℕ) (message : TermValue) → Framing s → Kept (next_send s o message).state
send_kept s None message h = (h.0, h.2)
send_kept s (Some pid) message h = sent_kept s (live_process s.processes pid) pid message h

abbrev pub Loads : Event Listing → Type 0
Loads (event.Load l) = IsWellFormed l
Loads (event.LoadStrict l) = IsWellFormed l
Loads (event.AtomicLoad mode ls) = AllByRecursion IsWellFormed ls
Loads _ = Unit {0}

event_kept : (s : State) (e : Event Listing) → Loads e → Framing s → Kept (next s e).state
event_kept s (event.Load l) w h = load_kept s l w h
event_kept s (event.LoadStrict l) w h = strict_kept s l w h
event_kept s (event.AtomicLoad mode ls) w h = atomic_kept s mode ls w h
event_kept s (event.Delete name) w h = delete_kept s name h
event_kept s (event.SoftPurge name) w h = soft_kept s name h
event_kept s (event.Purge name) w h = (purged_lawful s.code name h.0, purged_shaped s.code name s.processes h.2)
event_kept s (event.Versions name) w h = (h.0, h.2)
event_kept s (event.Spawn name function arguments) w h = spawn_kept s name function arguments h
event_kept s (event.Send to message) w h = send_kept s (receiver_of s.processes to) message h
event_kept s (event.Steps pid n) w h = steps_kept s pid n h
event_kept s (event.Deliver pid) w h = deliver_kept s pid (live_process s.processes pid) (live_shaped s.code s.processes pid h.2) h
event_kept s (event.Clock now) w h = either Kept (nat_lt now s.clock) (refused s BackwardClock) (replied (record s { clock = now }) Done) (h.0, h.2) (h.0, h.2)
event_kept s (event.Timeout pid) w h = timeout_kept s pid (live_process s.processes pid) (live_shaped s.code s.processes pid h.2) h

pub framing_next : (s : State) (e : Event Listing) → Loads e → Framing s → Framing (next s e).state
framing_next s e w h = let k = event_kept s e w h in (k.0, ordered_next s e h.1, k.1)
