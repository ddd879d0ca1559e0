-- Each event leaves every process in live instances.
use Rattle.std.proofs.Common.{◌≡◌, ℕ, suc, zero, ◌+◌, ◌-◌, ◌==◌, ◌&&◌, cond, Bool, true, false, List, [], ◌∷◌, length, map, refl, sym, subst, ◌∙◌, Option, Some, None, Result, not, unwrap_or, codes}
use Rattle.beam_model.specs.declared.exception.Fault.{Fault}
use Rattle.beam_model.specs.Prelude.{Listing, same_text}
use Rattle.beam_machine.specs.declared.event.Event.{Event}
use Rattle.beam_machine.specs.declared.process.Signal.{Signal}
use Rattle.beam_machine.specs.declared.process.Signal.TheVariants.{Message, Exit, Down}
use Rattle.beam_machine.specs.declared.process.Monitor.{Monitor}
use Rattle.beam_machine.specs.declared.process.Status.{Status}
use Rattle.beam_machine.specs.declared.process.Status.TheVariants.{Running}
use Rattle.beam_machine.specs.Prelude.{Code, Process, is_running, is_ended, started, ended, killed, monitor_of, Outcome, makes, sends, asks, sleeps, answers, arguments_of, outcome, goes_on, State, process_of, with_process, hearing_by, Answered, answer_of, loaded, deleted, purged, lingers, lingers_in_olds, IsHome, AreHome, made_process, raised, notified, continues, goes_on_with, deadline_at, done_by, row, Rows, running, row_and, signalled, arrived, delivered, purge_old, end_old, load_new, next, run, Touch, touch_of, Touches, stays, in_turn, loads, deletes, ends, purges, runs, arrives, times_out, ticks, posts, starts}
use Rattle.beam_machine.specs.declared.callee.After.{After}
use Rattle.beam_term.specs.Prelude.{TermValue, nil_term, atom_term}
use Rattle.beam_machine.specs.Next.{steps}
use Rattle.beam_laws.proofs.LivePlaces.{IsDeadlineHome, Whole, whole_home, home_whole}
use Rattle.beam_laws.proofs.RowsHome.{AfterHome, ComesHome, answers_home, outcome_home}
use Rattle.beam_laws.proofs.Answering.{IsHomeIf, set_home, process_home, live_home, appended_home, started_home, posted_home, answer_home}
use Rattle.beam_laws.specs.Prelude.{downs_of_end}
use Rattle.beam_laws.proofs.Changes.{all_kept, loaded_keeps, deleted_keeps, purged_keeps, purged_home, killed_home}
use Rattle.beam_laws.proofs.Hearing.{as_before, hears, hearing_is}
use Rattle.beam_laws.proofs.Touching.{next_touches}

abbrev pub IsStateHome : State → Type 0
IsStateHome s = AreHome s.code s.processes

-- ---- rows

-- the DOWNs of an end leave the processes in live instances
hearing_home : (code : Code) (pid : ℕ) (status : Status) (ps : List Process) → AreHome code ps → AreHome code (hearing_by pid status ps)
hearing_home code pid status ps h = subst (AreHome code) (sym (hearing_is pid status ps)) (each ps h)
  where
    each : (ps : List Process) → AreHome code ps → AreHome code (map (hears pid status) ps)
    each [] h = tt
    each (q ∷ qs) h = ((λ n e. h.0 n (sym (as_before (lingers n) (downs_of_end pid status q) q refl) ∙ e)), each qs h.1)

made_home : (s : State) (pid : ℕ) (p : Process) → IsStateHome s → IsHome s.code p → IsStateHome (made_process s pid p)
made_home s pid p h i = hearing_home s.code pid p.status (with_process s.processes pid p) (set_home s.code s.processes (pid - 1) p h i)

continues_home : (s : State) (pid : ℕ) (after : After) (value : Result TermValue Fault) (o : Option Process) → IsStateHome s → IsHomeIf s.code o → AfterHome s.code after → IsStateHome (continues s pid after value o)
continues_home s pid after value None h i l = h
continues_home s pid after value (Some p) h i l =
    let q : Process = answers p after (raised value) in
    made_home s pid q h (whole_home s.code q (answers_home s.code p after (raised value) (home_whole s.code p i) l))

goes_on_with_home : (s : State) (pid : ℕ) (after : After) (a : Answered) → AreHome s.code a.processes → AfterHome s.code after → IsStateHome (goes_on_with s pid after a)
goes_on_with_home s pid after a h l =
    continues_home (record s { processes = a.processes; references = unwrap_or a.made s.references }) pid after a.value (process_of a.processes pid) h (process_home s.code a.processes pid h) l

done_by_home : (s : State) (pid : ℕ) (o : Outcome) → IsStateHome s → ComesHome s.code o → IsStateHome (done_by s pid o)
done_by_home s pid (makes p) h c = made_home s pid p h (whole_home s.code p c)
done_by_home s pid (sends p to signal) h c = posted_home s.code (with_process s.processes pid p) to signal (set_home s.code s.processes (pid - 1) p h (whole_home s.code p c))
done_by_home s pid (asks p native arity after) h c =
    goes_on_with_home s pid after (answer_of s.references (with_process s.processes pid p) pid native (arguments_of p arity))
    (answer_home s.code s.references (with_process s.processes pid p) pid native (arguments_of p arity) (set_home s.code s.processes (pid - 1) p h (whole_home s.code p c.0))) c.1
done_by_home s pid (sleeps p n next) h c =
    let q : Process = record p { deadline = Some (deadline_at s.clock n next) } in
    set_home s.code s.processes (pid - 1) q h (whole_home s.code q (c.0.0, (c.1, c.0.1.1)))

row_home : (s : State) (pid : ℕ) (p : Process) → IsStateHome s → IsHome s.code p → IsStateHome (row s pid p)
row_home s pid p h i = done_by_home s pid (outcome s.code p) h (outcome_home s.code p (home_whole s.code p i))

-- each row of a running process keeps home, and so do the rows after it
row_and_home : (rest : State → Rows) → ((s : State) → IsStateHome s → IsStateHome (rest s).state) → (s : State) (pid : ℕ) (o : Option Process) → IsStateHome s → IsHomeIf s.code o → IsStateHome (row_and rest s pid (running o)).state
row_and_home rest k s pid None h i = h
row_and_home rest k s pid (Some p) h i = go (is_running p.status) refl
  where
    go : (b : Bool) → is_running p.status ≡ b → IsStateHome (row_and rest s pid (cond b (Some p) None)).state
    go true e = k (row s pid p) (row_home s pid p h i)
    go false e = h

steps_home : (n : ℕ) (s : State) (pid : ℕ) → IsStateHome s → IsStateHome (steps s pid n).state
steps_home zero s pid h = h
steps_home (suc n) s pid h = row_and_home (λ t. steps t pid n) (λ t i. steps_home n t pid i) s pid (process_of s.processes pid) h (process_home s.code s.processes pid h)

-- ---- what arrives

signalled_home : (code : Code) (p : Process) (sender : ℕ) (reason : TermValue) → IsHome code p → IsHome code (signalled p sender reason)
signalled_home code p sender (atom_term text) h =
    elim (same_text text (codes "kill")) as (λ c. IsHome code (cond c (ended p killed nil_term) (cond (same_text text (codes "normal") && not (sender == p.pid)) p (ended p (atom_term text) nil_term)))) [
      | true ↦ λ n e. cc
      | false ↦ elim (same_text text (codes "normal") && not (sender == p.pid)) as (λ c. IsHome code (cond c p (ended p (atom_term text) nil_term))) [ true ↦ h | false ↦ λ n e. cc ]
    ]
signalled_home code p sender reason h = λ n e. cc

notified_home : (code : Code) (p : Process) (reason : TermValue) (o : Option Monitor) → IsHome code p → IsHome code (notified p reason o)
notified_home code p reason None h = h
notified_home code p reason (Some m) h = h

arrived_home : (code : Code) (p : Process) (signal : Signal) → IsHome code p → IsHome code (arrived p signal)
arrived_home code p (Message t) h = h
arrived_home code p (Exit sender reason) h = signalled_home code p sender reason h
arrived_home code p (Down reference reason) h = notified_home code p reason (monitor_of reference p.monitors) h

delivered_home : (code : Code) (p : Process) (signals : List Signal) → IsHome code p → IsHome code (delivered p signals)
delivered_home code p [] h = h
delivered_home code p (signal ∷ rest) h =
    elim (is_ended p.status) as (λ b. IsHome code (cond b p (delivered (arrived p signal) rest))) [ true ↦ h | false ↦ delivered_home code (arrived p signal) rest (arrived_home code p signal h) ]

-- ---- changes of code

purge_old_home : (s : State) (name : List ℕ) → IsStateHome s → IsStateHome (purge_old s name)
purge_old_home s name h = purged_home s.code (purged s.code name) name (purged_keeps s.code name) s.processes h

load_new_home : (s : State) (l : Listing) → IsStateHome s → IsStateHome (load_new (end_old s l.name) l).state
load_new_home s l h = purged_home s.code (loaded s.code (s.instances + 1) l) l.name (loaded_keeps s.code (s.instances + 1) l) s.processes h

-- ---- one event, and a list of them

-- a change that keeps to what it may touch
touched_home : (t : Touch) (s u : State) → Touches t s u → IsStateHome s → IsStateHome u
touched_home _ _ _ (stays t s) h = h
touched_home _ _ _ (in_turn t s u v first second) h = touched_home t u v second (touched_home t s u first h)
touched_home _ _ _ (loads s l) h = load_new_home s l h
touched_home _ _ _ (deletes s name e) h = all_kept s.code (deleted s.code name) (deleted_keeps s.code name e) s.processes h
touched_home _ _ _ (purges s name) h = purge_old_home s name h
touched_home _ _ _ (ends s ls) h = killed_home (lingers_in_olds s.code (map (λ l. l.name) ls)) s.code s.processes h
touched_home _ _ _ (runs s pid n) h = steps_home n s pid h
touched_home _ _ _ (arrives s pid p e) h =
    made_home s pid (delivered (record p { transit = [] }) p.transit) h
    (delivered_home s.code (record p { transit = [] }) p.transit (subst (IsHomeIf s.code) e (live_home s.code s.processes pid h)))
touched_home _ _ _ (times_out s pid p d e is) h =
    let w : Whole s.code p = home_whole s.code p (subst (IsHomeIf s.code) e (live_home s.code s.processes pid h)) in
    let q : Process = record (goes_on p d.after) { deadline = None; status = Running } in
    set_home s.code s.processes (pid - 1) q h (whole_home s.code q (subst (λ o. IsDeadlineHome s.code o) is w.1.0, (tt, w.1.1)))
touched_home _ _ _ (ticks s now h) home = home
touched_home _ _ _ (posts s to signal) h = posted_home s.code s.processes to signal h
touched_home _ _ _ (starts s name function arguments) h =
    let new : Process = started (length s.processes + 1) name function arguments in
    appended_home s.code s.processes new h (started_home s.code (length s.processes + 1) name function arguments)

pub next_home : (s : State) (e : Event Listing) → IsStateHome s → IsStateHome (next s e).state
next_home s e h = touched_home (touch_of e) s (next s e).state (next_touches s e) h

pub run_home : (s : State) (events : List (Event Listing)) → IsStateHome s → IsStateHome (run s events).state
run_home s [] h = h
run_home s (e ∷ events) h = run_home (next s e).state events (next_home s e h)
