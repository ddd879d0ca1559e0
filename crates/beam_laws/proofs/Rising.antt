-- The references of each process's monitors rise, and the node has made them.
use Rattle.std.proofs.Common.{◌≡◌, ℕ, zero, suc, ◌+◌, ◌-◌, ◌≤◌, Bool, true, false, cond, nat_lt, List, [], ◌∷◌, ◌++◌, length, map, slice_get, refl, sym, subst, arith, Option, Some, None, Result, Ok, Err, filter, flat_map, unwrap_or, is_some, codes}
use Rattle.std.proofs.Math.ListN.{set}
use Rattle.beam_machine.specs.declared.callee.After.{After as After'}
use Rattle.beam_machine.specs.declared.callee.After.TheVariants.{NextRow, Return}
use Rattle.beam_machine.specs.declared.process.Frame.{Frame}
use Rattle.beam_machine.specs.declared.event.Event.{Event}
use Rattle.beam_machine.specs.declared.process.Monitor.{Monitor as MonitorValue}
use Rattle.beam_machine.specs.declared.process.Signal.{Signal}
use Rattle.beam_machine.specs.declared.process.Signal.TheVariants.{Down}
use Rattle.beam_machine.specs.declared.process.Status.{Status}
use Rattle.beam_machine.specs.declared.process.Status.TheVariants.{Running}
use Rattle.beam_machine.specs.Prelude.{lingers_in_old, lingers_in_olds, pids_of, ends_or_hears, killing, Answered, is_alive, or_noproc, put_monitor, monitored, answer_of, Rows, raised, continues, done_by, row, running, row_and, delivered, next, Process, is_running, is_ended, started, ended, killed, put_x, Outcome, makes, sends, asks, sleeps, goes_on, tag_of, caught_at, unwound, illegal, returns_to, returns_from, answers, arguments_of, own_number, outcome, run, State, process_of, with_process, alive, live_process, posted_to, posted, with_signals, downs, hearing_by, with_made, Touch, touch_of, Touches, stays, in_turn, loads, deletes, ends, purges, runs, arrives, times_out, ticks, posts, starts, Sent}
use Rattle.beam_model.specs.declared.exception.Fault.{Fault}
use Rattle.beam_model.specs.declared.exception.Fault.TheVariants.{IllegalOperand}
use Rattle.beam_model.specs.declared.native.NodeNative.{NodeNative}
use Rattle.beam_model.specs.Prelude.{Listing, Place}
use Rattle.beam_model.specs.declared.exception.Exception.{Exception}
use Rattle.beam_term.specs.Prelude.{TermValue, atom_term, nil_term}
use Rattle.beam_machine.specs.declared.process.Tag.{Tag}
use Rattle.beam_model.specs.declared.exception.Exception.TheVariants as exception
use Rattle.beam_machine.specs.Next.{steps}
use Rattle.beam_laws.specs.Prelude.{ArePart, MonitorsNoMore, Rise, AreRising, downs_of_end}
use Rattle.beam_laws.proofs.Ending.{runs_on}
use Rattle.beam_laws.proofs.Hearing.{as_before, hears, hearing_is}
use Rattle.beam_laws.proofs.Monitoring.{row_part, delivered_part, all_are, none_are}
use Rattle.beam_laws.proofs.Touching.{next_touches}
use Rattle.beam_laws.proofs.NodeAnswers.{Answers, keeps_all, starts_one, names_one, unnames_one, posts_one, makes_one, monitors_one, answer_is}

-- ---- one list of monitors

rise_over : (above below count : ℕ) (ms : List MonitorValue) → below ≤ above → Rise above count ms → Rise below count ms
rise_over above below count [] le h = tt
rise_over above below count (m ∷ ms) le h = (omega (arith, le, h.0), h.1)

rise_more : (above count more : ℕ) (ms : List MonitorValue) → count ≤ more → Rise above count ms → Rise above more ms
rise_more above count more [] le h = tt
rise_more above count more (m ∷ ms) le h = (h.0, (omega (arith, le, h.1.0), rise_more m.reference count more ms le h.1.1))

rise_filter : (above count : ℕ) (keep : MonitorValue → Bool) (ms : List MonitorValue) → Rise above count ms → Rise above count (filter keep ms)
rise_filter above count keep [] h = tt
rise_filter above count keep (m ∷ ms) h =
    elim (keep m) as (λ b. Rise above count (cond b (m ∷ filter keep ms) (filter keep ms))) [
      | true ↦ (h.0, (h.1.0, rise_filter m.reference count keep ms h.1.1))
      | false ↦ let le : above ≤ m.reference = omega (arith, h.0) in rise_over m.reference above count (filter keep ms) le (rise_filter m.reference count keep ms h.1.1)
    ]

pub rise_part : (count : ℕ) (ms ns : List MonitorValue) → ArePart ms ns → Rise 0 count ms → Rise 0 count ns
rise_part count ms ns part h = subst (Rise 0 count) (sym part.1) (rise_filter 0 count part.0 ms h)

-- one monitor more, of the next reference
rise_next : (above count : ℕ) (ms : List MonitorValue) (watched : TermValue) → above ≤ count → Rise above count ms → Rise above (count + 1) (ms ++ record { reference = count + 1; pid = watched } ∷ [])
rise_next above count [] watched le h = (omega (arith, le), (omega arith, tt))
rise_next above count (m ∷ ms) watched le h = (h.0, (omega (arith, h.1.0), rise_next m.reference count ms watched h.1.0 h.1.1))

-- ---- processes

abbrev pub Rises : ℕ → Process → Type 0
Rises count p = Rise 0 count p.monitors

abbrev pub RisesIf : ℕ → Option Process → Type 0
RisesIf count (Some p) = Rises count p
RisesIf count None = Unit {0}

all_more : (count more : ℕ) (ps : List Process) → count ≤ more → AreRising count ps → AreRising more ps
all_more count more [] le h = tt
all_more count more (p ∷ ps) le h = (rise_more 0 count more p.monitors le h.0, all_more count more ps le h.1)

module _ (count : ℕ) where
  abbrev pub Up : List Process → Type 0
  Up ps = AreRising count ps

  pub set_up : (ps : List Process) (at : ℕ) (p : Process) → Up ps → Rises count p → Up (set ps at p)
  set_up [] at p h i = tt
  set_up (q ∷ qs) zero p h i = (i, h.1)
  set_up (q ∷ qs) (suc at) p h i = (h.0, set_up qs at p h.1 i)

  get_up : (ps : List Process) (at : ℕ) → Up ps → RisesIf count (slice_get ps at)
  get_up [] at h = tt
  get_up (q ∷ qs) zero h = h.0
  get_up (q ∷ qs) (suc at) h = get_up qs at h.1

  pub process_up : (ps : List Process) (pid : ℕ) → Up ps → RisesIf count (process_of ps pid)
  process_up ps pid h = elim (nat_lt 0 pid) as (λ c. RisesIf count (cond c (slice_get ps (pid - 1)) None)) [ true ↦ get_up ps (pid - 1) h | false ↦ tt ]

  alive_up : (o : Option Process) → RisesIf count o → RisesIf count (alive o)
  alive_up None h = tt
  alive_up (Some p) h = elim (is_ended p.status) as (λ c. RisesIf count (cond c None (Some p))) [ true ↦ tt | false ↦ h ]

  pub live_up : (ps : List Process) (pid : ℕ) → Up ps → RisesIf count (live_process ps pid)
  live_up ps pid h = alive_up (process_of ps pid) (process_up ps pid h)

  push_up : (ps : List Process) (p : Process) → Up ps → Rises count p → Up (ps ++ p ∷ [])
  push_up [] p h i = (i, tt)
  push_up (q ∷ qs) p h i = (h.0, push_up qs p h.1 i)

  map_up : (f : Process → Process) → ((q : Process) → Rises count q → Rises count (f q)) → (ps : List Process) → Up ps → Up (map f ps)
  map_up f keeps [] h = tt
  map_up f keeps (q ∷ qs) h = (keeps q h.0, map_up f keeps qs h.1)

  posted_to_up : (ps : List Process) (pid : ℕ) (signal : Signal) (o : Option Process) → Up ps → RisesIf count o → Up (posted_to ps pid signal o)
  posted_to_up ps pid signal None h i = h
  posted_to_up ps pid signal (Some p) h i = set_up ps (pid - 1) (record p { transit = p.transit ++ signal ∷ [] }) h i

  pub posted_up : (ps : List Process) (pid : ℕ) (signal : Signal) → Up ps → Up (posted ps pid signal)
  posted_up ps pid signal h = posted_to_up ps pid signal (live_process ps pid) h (live_up ps pid h)

  -- the DOWNs of an end leave the monitors as they are
  hearing_up : (pid : ℕ) (status : Status) (ps : List Process) → Up ps → Up (hearing_by pid status ps)
  hearing_up pid status ps h =
      subst Up (sym (hearing_is pid status ps)) (map_up (hears pid status) (λ q i. subst (Rise 0 count) (sym (as_before (λ p. p.monitors) (downs_of_end pid status q) q refl)) i) ps h)

  pub made_up : (ps : List Process) (pid : ℕ) (p : Process) → Up ps → Rises count p → Up (with_made ps pid p)
  made_up ps pid p h i = hearing_up pid p.status (with_process ps pid p) (set_up ps (pid - 1) p h i)

  killing_up : (test : Process → Bool) (ps : List Process) → Up ps → Up (killing test ps)
  killing_up test ps h = map_up (ends_or_hears test (pids_of test ps)) keeps ps h
    where
      keeps : (p : Process) → Rises count p → Rises count (ends_or_hears test (pids_of test ps) p)
      keeps p i =
          let signals : List Signal = flat_map (λ pid. downs pid killed p.monitors) (pids_of test ps) in
          elim (test p) as (λ b. Rises count (cond b (ended p killed nil_term) (with_signals signals p))) [
            | true ↦ tt
            | false ↦ subst (Rise 0 count) (sym (as_before (λ p. p.monitors) signals p refl)) i
          ]

  -- ---- natives of the node

  noproc_up : (ps : List Process) (caller n : ℕ) (watched : TermValue) → Up ps → Up (or_noproc ps caller n watched)
  noproc_up ps caller n watched h =
      let signal : Signal = Down n (atom_term (codes "noproc")) in
      elim (is_alive ps (own_number watched)) as (λ b. Up (cond b ps (posted ps caller signal))) [ true ↦ h | false ↦ posted_up ps caller signal h ]

-- ---- the node's answers, with the count of references after them

abbrev After : ℕ → List Process → Answered → Type 0
After count ps a = (count ≤ unwrap_or a.made count) × (AreRising count ps → AreRising (unwrap_or a.made count) a.processes)

watching_up : (count : ℕ) (ps : List Process) (caller : ℕ) (watched : TermValue) (o : Option Process) → AreRising count ps → RisesIf count o
    → AreRising (count + 1) (put_monitor ps caller (count + 1) watched o)
watching_up count ps caller watched None h i = all_more count (count + 1) ps (omega arith) h
watching_up count ps caller watched (Some p) h i =
    let le : 0 ≤ count = omega arith in
    let more : count ≤ count + 1 = omega arith in
    set_up (count + 1) ps (caller - 1) (record p { monitors = p.monitors ++ record { reference = count + 1; pid = watched } ∷ [] }) (all_more count (count + 1) ps more h) (rise_next 0 count p.monitors watched le i)

monitored_up : (count : ℕ) (ps : List Process) (caller : ℕ) (watched : TermValue) → AreRising count ps → AreRising (count + 1) (monitored ps caller watched (count + 1))
monitored_up count ps caller watched h =
    let qs : List Process = or_noproc ps caller (count + 1) watched in
    let k : AreRising count qs = noproc_up count ps caller (count + 1) watched h in
    watching_up count qs caller watched (live_process qs caller) k (live_up count qs caller k)

-- a process that hasn't ended, with another name
renamed_up : (count : ℕ) (ps : List Process) (pid : ℕ) (p : Process) (name : Option (List ℕ)) → live_process ps pid ≡ Some p → AreRising count ps
    → AreRising count (with_process ps pid (record p { name = name }))
renamed_up count ps pid p name e h = set_up count ps (pid - 1) (record p { name = name }) h (subst (RisesIf count) e (live_up count ps pid h))

answered_after : (count : ℕ) (ps : List Process) (caller : ℕ) (native : NodeNative) (xs : List Sent) (a : Answered) → Answers count ps caller native xs a → After count ps a
answered_after count ps caller native _ _ (keeps_all value) = (omega arith, λ h. h)
answered_after count ps caller native _ _ (starts_one name function arguments value) = (omega arith, λ h. push_up count ps (started (length ps + 1) name function arguments) h tt)
answered_after count ps caller native _ _ (names_one name pid p value e free) = (omega arith, λ h. renamed_up count ps pid p (Some name) e h)
answered_after count ps caller native _ _ (unnames_one pid p value e) = (omega arith, λ h. renamed_up count ps pid p None e h)
answered_after count ps caller native _ _ (posts_one to signal value plain) = (omega arith, λ h. posted_up count ps to signal h)
answered_after count ps caller native _ _ (makes_one value) = (omega arith, λ h. all_more count (count + 1) ps (omega arith) h)
answered_after count ps caller native _ _ (monitors_one watched value is) = (omega arith, λ h. monitored_up count ps caller watched h)

answer_after : (count : ℕ) (ps : List Process) (caller : ℕ) (native : NodeNative) (ts : List TermValue) → After count ps (answer_of count ps caller native ts)
answer_after count ps caller native ts = answered_after count ps caller native _ _ (answer_is count ps caller native ts)

-- ---- rows

-- the count doesn't fall, and references that rise before rise after
abbrev pub Ups : State → State → Type 0
Ups s t = (s.references ≤ t.references) × (AreRising s.references s.processes → AreRising t.references t.processes)

same_up : (s t : State) → t.references ≡ s.references → (AreRising s.references s.processes → AreRising s.references t.processes) → Ups s t
same_up s t e f =
    let le : s.references ≤ t.references = omega (arith, e) in
    (le, λ h. subst (λ n. AreRising n t.processes) (sym e) (f h))

then_up : (s t u : State) → Ups s t → Ups t u → Ups s u
then_up s t u a b = (omega (arith, a.0, b.0), λ h. b.1 (a.1 h))

-- after an exception the monitors are some of those before
unwound_part : (p : Process) (e : Exception) (frames : List Frame) → ArePart p.monitors (unwound p e frames).monitors
unwound_part p e [] = none_are p.monitors
unwound_part p e (frame ∷ older) = caught (tag_of frame.y) (unwound_part p e older)
  where
    caught : (o : Option Tag) → ArePart p.monitors (unwound p e older).monitors → ArePart p.monitors (caught_at p e (frame ∷ older) (unwound p e older) o).monitors
    caught (Some tag) behind = all_are p.monitors
    caught None behind = behind

returns_part : (p : Process) (frames : List Frame) → ArePart p.monitors (returns_from p frames).monitors
returns_part p [] = unwound_part p (exception.Fault IllegalOperand) p.frames
returns_part p (frame ∷ older) = go (is_some frame.y) frame.back
  where
    go : (b : Bool) (back : Option Place) → ArePart p.monitors (cond b (illegal p) (returns_to p older back)).monitors
    go true back = unwound_part p (exception.Fault IllegalOperand) p.frames
    go false (Some place) = all_are p.monitors
    go false None = none_are p.monitors

answers_part : (p : Process) (after : After') (value : Result TermValue Exception) → ArePart p.monitors (answers p after value).monitors
answers_part p (NextRow place) (Ok value) = all_are p.monitors
answers_part p Return (Ok value) = returns_part (put_x p 0 value) p.frames
answers_part p after (Err e) = unwound_part p e p.frames

put_rises : (s : State) (pid : ℕ) (p q : Process) → process_of s.processes pid ≡ Some p → ArePart p.monitors q.monitors → AreRising s.references s.processes → Rises s.references q
put_rises s pid p q e part h = rise_part s.references p.monitors q.monitors part (subst (RisesIf s.references) e (process_up s.references s.processes pid h))

continues_up : (s : State) (pid : ℕ) (after : After') (value : Result TermValue Fault) (o : Option Process) → process_of s.processes pid ≡ o → Ups s (continues s pid after value o)
continues_up s pid after value None e = same_up s s refl (λ h. h)
continues_up s pid after value (Some x) e =
    let q : Process = answers x after (raised value) in
    same_up s (continues s pid after value (Some x)) refl (λ h.
    made_up s.references s.processes pid q h
    (rise_part s.references x.monitors q.monitors (answers_part x after (raised value)) (subst (RisesIf s.references) e (process_up s.references s.processes pid h))))

pub done_up : (s : State) (pid : ℕ) (p : Process) (o : Outcome) → process_of s.processes pid ≡ Some p → MonitorsNoMore p.monitors o → Ups s (done_by s pid o)
done_up s pid p (makes q) e part =
    same_up s (done_by s pid (makes q)) refl (λ h. made_up s.references s.processes pid q h (put_rises s pid p q e part h))
done_up s pid p (sends q to signal) e part =
    same_up s (done_by s pid (sends q to signal)) refl (λ h.
    posted_up s.references (with_process s.processes pid q) to signal (set_up s.references s.processes (pid - 1) q h (put_rises s pid p q e part h)))
done_up s pid p (sleeps q n place) e part =
    same_up s (done_by s pid (sleeps q n place)) refl (λ h. set_up s.references s.processes (pid - 1) (record q { deadline = _ }) h (put_rises s pid p q e part h))
done_up s pid p (asks q native arity after) e part =
    let ps : List Process = with_process s.processes pid q in
    let ts : List TermValue = arguments_of q arity in
    let a : Answered = answer_of s.references ps pid native ts in
    let t : State = record s { processes = a.processes; references = unwrap_or a.made s.references } in
    let asked = answer_after s.references ps pid native ts in
    let first : Ups s t = (asked.0, λ h. asked.1 (set_up s.references s.processes (pid - 1) q h (put_rises s pid p q e part h))) in
    then_up s t (continues t pid after a.value (process_of a.processes pid)) first (continues_up t pid after a.value (process_of a.processes pid) refl)

row_and_up : (s : State) (pid : ℕ) (rest : State → Rows) (o : Option Process) → process_of s.processes pid ≡ o → ((t : State) → Ups t (rest t).state) → Ups s (row_and rest s pid (running o)).state
row_and_up s pid rest None e more = same_up s s refl (λ h. h)
row_and_up s pid rest (Some p) e more = go (is_running p.status) refl
  where
    go : (b : Bool) → is_running p.status ≡ b → Ups s (row_and rest s pid (cond b (Some p) None)).state
    go false r = same_up s s refl (λ h. h)
    go true r =
        then_up s (row s pid p) (rest (row s pid p)).state (done_up s pid p (outcome s.code p) e (row_part s.code p (runs_on p.status r))) (more (row s pid p))

steps_up : (n : ℕ) (s : State) (pid : ℕ) → Ups s (steps s pid n).state
steps_up zero s pid = same_up s s refl (λ h. h)
steps_up (suc n) s pid = row_and_up s pid (λ t. steps t pid n) (process_of s.processes pid) refl (λ t. steps_up n t pid)

-- ---- events

live_rises : (s : State) (pid : ℕ) (p : Process) → live_process s.processes pid ≡ Some p → AreRising s.references s.processes → Rises s.references p
live_rises s pid p e h = subst (RisesIf s.references) e (live_up s.references s.processes pid h)

same_of : (s : State) (ps : List Process) → (AreRising s.references s.processes → AreRising s.references ps) → (s.references ≤ s.references) × (AreRising s.references s.processes → AreRising s.references ps)
same_of s ps f = (omega arith, f)

touched_up : (t : Touch) (s u : State) → Touches t s u → Ups s u
touched_up _ _ _ (stays t s) = same_of s s.processes (λ h. h)
touched_up _ _ _ (in_turn t s u v first second) = then_up s u v (touched_up t s u first) (touched_up t u v second)
touched_up _ _ _ (loads s l) = same_of s (killing (lingers_in_old s.code l.name) s.processes) (λ h. killing_up s.references (lingers_in_old s.code l.name) s.processes h)
touched_up _ _ _ (deletes s name e) = same_of s s.processes (λ h. h)
touched_up _ _ _ (ends s ls) =
    let test : Process → Bool = lingers_in_olds s.code (map (λ l. l.name) ls) in
    same_of s (killing test s.processes) (λ h. killing_up s.references test s.processes h)
touched_up _ _ _ (purges s name) = same_of s (killing (lingers_in_old s.code name) s.processes) (λ h. killing_up s.references (lingers_in_old s.code name) s.processes h)
touched_up _ _ _ (runs s pid n) = steps_up n s pid
touched_up _ _ _ (arrives s pid p e) =
    let q : Process = delivered (record p { transit = [] }) p.transit in
    same_of s (with_made s.processes pid q) (λ h.
    made_up s.references s.processes pid q h (rise_part s.references p.monitors q.monitors (delivered_part p.transit (record p { transit = [] })) (live_rises s pid p e h)))
touched_up _ _ _ (times_out s pid p d e is) =
    let q : Process = record (goes_on p d.after) { deadline = None; status = Running } in
    same_of s (with_process s.processes pid q) (λ h. set_up s.references s.processes (pid - 1) q h (live_rises s pid p e h))
touched_up _ _ _ (ticks s now later) = same_of s s.processes (λ h. h)
touched_up _ _ _ (posts s to signal) = same_of s (posted s.processes to signal) (λ h. posted_up s.references s.processes to signal h)
touched_up _ _ _ (starts s name function arguments) =
    let new : Process = started (length s.processes + 1) name function arguments in
    same_of s (s.processes ++ new ∷ []) (λ h. push_up s.references s.processes new h tt)

pub next_rises : (s : State) (e : Event Listing) → Ups s (next s e).state
next_rises s e = touched_up (touch_of e) s (next s e).state (next_touches s e)

pub run_rises : (s : State) (events : List (Event Listing)) → AreRising s.references s.processes → AreRising (run s events).state.references (run s events).state.processes
run_rises s [] h = h
run_rises s (e ∷ events) h = run_rises (next s e).state events ((next_rises s e).1 h)

pub run_count : (s : State) (events : List (Event Listing)) → s.references ≤ (run s events).state.references
run_count s [] = omega arith
run_count s (e ∷ events) = omega (arith, (next_rises s e).0, run_count (next s e).state events)
