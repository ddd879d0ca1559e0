-- The end of a process is final.
use Rattle.std.proofs.Common.{◌≡◌, ◌≢◌, ℕ, zero, suc, ◌+◌, ◌-◌, Bool, true, false, cond, nat_lt, List, [], ◌∷◌, ◌++◌, length, map, slice_get, refl, sym, ap, subst, ◌∙◌, true≢false, Option, Some, None, Result, option_map, unwrap_or, slice_set, flat_map, codes}
use Rattle.std.proofs.lemmas.Option.{slice_get-map, same_Some}
use Rattle.beam_model.specs.declared.exception.Fault.{Fault}
use Rattle.beam_model.specs.declared.native.NodeNative.{NodeNative}
use Rattle.beam_model.specs.Prelude.{Listing}
use Rattle.beam_machine.specs.declared.event.Event.{Event}
use Rattle.beam_machine.specs.declared.process.Status.{Status}
use Rattle.beam_machine.specs.declared.process.Status.TheVariants.{Running, Waiting, Ended}
use Rattle.beam_machine.specs.declared.process.Signal.{Signal}
use Rattle.beam_machine.specs.declared.process.Signal.TheVariants.{Down}
use Rattle.beam_machine.specs.Prelude.{Process, is_running, is_ended, started, ended, killed, Outcome, makes, sends, asks, sleeps, answers, outcome, own_number, arguments_of, State, process_of, with_process, alive, live_process, posted_to, posted, with_signals, downs, hearing_by, lingers, old_of, lingers_in_old, lingers_in_olds, pids_of, ends_or_hears, killing, Answered, is_alive, or_noproc, put_monitor, monitored, answer_of, Rows, raised, delivered, continues, done_by, row, running, row_and, next, run, Touch, touch_of, Touches, stays, in_turn, loads, deletes, ends, purges, runs, arrives, times_out, ticks, posts, starts, Sent}
use Rattle.beam_machine.specs.declared.callee.After.{After}
use Rattle.beam_term.specs.Prelude.{TermValue, atom_term, nil_term}
use Rattle.beam_machine.specs.Next.{steps}
use Rattle.beam_laws.proofs.Hearing.{gets_none, lingers_not, in_olds_not}
use Rattle.beam_laws.proofs.Touching.{next_touches}
use Rattle.beam_laws.proofs.NodeAnswers.{Answers, keeps_all, starts_one, names_one, unnames_one, posts_one, makes_one, monitors_one, answer_is}

-- ---- how a process stands

pub runs_on : (status : Status) → is_running status ≡ true → is_ended status ≡ false
runs_on Running e = refl
runs_on Waiting e = refl
runs_on (Ended reason value) e = cc

pub running_is : (o : Option Process) (q : Process) → running o ≡ Some q → (o ≡ Some q) × (is_ended q.status ≡ false)
running_is None q e = cc
running_is (Some x) q e = by (is_running x.status) refl e
  where
    by : (b : Bool) → is_running x.status ≡ b → cond b (Some x) None ≡ Some q → (Some x ≡ Some q) × (is_ended q.status ≡ false)
    by true r h = (h, subst (λ y. is_ended y.status ≡ false) (same_Some x q h) (runs_on x.status r))
    by false r h = cc

pub alive_is : (o : Option Process) (q : Process) → alive o ≡ Some q → (o ≡ Some q) × (is_ended q.status ≡ false)
alive_is None q e = cc
alive_is (Some x) q e = by (is_ended x.status) refl e
  where
    by : (b : Bool) → is_ended x.status ≡ b → cond b None (Some x) ≡ Some q → (Some x ≡ Some q) × (is_ended q.status ≡ false)
    by true r h = cc
    by false r h = (h, subst (λ y. is_ended y.status ≡ false) (same_Some x q h) r)

-- ---- one process in the list

pub at_index : (ps : List Process) (pid : ℕ) (p : Process) → process_of ps pid ≡ Some p → slice_get ps (pid - 1) ≡ Some p
at_index ps pid p = elim (nat_lt 0 pid) as (λ b. cond b (slice_get ps (pid - 1)) None ≡ Some p → slice_get ps (pid - 1) ≡ Some p) [
  | true ↦ λ e. e
  | false ↦ λ e. cc
]

pub get_set : (ps : List Process) (i j : ℕ) (q : Process) → i ≢ j → slice_get (slice_set ps i q) j ≡ slice_get ps j
get_set [] i j q ne = refl
get_set (p ∷ ps) zero zero q ne = absurd (ne refl)
get_set (p ∷ ps) zero (suc j) q ne = refl
get_set (p ∷ ps) (suc i) zero q ne = refl
get_set (p ∷ ps) (suc i) (suc j) q ne = get_set ps i j q (λ e. ne (ap suc e))

pub get_push : (ps : List Process) (j : ℕ) (p q : Process) → slice_get ps j ≡ Some p → slice_get (ps ++ q ∷ []) j ≡ Some p
get_push [] j p q e = cc
get_push (x ∷ ps) zero p q e = e
get_push (x ∷ ps) (suc j) p q e = get_push ps j p q e

module _ (pid : ℕ) (p : Process) (over : is_ended p.status ≡ true) (nowhere : (number : ℕ) → lingers number p ≡ false) where
  abbrev Stays : List Process → Type 0
  Stays ps = process_of ps pid ≡ Some p

  -- a process that hasn't ended is another
  other : (ps : List Process) (at : ℕ) (q : Process) → Stays ps → process_of ps at ≡ Some q → is_ended q.status ≡ false → at - 1 ≢ pid - 1
  other ps at q h there lives e =
      let one : q ≡ p = same_Some q p (sym (at_index ps at q there) ∙ (ap (slice_get ps) e ∙ at_index ps pid p h)) in
      true≢false (sym over ∙ (ap (λ x. is_ended x.status) (sym one) ∙ lives))

  set_stays : (ps : List Process) (at : ℕ) (q : Process) → at - 1 ≢ pid - 1 → Stays ps → Stays (with_process ps at q)
  set_stays ps at q ne = elim (nat_lt 0 pid) as (λ b. cond b (slice_get ps (pid - 1)) None ≡ Some p → cond b (slice_get (slice_set ps (at - 1) q) (pid - 1)) None ≡ Some p) [
    | true ↦ λ e. get_set ps (at - 1) (pid - 1) q ne ∙ e
    | false ↦ λ e. e
  ]

  push_stays : (ps : List Process) (q : Process) → Stays ps → Stays (ps ++ q ∷ [])
  push_stays ps q = elim (nat_lt 0 pid) as (λ b. cond b (slice_get ps (pid - 1)) None ≡ Some p → cond b (slice_get (ps ++ q ∷ []) (pid - 1)) None ≡ Some p) [
    | true ↦ λ e. get_push ps (pid - 1) p q e
    | false ↦ λ e. e
  ]

  map_stays : (f : Process → Process) (ps : List Process) → f p ≡ p → Stays ps → Stays (map f ps)
  map_stays f ps same = elim (nat_lt 0 pid) as (λ b. cond b (slice_get ps (pid - 1)) None ≡ Some p → cond b (slice_get (map f ps) (pid - 1)) None ≡ Some p) [
    | true ↦ λ e. slice_get-map f ps (pid - 1) ∙ (ap (option_map f) e ∙ ap Some same)
    | false ↦ λ e. cc
  ]

  -- a write to a process that hasn't ended
  live_stays : (ps : List Process) (at : ℕ) (x q : Process) → live_process ps at ≡ Some x → Stays ps → Stays (with_process ps at q)
  live_stays ps at x q e h =
      let a = alive_is (process_of ps at) x e in
      set_stays ps at q (other ps at x h a.0 a.1) h

  posted_stays : (ps : List Process) (to : ℕ) (signal : Signal) (o : Option Process) → live_process ps to ≡ o → Stays ps → Stays (posted_to ps to signal o)
  posted_stays ps to signal None e h = h
  posted_stays ps to signal (Some x) e h = live_stays ps to x _ e h

  -- ---- natives of the node

  -- the caller keeps one monitor more
  watching_stays : (ps : List Process) (caller n : ℕ) (watched : TermValue) (o : Option Process) → live_process ps caller ≡ o → Stays ps → Stays (put_monitor ps caller n watched o)
  watching_stays ps caller n watched None e h = h
  watching_stays ps caller n watched (Some x) e h = live_stays ps caller x _ e h

  noproc_stays : (ps : List Process) (caller n : ℕ) (watched : TermValue) → Stays ps → Stays (or_noproc ps caller n watched)
  noproc_stays ps caller n watched h =
      let signal : Signal = Down n (atom_term (codes "noproc")) in
      elim (is_alive ps (own_number watched)) as (λ b. Stays (cond b ps (posted ps caller signal))) [ true ↦ h | false ↦ posted_stays ps caller signal (live_process ps caller) refl h ]

  monitored_stays : (ps : List Process) (caller : ℕ) (watched : TermValue) (n : ℕ) → Stays ps → Stays (monitored ps caller watched n)
  monitored_stays ps caller watched n h =
      let qs : List Process = or_noproc ps caller n watched in
      watching_stays qs caller n watched (live_process qs caller) refl (noproc_stays ps caller n watched h)

  answered_stays : (references : ℕ) (ps : List Process) (caller : ℕ) (native : NodeNative) (xs : List Sent) (a : Answered) → Stays ps → Answers references ps caller native xs a
      → Stays a.processes
  answered_stays references ps caller native _ _ h (keeps_all value) = h
  answered_stays references ps caller native _ _ h (starts_one name function arguments value) = push_stays ps (started (length ps + 1) name function arguments) h
  answered_stays references ps caller native _ _ h (names_one name at x value e free) = live_stays ps at x _ e h
  answered_stays references ps caller native _ _ h (unnames_one at x value e) = live_stays ps at x _ e h
  answered_stays references ps caller native _ _ h (posts_one to signal value plain) = posted_stays ps to signal (live_process ps to) refl h
  answered_stays references ps caller native _ _ h (makes_one value) = h
  answered_stays references ps caller native _ _ h (monitors_one watched value is) = monitored_stays ps caller watched (references + 1) h

  answer_stays : (references : ℕ) (ps : List Process) (caller : ℕ) (native : NodeNative) (ts : List TermValue) → Stays ps → Stays (answer_of references ps caller native ts).processes
  answer_stays references ps caller native ts h = answered_stays references ps caller native _ _ h (answer_is references ps caller native ts)

  -- ---- rows

  -- the DOWNs of an end leave ended processes as they are
  hearing_stays : (at : ℕ) (status : Status) (ps : List Process) → Stays ps → Stays (hearing_by at status ps)
  hearing_stays at Running ps h = h
  hearing_stays at Waiting ps h = h
  hearing_stays at (Ended reason value) ps h = map_stays (λ q. with_signals (downs at reason q.monitors) q) ps (gets_none (downs at reason p.monitors) p over) h

  continues_stays : (s : State) (at : ℕ) (after : After) (value : Result TermValue Fault) (o : Option Process) → at - 1 ≢ pid - 1 → Stays s.processes → Stays (continues s at after value o).processes
  continues_stays s at after value None ne h = h
  continues_stays s at after value (Some q) ne h =
      let r : Process = answers q after (raised value) in
      hearing_stays at r.status (with_process s.processes at r) (set_stays s.processes at r ne h)

  done_stays : (s : State) (at : ℕ) (o : Outcome) → at - 1 ≢ pid - 1 → Stays s.processes → Stays (done_by s at o).processes
  done_stays s at (makes q) ne h = hearing_stays at q.status (with_process s.processes at q) (set_stays s.processes at q ne h)
  done_stays s at (sends q to signal) ne h =
      let ps = with_process s.processes at q in
      posted_stays ps to signal (live_process ps to) refl (set_stays s.processes at q ne h)
  done_stays s at (asks q native arity after) ne h =
      let ps = with_process s.processes at q in
      let a = answer_of s.references ps at native (arguments_of q arity) in
      continues_stays (record s { processes = a.processes; references = unwrap_or a.made s.references }) at after a.value (process_of a.processes at) ne (answer_stays s.references ps at native (arguments_of q arity) (set_stays s.processes at q ne h))
  done_stays s at (sleeps q n place) ne h = set_stays s.processes at _ ne h

  row_and_stays : (s : State) (at : ℕ) (rest : State → Rows) (o : Option Process) → running (process_of s.processes at) ≡ o → ((t : State) → Stays t.processes → Stays (rest t).state.processes) → Stays s.processes → Stays (row_and rest s at o).state.processes
  row_and_stays s at rest None e more h = h
  row_and_stays s at rest (Some q) e more h =
      let r = running_is (process_of s.processes at) q e in
      more (row s at q) (done_stays s at (outcome s.code q) (other s.processes at q h r.0 r.1) h)

  steps_stays : (n : ℕ) (s : State) (at : ℕ) → Stays s.processes → Stays (steps s at n).state.processes
  steps_stays zero s at h = h
  steps_stays (suc n) s at h = row_and_stays s at (λ t. steps t at n) (running (process_of s.processes at)) refl (λ t. steps_stays n t at) h

  -- ---- events

  killing_stays : (test : Process → Bool) (ps : List Process) → test p ≡ false → Stays ps → Stays (killing test ps)
  killing_stays test ps spared h =
      let signals : List Signal = flat_map (λ at. downs at killed p.monitors) (pids_of test ps) in
      map_stays (ends_or_hears test (pids_of test ps)) ps (ap (λ b. cond b (ended p killed nil_term) (with_signals signals p)) spared ∙ gets_none signals p over) h

  touched_stays : (t : Touch) (s u : State) → Touches t s u → Stays s.processes → Stays u.processes
  touched_stays _ _ _ (stays t s) h = h
  touched_stays _ _ _ (in_turn t s u v first second) h = touched_stays t u v second (touched_stays t s u first h)
  touched_stays _ _ _ (loads s l) h = killing_stays (lingers_in_old s.code l.name) s.processes (lingers_not (old_of s.code l.name) p nowhere) h
  touched_stays _ _ _ (deletes s name e) h = h
  touched_stays _ _ _ (purges s name) h = killing_stays (lingers_in_old s.code name) s.processes (lingers_not (old_of s.code name) p nowhere) h
  touched_stays _ _ _ (ends s ls) h =
      let names : List (List ℕ) = map (λ l. l.name) ls in
      killing_stays (lingers_in_olds s.code names) s.processes (in_olds_not s.code names p nowhere) h
  touched_stays _ _ _ (runs s at n) h = steps_stays n s at h
  touched_stays _ _ _ (arrives s at q e) h =
      let r : Process = delivered (record q { transit = [] }) q.transit in
      hearing_stays at r.status (with_process s.processes at r) (live_stays s.processes at q r e h)
  touched_stays _ _ _ (times_out s at q d e is) h = live_stays s.processes at q _ e h
  touched_stays _ _ _ (ticks s now later) h = h
  touched_stays _ _ _ (posts s to signal) h = posted_stays s.processes to signal (live_process s.processes to) refl h
  touched_stays _ _ _ (starts s name function arguments) h = push_stays s.processes (started (length s.processes + 1) name function arguments) h

  next_stays : (s : State) (e : Event Listing) → Stays s.processes → Stays (next s e).state.processes
  next_stays s e h = touched_stays (touch_of e) s (next s e).state (next_touches s e) h

  pub final : (s : State) (events : List (Event Listing)) → Stays s.processes → Stays (run s events).state.processes
  final s [] h = h
  final s (e ∷ events) h = final (next s e).state events (next_stays s e h)
