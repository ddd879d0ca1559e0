-- A process after events of others: its name and the signals in transit to it may change, and a change of code may end it.
use Rattle.std.proofs.Common.{◌≡◌, ℕ, zero, suc, ◌-◌, ◌==◌, Bool, true, false, cond, not, nat_lt, List, [], ◌∷◌, ◌++◌, ◌⊎◌, inl, inr, slice_get, refl, sym, ap, subst, ◌∙◌, map, flat_map, Option, Some, None, option_map}
use Rattle.std.proofs.lemmas.Option.{slice_get-map}
use Rattle.beam_machine.specs.declared.debug.DebugEvent.{DebugEvent}
use Rattle.beam_machine.specs.declared.debug.DebugEvent.TheVariants.{StepOne, Node as NodeEvent}
use Rattle.beam_machine.specs.declared.event.Event.{Event}
use Rattle.beam_machine.specs.declared.process.Signal.{Signal}
use Rattle.beam_machine.specs.Prelude.{lingers_in_old, lingers_in_olds, pids_of, ends_or_hears, killing, Debugged, DebugAnswer, debug_next, rows_of_answer, steps_of, erased, Process, is_ended, ended, killed, State, process_of, with_signals, downs, next, run, Touch, code, process, nothing, touch_of, Touches, stays, in_turn, loads, deletes, ends, purges}
use Rattle.beam_term.specs.Prelude.{nil_term}
use Rattle.beam_machine.specs.declared.event.Event.TheVariants as event
use Rattle.beam_model.specs.Prelude.{Listing}
use Rattle.beam_machine.specs.Touch.{clock}
use Rattle.beam_laws.specs.Prelude.{with_name_and_transit, IsStill, is_of_others, touches_others, sent, signals_to, is_of, is_busy, touches_process}
use Rattle.beam_laws.proofs.Debugging.{run_erased}
use Rattle.beam_laws.proofs.Private.{having_having, having_own}
use Rattle.beam_laws.proofs.Slices.{having_status}
use Rattle.beam_laws.proofs.Waiting.{others_leave, given}
use Rattle.beam_laws.proofs.Touching.{next_touches}

-- the second process has ended, or is the first with another name and other signals in transit
abbrev pub Left : Process → Process → Type 0
Left q z = (is_ended z.status ≡ true) ⊎ ((name : Option (List ℕ)) × (transit : List Signal) × (z ≡ with_name_and_transit name transit q))

-- ---- a process that was still another

pub still_left : (p q z : Process) → IsStill p q → Left q z → (is_ended z.status ≡ true) ⊎ IsStill p z
still_left p q z still (inl over) = inl over
still_left p q z still (inr (name, transit, is)) =
    let again : z ≡ with_name_and_transit name transit p = is ∙ (ap (with_name_and_transit name transit) still ∙ having_having name q.name transit q.transit p) in
    inr (subst (IsStill p) (sym again) (given name transit p))

pub ended_left : (q z : Process) → is_ended q.status ≡ true → Left q z → is_ended z.status ≡ true
ended_left q z over (inl e) = e
ended_left q z over (inr (name, transit, is)) = ap (λ x. is_ended x.status) is ∙ (ap is_ended (having_status name transit q) ∙ over)

left_more : (q y z : Process) → Left q y → Left y z → Left q z
left_more q y z h (inl over) = inl over
left_more q y z (inl over) (inr k) = inl (ended_left y z over (inr k))
left_more q y z (inr (name, transit, is)) (inr (other, more, as')) = inr (other, more, as' ∙ (ap (with_name_and_transit other more) is ∙ having_having other name more transit q))

-- ---- events of the node

module _ (pid : ℕ) where
  abbrev pub Leaves : List Process → List Process → Type 0
  Leaves ps qs = (q : Process) → process_of ps pid ≡ Some q → (z : Process) × (process_of qs pid ≡ Some z) × Left q z

  leaves_all : (ps : List Process) → Leaves ps ps
  leaves_all ps q e = (q, e, inr (q.name, q.transit, sym (having_own q)))

  by_others : (s : State) (e : Event Listing) → is_of_others pid e ≡ true → Leaves s.processes (next s e).state.processes
  by_others s e h q at =
      let left = others_leave s (e ∷ []) pid q (h, tt) at in
      let transit : List Signal = q.transit ++ signals_to pid (sent s (e ∷ [])) in
      (with_name_and_transit left.1.0 transit q, left.1.1, inr (left.1.0, transit, refl))

  -- a change of code ends the processes that linger in an old instance
  mapped : (f : Process → Process) (ps : List Process) (q : Process) → process_of ps pid ≡ Some q → process_of (map f ps) pid ≡ Some (f q)
  mapped f ps q = elim (nat_lt 0 pid) as (λ b. cond b (slice_get ps (pid - 1)) None ≡ Some q → cond b (slice_get (map f ps) (pid - 1)) None ≡ Some (f q)) [
    | true ↦ λ e. slice_get-map f ps (pid - 1) ∙ ap (option_map f) e
    | false ↦ λ e. cc
  ]

  killing_leaves : (test : Process → Bool) (ps : List Process) → Leaves ps (killing test ps)
  killing_leaves test ps q e =
      let signals : List Signal = flat_map (λ at. downs at killed q.monitors) (pids_of test ps) in
      (ends_or_hears test (pids_of test ps) q, mapped (ends_or_hears test (pids_of test ps)) ps q e, by signals (test q))
    where
      by : (signals : List Signal) (b : Bool) → Left q (cond b (ended q killed nil_term) (with_signals signals q))
      by signals true = inl refl
      by signals false = inr (q.name, q.transit ++ signals, refl)

  leaves_more : (ps qs rs : List Process) → Leaves ps qs → Leaves qs rs → Leaves ps rs
  leaves_more ps qs rs first then q at =
      let one = first q at in
      let two = then one.0 one.1 in
      (two.0, two.1, left_more q one.0 two.0 one.2 two.2)

  code_leaves : (t : Touch) (s u : State) → Touches t s u → t ≡ code → Leaves s.processes u.processes
  code_leaves _ _ _ (stays t s) is = leaves_all s.processes
  code_leaves _ _ _ (in_turn t s u v first second) is = leaves_more s.processes u.processes v.processes (code_leaves t s u first is) (code_leaves t u v second is)
  code_leaves _ _ _ (loads s l) is = killing_leaves (lingers_in_old s.code l.name) s.processes
  code_leaves _ _ _ (deletes s name e) is = leaves_all s.processes
  code_leaves _ _ _ (purges s name) is = killing_leaves (lingers_in_old s.code name) s.processes
  code_leaves _ _ _ (ends s ls) is = killing_leaves (lingers_in_olds s.code (map (λ l. l.name) ls)) s.processes
  code_leaves _ _ _ _ is = cc

  next_leaves : (s : State) (e : Event Listing) → is_of pid e ≡ false → Leaves s.processes (next s e).state.processes
  next_leaves s e h = by (touch_of e) refl
    where
      by : (t : Touch) → touch_of e ≡ t → Leaves s.processes (next s e).state.processes
      by code is = code_leaves (touch_of e) s (next s e).state (next_touches s e) is
      by (process at) is = by_others s e (ap (touches_others pid) is ∙ ap not (sym (ap (touches_process pid) is) ∙ h))
      by clock is = by_others s e (ap (touches_others pid) is)
      by nothing is = by_others s e (ap (touches_others pid) is)

  -- ---- events of the debugger

  rows_leave : (s : State) (at count : ℕ) → (at == pid) ≡ false → Leaves s.processes (run s (steps_of at count ++ [])).state.processes
  rows_leave s at zero h = leaves_all s.processes
  rows_leave s at (suc count) h = by_others s (event.Steps at (suc count)) (ap not h)

  erased_leaves : (s : State) (e : DebugEvent Listing) (a : DebugAnswer) → is_busy pid e ≡ false → Leaves s.processes (run s (erased e a ++ [])).state.processes
  erased_leaves s (NodeEvent (event.Steps at n)) a h = rows_leave s at (rows_of_answer a) h
  erased_leaves s (NodeEvent e) a h = next_leaves s e h
  erased_leaves s (StepOne at) a h = rows_leave s at (rows_of_answer a) h
  erased_leaves s e a h = leaves_all s.processes

  pub event_leaves : (d : Debugged) (e : DebugEvent Listing) → is_busy pid e ≡ false → Leaves d.node.processes (debug_next d e).state.node.processes
  event_leaves d e h = subst (λ (t : State). Leaves d.node.processes t.processes) (run_erased d (e ∷ [])) (erased_leaves d.node e (debug_next d e).answer h)
