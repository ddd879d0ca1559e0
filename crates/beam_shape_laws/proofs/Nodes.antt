-- In a framed node each row finds what it names; each event, whose listings can be loaded, keeps it framed.
use Rattle.std.proofs.Common.{◌≡◌, ℕ, suc, zero, cond, Bool, true, false, List, [], ◌∷◌, ◌++◌, refl, sym, subst, arith, Option, Some, None, Ok, Err}
use Rattle.std.proofs.Math.Bool.{Bool-set}
use Rattle.std.proofs.Math.Logic.{∥∥₁_elim, ∥∥₁_map₂}
use Rattle.std.specs.List.{AllByRecursion, AllByRecursion-prop}
use Rattle.beam_machine.specs.declared.debug.DebugEvent.{DebugEvent}
use Rattle.beam_machine.specs.declared.debug.DebugEvent.TheVariants.{StepOne, Node as NodeEvent}
use Rattle.beam_machine.specs.declared.event.Event.{Event}
use Rattle.beam_machine.specs.declared.event.Refused.TheVariants.{NoMemory}
use Rattle.beam_machine.specs.declared.event.Reply.TheVariants.{Ran}
use Rattle.beam_machine.specs.declared.action.Action.{Action}
use Rattle.beam_machine.specs.declared.action.Step.{Step}
use Rattle.beam_machine.specs.declared.process.Goes.TheVariants.{At, Enter, Nowhere}
use Rattle.beam_machine.specs.Prelude.{Code, step_of, Debugged, DebugAnswer, DebugNext, debug_next, rows_of_answer, steps_of, erased, erase, debug_cut_event, DebugAnswers, Answer, Next, next, Private, private_by, private_rows, private_to_spot, stops, after_row, Process, is_running, Outcome, makes, sends, asks, sleeps, outcome, run, cut_event, Answers, State, empty, process_of}
use Rattle.beam_model.specs.Prelude.{IsWellFormed, CanLoad, Listing, Place}
use Rattle.beam_machine.specs.declared.debug.DebugReply.TheVariants.{Node}
use Rattle.beam_machine.specs.declared.event.Event.TheVariants as event
use Rattle.beam_machine.specs.declared.process.Goes.{Goes}
use Rattle.beam_machine.specs.Next.{steps}
use Rattle.beam_laws.specs.Prelude.{Ordered}
use Rattle.beam_laws.proofs.Debugging.{run_erased}
use Rattle.beam_laws.proofs.Events.{steps_alike}
use Rattle.beam_laws.proofs.Spots.{spot_prefix}
use Rattle.beam_shape_laws.specs.Finds.{reads, writes, targets, HasValue, IsThere, HasRow, Finds, FindsAt, FindsNext}
use Rattle.beam_shape_laws.specs.Shaped.{IsShaped, IsFramedNode, LoadsFramed, LoadFramed, DebugLoadsFramed}
use Rattle.beam_shape_laws.proofs.Outcomes.{outcome_right}
use Rattle.beam_shape_laws.proofs.Processes.{IsShapedIf, process_shaped}
use Rattle.beam_shape_laws.proofs.Actions.{Comes, Enters}
use Rattle.beam_shape_laws.proofs.Events.{is_running_status, RowsLawful, Loads, rows_lawful, steps_right, framing_next}

-- ---- framed nodes

gathered : (ls : List Listing) → AllByRecursion CanLoad ls → ∥ AllByRecursion IsWellFormed ls ∥₁
gathered [] h = ∣ tt ∣₁
gathered (l ∷ ls) h = ∥∥₁_map₂ h.0 (gathered ls h.1) (λ a b. (a, b))

loads : (e : Event Listing) → LoadsFramed e → ∥ Loads e ∥₁
loads (event.Load l) h = h
loads (event.LoadStrict l) h = h
loads (event.AtomicLoad mode ls) h = gathered ls h
loads _ h = ∣ tt ∣₁

pub next_framed : (s : State) (e : Event Listing) → LoadsFramed e → IsFramedNode s → IsFramedNode (next s e).state
next_framed s e w h = ∥∥₁_map₂ (loads e w) h (λ w h. framing_next s e w h)

none_in_empty : Ordered [] 0
none_in_empty n = (omega arith, λ e. refl)

pub empty_framed : IsFramedNode empty
empty_framed = ∣ (tt, none_in_empty, tt) ∣₁

run_framed : (s : State) (events : List (Event Listing)) → LoadFramed events → IsFramedNode s → IsFramedNode (run s events).state
run_framed s [] w h = h
run_framed s (e ∷ events) w h = run_framed (next s e).state events w.1 (next_framed s e w.0 h)

pub reached_framed : (events : List (Event Listing)) → LoadFramed events → IsFramedNode (run empty events).state
reached_framed events w = run_framed empty events w empty_framed

-- where memory may be refused

event_cut_framed : (e : Event Listing) (a : Answer) → LoadsFramed e → LoadsFramed (cut_event e a)
event_cut_framed (event.Steps pid n) (Ok (Ran count after)) w = tt
event_cut_framed (event.Steps pid n) a w = tt
event_cut_framed e a w = w

pub answered_framed : (s t : State) (e : Event Listing) (a : Answer) → Answers s e a t → LoadsFramed e → IsFramedNode s → IsFramedNode t
answered_framed s t e (Err NoMemory) h w k = subst IsFramedNode (sym h) k
answered_framed s t e (Ok reply) h w k = subst (λ (x : Next). IsFramedNode x.state) h (next_framed s (cut_event e (Ok reply)) (event_cut_framed e (Ok reply) w) k)
answered_framed s t e (Err refusal) h w k = subst (λ (x : Next). IsFramedNode x.state) h (next_framed s (cut_event e (Err refusal)) (event_cut_framed e (Err refusal) w) k)

-- ---- the rows of a process

-- there is one proof that a row finds what it names
finds_once : (a : Action) (p : Process) → IsProp (Finds a p)
finds_once a p = λ x y i. (
  AllByRecursion-prop (HasValue p) (λ s. Bool-set _ _) (reads a) x.0 y.0 i,
  AllByRecursion-prop (IsThere p) (λ r. Bool-set _ _) (writes a) x.1 y.1 i,
  Bool-set _ _ x.2 y.2 i,
  AllByRecursion-prop HasRow (λ t. Bool-set _ _) (targets a) x.3 y.3 i,
)

at_once : (o : Option Step) (p : Process) → IsProp (FindsAt o p)
at_once (Some step) p = finds_once step.action p
at_once None p = λ x y. refl

next_once : (code : Code) (goes : Goes) (p : Process) → IsProp (FindsNext code goes p)
next_once code (At place) p = λ x y i. (Bool-set _ _ x.0 y.0 i, at_once (step_of code place) p x.1 y.1 i)
next_once code (Enter «module» function arity) p = Bool-set _ _
next_once code Nowhere p = λ x y. absurd x

process_found : (code : Code) (o : Option Process) (p : Process) → o ≡ Some p → IsShapedIf code o → IsShaped code p
process_found code o p e h = subst (IsShapedIf code) e h

process_finds : (s : State) (pid : ℕ) (p : Process) → RowsLawful s → process_of s.processes pid ≡ Some p → is_running p.status ≡ true → FindsNext s.code p.goes p
process_finds s pid p h e r =
    (outcome_right s.code h.0 p (process_found s.code (process_of s.processes pid) p e (process_shaped s.code s.processes pid h.1)) (is_running_status p.status r)).0

pub rows_find : (s : State) (pid n : ℕ) (p : Process) → IsFramedNode s → process_of (steps s pid n).state.processes pid ≡ Some p → is_running p.status ≡ true → FindsNext s.code p.goes p
rows_find s pid n p h e r =
    ∥∥₁_elim h (next_once s.code p.goes p)
    (λ h. subst (λ code. FindsNext code p.goes p) (steps_alike n s pid).0 (process_finds (steps s pid n).state pid p (steps_right n s pid (rows_lawful s h)) e r))

pub rows_find_reached : (events : List (Event Listing)) (pid n : ℕ) (p : Process) → LoadFramed events → process_of (steps (run empty events).state pid n).state.processes pid ≡ Some p → is_running p.status ≡ true
    → FindsNext (run empty events).state.code p.goes p
rows_find_reached events pid n p w e r = rows_find (run empty events).state pid n p (reached_framed events w) e r

-- rows of a process that concern it alone
module _ (code : Code) (enter : Enters code) where
  by_outcome : (rest : Process → Private) → ((q : Process) → IsShaped code q → IsShaped code (rest q).process) → (p : Process) (o : Outcome) → IsShaped code p → Comes code o → IsShaped code (private_by rest p o).process
  by_outcome rest k p (makes q) h c = k q c
  by_outcome rest k p (sends q to signal) h c = k q c
  by_outcome rest k p (asks q native arity after) h c = h
  by_outcome rest k p (sleeps q n place) h c = h

  private_shaped : (n : ℕ) (p : Process) → IsShaped code p → IsShaped code (private_rows code n p).process
  private_shaped zero p h = h
  private_shaped (suc n) p h = go (is_running p.status) refl (λ q k. private_shaped n q k)
    where
      go : (b : Bool) → is_running p.status ≡ b → ((q : Process) → IsShaped code q → IsShaped code (private_rows code n q).process)
          → IsShaped code (cond b (private_by (private_rows code n) p (outcome code p)) (stops p after_row)).process
      go true r k = by_outcome (private_rows code n) k p (outcome code p) h (outcome_right code enter p h (is_running_status p.status r)).1
      go false r k = h

pub slice_finds : (s : State) (pid n : ℕ) (p : Process) → IsFramedNode s → process_of s.processes pid ≡ Some p → is_running (private_rows s.code n p).process.status ≡ true
    → FindsNext s.code (private_rows s.code n p).process.goes (private_rows s.code n p).process
slice_finds s pid n p h e r =
    let q : Process = (private_rows s.code n p).process in
    ∥∥₁_elim h (next_once s.code q.goes q)
    (λ h.
    let enter = (rows_lawful s h).0 in
    let shaped = process_found s.code (process_of s.processes pid) p e (process_shaped s.code s.processes pid h.2) in
    (outcome_right s.code enter q (private_shaped s.code enter n p shaped) (is_running_status q.status r)).0)

pub slice_to_spot_finds : (s : State) (spots : List Place) (passes : Bool) (pid n : ℕ) (p : Process) → IsFramedNode s → process_of s.processes pid ≡ Some p
    → is_running (private_to_spot spots passes s.code n p).process.status ≡ true → FindsNext s.code (private_to_spot spots passes s.code n p).process.goes (private_to_spot spots passes s.code n p).process
slice_to_spot_finds s spots passes pid n p h e =
    subst (λ (r : Private). is_running r.process.status ≡ true → FindsNext s.code r.process.goes r.process) (spot_prefix spots passes s.code n p)
    (slice_finds s pid (private_to_spot spots passes s.code n p).count p h e)

-- ---- with the debugger

steps_lawful : (pid n : ℕ) → LoadFramed (steps_of pid n ++ [])
steps_lawful pid zero = tt
steps_lawful pid (suc n) = (tt, tt)

erased_lawful : (e : DebugEvent Listing) (a : DebugAnswer) → DebugLoadsFramed e → LoadFramed (erased e a ++ [])
erased_lawful (NodeEvent (event.Steps pid n)) a w = steps_lawful pid (rows_of_answer a)
erased_lawful (NodeEvent e) a w = (w, tt)
erased_lawful (StepOne pid) a w = steps_lawful pid (rows_of_answer a)
erased_lawful _ a w = tt

pub debug_framed : (d : Debugged) (e : DebugEvent Listing) → DebugLoadsFramed e → IsFramedNode d.node → IsFramedNode (debug_next d e).state.node
debug_framed d e w h = subst IsFramedNode (run_erased d (e ∷ [])) (run_framed d.node (erase d (e ∷ [])) (erased_lawful e (debug_next d e).answer w) h)

cut_lawful : (e : DebugEvent Listing) (a : DebugAnswer) → DebugLoadsFramed e → DebugLoadsFramed (debug_cut_event e a)
cut_lawful (NodeEvent (event.Steps pid n)) (Ok (Node (Ran count after))) w = tt
cut_lawful (NodeEvent (event.Steps pid n)) a w = tt
cut_lawful e a w = w

pub debug_answered_framed : (d new : Debugged) (e : DebugEvent Listing) (a : DebugAnswer) → DebugAnswers d e a new → DebugLoadsFramed e → IsFramedNode d.node → IsFramedNode new.node
debug_answered_framed d new e (Err NoMemory) h w k = subst (λ (x : Debugged). IsFramedNode x.node) (sym h) k
debug_answered_framed d new e (Ok reply) h w k = subst (λ (x : DebugNext). IsFramedNode x.state.node) h (debug_framed d (debug_cut_event e (Ok reply)) (cut_lawful e (Ok reply) w) k)
debug_answered_framed d new e (Err refusal) h w k = subst (λ (x : DebugNext). IsFramedNode x.state.node) h (debug_framed d (debug_cut_event e (Err refusal)) (cut_lawful e (Err refusal) w) k)
