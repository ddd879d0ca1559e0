-- What the rows of a process are to a node with a debugger.
use Rattle.std.proofs.Common.{◌≡◌, ℕ, Bool, true, false, cond, not, refl, sym, ap, ◌∙◌, Ok, Err, ◌&&◌, Option, Some, None, option_map}
use Rattle.beam_machine.specs.declared.debug.DebugEvent.TheVariants.{StepOne, Node as NodeEvent}
use Rattle.beam_machine.specs.declared.debug.DebugReply.TheVariants.{Held, Node}
use Rattle.beam_machine.specs.declared.event.Event.{Event}
use Rattle.beam_machine.specs.declared.event.Reply.{Reply}
use Rattle.beam_machine.specs.declared.event.Reply.TheVariants.{Ran}
use Rattle.beam_machine.specs.declared.event.Refused.{Refused}
use Rattle.beam_machine.specs.declared.event.Refused.TheVariants.{NoMemory, NotReady, Stopped}
use Rattle.beam_machine.specs.declared.event.Then.{Then}
use Rattle.beam_machine.specs.declared.event.Then.TheVariants.{GoesOn}
use Rattle.beam_machine.specs.declared.process.Status.{Status}
use Rattle.beam_machine.specs.declared.process.Status.TheVariants.{Running, Waiting, Ended}
use Rattle.beam_machine.specs.Prelude.{is_live, Process, is_waiting, then_of, State, process_of, alive, live_process, Answer, Next, Rows, next, Answers, cut_event, effective_rows, Debugged, DebugAnswer, DebugNext, is_among, is_live_process, with_pid, passes_on, Halting, halting, refuses, replies, pruned, of_node, halted, halts, debug_steps, held_at, stepped, steps_one, debug_step_one, debug_next, debug_cut_event, DebugAnswers}
use Rattle.beam_machine.specs.declared.event.Event.TheVariants as event
use Rattle.beam_model.specs.Prelude.{Listing, Place}
use Rattle.beam_machine.specs.Next.{steps}
use Rattle.beam_laws.proofs.Refusing.{refusal}
use Rattle.beam_laws.proofs.Settling.{kept}
use Rattle.beam_debug.specs.Prelude.{Settled, then_at, steps_in, RowIs}
use Rattle.beam_core.specs.Halt.{HaltsAt}
use Rattle.beam_debug.proofs.RowsToSpot.{standing}

-- ---- what is live

pub settles : (d : Debugged) → Settled (pruned d)
settles d = (kept (λ (spot : Place). is_live d.node.code spot.instance) d.spots, kept (is_live_process d.node) d.held, kept (is_live_process d.node) d.passing)

-- ---- a process that runs

pub option_lives : (o : Option Process) → option_map (λ p. then_of p.status) o ≡ Some GoesOn → (p : Process) × (alive o ≡ Some p) × (is_waiting p.status ≡ false)
option_lives None e = cc
option_lives (Some p) e = at p.status e
  where
    at : (q : Status) → Some (then_of q) ≡ Some GoesOn → (r : Process) × (alive (Some (record p { status = q })) ≡ Some r) × (is_waiting r.status ≡ false)
    at Running e = (record p { status = Running }, refl, refl)
    at Waiting e = cc
    at (Ended r v) e = cc

option_goes_on : (o : Option Process) (p : Process) → alive o ≡ Some p → is_waiting p.status ≡ false → option_map (λ p. then_of p.status) o ≡ Some GoesOn
option_goes_on None p e h = cc
option_goes_on (Some q) p e h = at q.status e
  where
    waits : (r : Process) → r.status ≡ Waiting → Some r ≡ Some p → false ≡ true
    waits r is e =
        let same : r ≡ p = cc in
        sym h ∙ (ap (λ (x : Process). is_waiting x.status) (sym same) ∙ ap is_waiting is)

    at : (s : Status) → alive (Some (record q { status = s })) ≡ Some p → Some (then_of s) ≡ Some GoesOn
    at Running e = refl
    at Waiting e = let no = waits (record q { status = Waiting }) refl e in cc
    at (Ended r v) e = cc

-- a process that hasn't ended and doesn't wait goes on
pub live_goes_on : (s : State) (pid : ℕ) (p : Process) → live_process s.processes pid ≡ Some p → is_waiting p.status ≡ false → then_at s pid ≡ Some GoesOn
live_goes_on s pid p e h = option_goes_on (process_of s.processes pid) p e h

-- ---- rows

-- the rows of a process that goes on and isn't held
pub steps_halt : (d : Debugged) (pid n : ℕ) (h : Halting) → then_at d.node pid ≡ Some GoesOn → is_among pid d.held ≡ false → halting d.spots (is_among pid d.passing) d.node pid n ≡ h
    → debug_steps d pid n (live_process d.node.processes pid) ≡ halts d pid h
steps_halt d pid n h runs free e =
    let p = option_lives (process_of d.node.processes pid) runs in
    let done : DebugNext = halts d pid (halting d.spots (is_among pid d.passing) d.node pid n) in
    ap (debug_steps d pid n) p.1
    ∙ (ap (λ b. cond {A = DebugNext} b (refuses d Stopped) (cond {A = DebugNext} (is_waiting p.0.status) (refuses d NotReady) done)) free
    ∙ (ap (λ b. cond {A = DebugNext} b (refuses d NotReady) done) p.2 ∙ ap (halts d pid) e))

abbrev at_count : ℕ → State → Bool → Halting
at_count count t stopped = record { rows = record { count = count; state = t }; stopped = stopped }

-- the node after rows; their process may pass no break spot any longer, if there were any rows
abbrev pub ran_on : Debugged → ℕ → ℕ → State → Debugged
ran_on d pid count t = record d { node = t; passing = passes_on count pid d.passing }

pub halted_ran : (d : Debugged) (pid count : ℕ) (t : State) (after : Then) → then_at t pid ≡ Some after
    → halts d pid (at_count count t false) ≡ replies (ran_on d pid count t) (Node (Ran count after))
halted_ran d pid count t after e =
    let q = standing (process_of t.processes pid) after e in
    ap (halted d pid (at_count count t false)) q.1 ∙ ap (λ (a : Then). replies (ran_on d pid count t) (Node (Ran count a))) q.2

halted_held : (d : Debugged) (pid count : ℕ) (t : State) (after : Then) → then_at t pid ≡ Some after
    → halts d pid (at_count count t true) ≡ replies (record (ran_on d pid count t) { held = with_pid pid d.held }) (Held count)
halted_held d pid count t after e =
    let q = standing (process_of t.processes pid) after e in
    ap (halted d pid (at_count count t true)) q.1

-- rows that end after `count`, where the process waits or ends, memory is refused, or all were executed
pub answers_ran : (d : Debugged) (pid n count : ℕ) (after : Then) (t : State) → then_at d.node pid ≡ Some GoesOn → is_among pid d.held ≡ false
    → HaltsAt d.spots (is_among pid d.passing) pid n d.node (Ok (count, Some after)) t
    → DebugAnswers d (NodeEvent (event.Steps pid n)) (Ok (Node (Ran count after))) (pruned (ran_on d pid count t))
answers_ran d pid n count after t runs free h =
    steps_halt d pid (effective_rows n count after) (at_count count t false) runs free h.0 ∙ halted_ran d pid count t after h.1

-- rows that end before the row of a break spot
pub answers_held : (d : Debugged) (pid n count : ℕ) (t : State) → then_at d.node pid ≡ Some GoesOn → is_among pid d.held ≡ false
    → HaltsAt d.spots (is_among pid d.passing) pid n d.node (Ok (count, None)) t
    → DebugAnswers d (NodeEvent (event.Steps pid n)) (Ok (Held count)) (pruned (record (ran_on d pid count t) { held = with_pid pid d.held }))
answers_held d pid n count t runs free h =
    steps_halt d pid n (at_count count t true) runs free h.0 ∙ halted_held d pid count t GoesOn h.1

-- one row of a process that is held
pub answers_one : (d : Debugged) (pid : ℕ) (after : Then) (t : State) → then_at d.node pid ≡ Some GoesOn → is_among pid d.held ≡ true → RowIs d.node pid (Ok after) t
    → DebugAnswers d (StepOne pid) (Ok (held_at 1 after)) (pruned (ran_on d pid 1 t))
answers_one d pid after t runs held h =
    let p = option_lives (process_of d.node.processes pid) runs in
    let q = standing (process_of t.processes pid) after h.1 in
    let one : Rows = record { count = 1; state = t } in
    let test : (is_among pid d.held && not (is_waiting p.0.status)) ≡ true = ap (λ b. b && not (is_waiting p.0.status)) held ∙ ap not p.2 in
    ap (debug_step_one d pid) p.1
    ∙ (ap (λ b. cond {A = DebugNext} b (steps_one d pid (steps d.node pid 1)) (refuses d NotReady)) test
    ∙ (ap (steps_one d pid) h.0
    ∙ (ap (stepped d pid one) q.1 ∙ ap (λ (a : Then). replies (ran_on d pid 1 t) (held_at 1 a)) q.2)))

-- ---- the node's other events

pub of_event : (d : Debugged) (e : Event Listing) → steps_in e ≡ None → debug_next d (NodeEvent e) ≡ of_node d (next d.node e)
of_event d (event.Steps pid n) h = cc
of_event d e h = refl

not_cut : (e : Event Listing) (a : Answer) → steps_in e ≡ None → cut_event e a ≡ e
not_cut (event.Steps pid n) a h = cc
not_cut e a h = refl

debug_not_cut : (e : Event Listing) (a : DebugAnswer) → steps_in e ≡ None → debug_cut_event (NodeEvent e) a ≡ NodeEvent e
debug_not_cut (event.Steps pid n) a h = cc
debug_not_cut e a h = refl

-- the answer to an event that runs no rows, by the node's answer
event_is : (d : Debugged) (e : Event Listing) (a : Answer) (b : DebugAnswer) (x : Next) → steps_in e ≡ None → next d.node (cut_event e a) ≡ x
    → debug_next d (debug_cut_event (NodeEvent e) b) ≡ of_node d x
event_is d e a b x other h =
    ap (debug_next d) (debug_not_cut e b other)
    ∙ (of_event d e other ∙ ap (of_node d) (ap (next d.node) (sym (not_cut e a other)) ∙ h))

pub answers_event : (d : Debugged) (e : Event Listing) (reply : Reply) (t : State) → steps_in e ≡ None → Answers d.node e (Ok reply) t
    → DebugAnswers d (NodeEvent e) (Ok (Node reply)) (pruned (record d { node = t }))
answers_event d e reply t other h = event_is d e (Ok reply) (Ok (Node reply)) (record { answer = Ok reply; state = t }) other h

event_refused : (d : Debugged) (e : Event Listing) (r : Refused) (t : State) → steps_in e ≡ None → next d.node (cut_event e (Err r)) ≡ record { answer = Err r; state = t }
    → t ≡ d.node
event_refused d e r t other h =
    let same : next d.node e ≡ record { answer = Err r; state = t } = ap (next d.node) (sym (not_cut e (Err r) other)) ∙ h in
    sym (ap (λ (x : Next). x.state) same) ∙ refusal d.node e r (ap (λ (x : Next). x.answer) same)

-- the node refuses the event
abbrev Refuses : Debugged → Event Listing → Refused → State → Type 0
Refuses d e r t = DebugAnswers d (NodeEvent e) (Err r) (record d { node = t })

refused_state : (d : Debugged) (r : Refused) (t : State) → t ≡ d.node → refuses d r ≡ record { answer = Err r; state = record d { node = t } }
refused_state d r t same = ap (λ (s : State). refuses (record d { node = s }) r) (sym same)

other_refused : (d : Debugged) (e : Event Listing) (r : Refused) (t : State) → steps_in e ≡ None → next d.node (cut_event e (Err r)) ≡ record { answer = Err r; state = t }
    → debug_next d (debug_cut_event (NodeEvent e) (Err r)) ≡ record { answer = Err r; state = record d { node = t } }
other_refused d e r t other h =
    event_is d e (Err r) (Err r) (record { answer = Err r; state = t }) other h ∙ refused_state d r t (event_refused d e r t other h)

pub refuses_event : (d : Debugged) (e : Event Listing) (r : Refused) (t : State) → steps_in e ≡ None → Answers d.node e (Err r) t
    → Refuses d e r t
refuses_event d e NoMemory t other h = ap (λ (s : State). record d { node = s }) h
refuses_event d e r t other h = other_refused d e r t other h

pub unchanged_event : (d : Debugged) (e : Event Listing) (r : Refused) (t : State) → steps_in e ≡ None → Answers d.node e (Err r) t → t ≡ d.node
unchanged_event d e NoMemory t other h = h
unchanged_event d e r t other h = event_refused d e r t other h
