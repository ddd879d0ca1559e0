-- Events that are refused change nothing, those of the debugger included.
use Rattle.std.proofs.Common.{◌≡◌, ◌≢◌, ℕ, ◌&&◌, not, Bool, true, false, cond, Option, Some, None, Ok, Err, refl, sym, ap, ◌∙◌}
use Rattle.beam_journal.specs.Entering.{in_memory}
use Rattle.beam_machine.specs.declared.debug.DebugEvent.{DebugEvent}
use Rattle.beam_machine.specs.declared.debug.DebugEvent.TheVariants.{SetBreak, ClearBreak, Resume, StepOne, Inspect, Node as NodeEvent}
use Rattle.beam_machine.specs.declared.debug.DebugReply.{DebugReply}
use Rattle.beam_machine.specs.declared.event.Refused.{Refused}
use Rattle.beam_machine.specs.declared.event.Refused.TheVariants.{NoMemory, NoProcess, NotReady, Stopped, BadSpot}
use Rattle.beam_machine.specs.Prelude.{Debugged, DebugNext, Halting, halting, halted, debug_steps, stepped, debug_step_one, debug_resume, debug_set, debug_clear, debug_inspect, place_named, refuses, replies, answered, is_among, debug_next, debug_cut_event, DebugAnswers, Answer, Rows, next, Process, is_waiting, State, process_of, live_process, View}
use Rattle.beam_machine.specs.declared.event.Event.TheVariants as event
use Rattle.beam_model.specs.Prelude.{Listing, Place}
use Rattle.beam_machine.specs.Next.{steps}
use Rattle.beam_receipts.specs.declared.refusal.Refusal.TheVariants.{Node as OfNode}
use Rattle.beam_shared.specs.Prelude.{Node, must_wait, RefusesCommand}

abbrev Keeps : Debugged → DebugNext → Type 0
Keeps d n = (r : Refused) → n.answer ≡ Err r → n.state ≡ d

it_refuses : (d : Debugged) (r : Refused) → Keeps d (refuses d r)
it_refuses d r q e = refl

it_replies : (d x : Debugged) (reply : DebugReply View) → Keeps d (replies x reply)
it_replies d x reply q e = absurd (cc e)

one_of : (d : Debugged) (b : Bool) (x y : DebugNext) → Keeps d x → Keeps d y → Keeps d (cond b x y)
one_of d true x y h k = h
one_of d false x y h k = k

of_answer : (d : Debugged) (s : State) (a : Answer) → Keeps d (answered d s a)
of_answer d s (Ok reply) q e = absurd (cc e)
of_answer d s (Err r) q e = refl

of_halt : (d : Debugged) (pid : ℕ) (h : Halting) (o : Option Process) → Keeps d (halted d pid h o)
of_halt d pid h None = it_refuses d NoProcess
of_halt d pid h (Some p) = one_of d h.stopped _ _ (λ q e. absurd (cc e)) (λ q e. absurd (cc e))

of_steps : (d : Debugged) (pid n : ℕ) (o : Option Process) → Keeps d (debug_steps d pid n o)
of_steps d pid n None = it_refuses d NoProcess
of_steps d pid n (Some p) =
    let h : Halting = halting d.spots (is_among pid d.passing) d.node pid n in
    one_of d (is_among pid d.held) _ _ (it_refuses d Stopped)
    (one_of d (is_waiting p.status) _ _ (it_refuses d NotReady) (of_halt d pid h (process_of h.rows.state.processes pid)))

of_stepped : (d : Debugged) (pid : ℕ) (rows : Rows) (o : Option Process) → Keeps d (stepped d pid rows o)
of_stepped d pid rows None = it_refuses d NoProcess
of_stepped d pid rows (Some p) = λ q e. absurd (cc e)

of_step_one : (d : Debugged) (pid : ℕ) (o : Option Process) → Keeps d (debug_step_one d pid o)
of_step_one d pid None = it_refuses d NoProcess
of_step_one d pid (Some p) =
    let rows : Rows = steps d.node pid 1 in
    one_of d (is_among pid d.held && not (is_waiting p.status)) _ _ (of_stepped d pid rows (process_of rows.state.processes pid)) (it_refuses d NotReady)

of_resume : (d : Debugged) (pid : ℕ) (o : Option Process) → Keeps d (debug_resume d pid o)
of_resume d pid None = it_refuses d NoProcess
of_resume d pid (Some p) = one_of d (is_among pid d.held) _ _ (λ q e. absurd (cc e)) (it_refuses d NotReady)

of_set : (d : Debugged) (o : Option Place) → Keeps d (debug_set d o)
of_set d None = it_refuses d BadSpot
of_set d (Some place) = λ q e. absurd (cc e)

of_clear : (d : Debugged) (o : Option Place) → Keeps d (debug_clear d o)
of_clear d None = it_refuses d BadSpot
of_clear d (Some place) = λ q e. absurd (cc e)

of_inspect : (d : Debugged) (pid : ℕ) (o : Option Process) → Keeps d (debug_inspect d pid o)
of_inspect d pid None = it_refuses d NoProcess
of_inspect d pid (Some p) = λ q e. absurd (cc e)

of_event : (d : Debugged) (e : DebugEvent Listing) → Keeps d (debug_next d e)
of_event d (NodeEvent (event.Steps pid n)) = of_steps d pid n (live_process d.node.processes pid)
of_event d (NodeEvent e) = of_answer d (next d.node e).state (next d.node e).answer
of_event d (SetBreak spot) = of_set d (place_named d.node.code spot)
of_event d (ClearBreak spot) = of_clear d (place_named d.node.code spot)
of_event d (Resume pid) = of_resume d pid (live_process d.node.processes pid)
of_event d (StepOne pid) = of_step_one d pid (live_process d.node.processes pid)
of_event d (Inspect pid) = of_inspect d pid (process_of d.node.processes pid)

-- ---- where memory may be refused

uncut : (e : DebugEvent Listing) (r : Refused) → debug_cut_event e (Err r) ≡ e
uncut (NodeEvent (event.Steps pid n)) r = refl
uncut e r = refl

-- a refusal is the one that the definition gives for the event
its_own : (d new : Debugged) (e : DebugEvent Listing) (r : Refused) → debug_next d (debug_cut_event e (Err r)) ≡ record { answer = Err r; state = new }
    → ((debug_next d e).answer ≡ Err r) × (new ≡ d)
its_own d new e r h =
    let is : debug_next d e ≡ record { answer = Err r; state = new } = ap (debug_next d) (sym (uncut e r)) ∙ h in
    (ap (λ (n : DebugNext). n.answer) is, sym (ap (λ (n : DebugNext). n.state) is) ∙ of_event d e r (ap (λ (n : DebugNext). n.answer) is))

pub nothing_changed : (d new : Debugged) (e : DebugEvent Listing) (r : Refused) → DebugAnswers d e (Err r) new → new ≡ d
nothing_changed d new e NoMemory h = h
nothing_changed d new e r h = (its_own d new e r h).1

pub it_refuses_command : (n : Node) (new : Debugged) (e : DebugEvent Listing) (r : Refused) → in_memory n.journal n.drained ≢ n.limit → must_wait n.checked_out e ≡ false
    → DebugAnswers n.state e (Err r) new → RefusesCommand n e (OfNode r)
it_refuses_command n new e NoMemory few free h = (few, free)
it_refuses_command n new e r few free h = (few, free, (its_own n.state new e r h).0)
