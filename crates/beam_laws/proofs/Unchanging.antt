-- Events that change neither code nor break spots.
use Rattle.std.proofs.Common.{◌≡◌, ℕ, zero, suc, Bool, true, false, cond, not, ◌&&◌, List, [], ◌∷◌, refl, sym, ap, ◌∙◌, Ok, Err, filter, Option, Some, None, append-nil}
use Rattle.std.specs.List.{AllByRecursion}
use Rattle.beam_machine.specs.declared.debug.DebugEvent.{DebugEvent}
use Rattle.beam_machine.specs.declared.debug.DebugEvent.TheVariants.{SetBreak, ClearBreak, Resume, StepOne, Inspect, Node as NodeEvent}
use Rattle.beam_machine.specs.declared.event.Event.{Event}
use Rattle.beam_machine.specs.declared.event.Refused.TheVariants.{NoProcess, NotReady, Stopped}
use Rattle.beam_machine.specs.declared.event.Reply.TheVariants.{Ran, Done}
use Rattle.beam_machine.specs.declared.debug.DebugReply.{DebugReply}
use Rattle.beam_machine.specs.declared.debug.DebugReply.TheVariants.{Held, Viewed, Node}
use Rattle.beam_machine.specs.Prelude.{is_live, Code, Process, is_waiting, then_of, State, process_of, live_process, Answer, Next, Rows, next, run, View, Debugged, DebugNext, DebugAnswer, Halting, debug_next, erased, steps_of, rows_of_answer, pruned, replies, refuses, answered, of_node, after_rows, halted, halts, halting, debug_steps, stepped, debug_step_one, debug_resume, debug_inspect, is_among, held_at, with_pid, without_pid, Touch, touch_of, Touches, in_turn, loads, deletes, purges, runs}
use Rattle.beam_machine.specs.declared.event.Event.TheVariants as event
use Rattle.beam_model.specs.Prelude.{Listing, Place}
use Rattle.beam_machine.specs.Next.{steps}
use Rattle.beam_laws.specs.Prelude.{AreSpotsLive, may_change, touches_code}
use Rattle.beam_laws.proofs.Events.{steps_alike}
use Rattle.beam_laws.proofs.Debugging.{run_erased}
use Rattle.beam_laws.proofs.Touching.{next_touches}

-- ---- code

touched_code : (t : Touch) (s u : State) → Touches t s u → touches_code t ≡ false → u.code ≡ s.code
touched_code _ _ _ (in_turn t s u v first second) h = touched_code t u v second h ∙ touched_code t s u first h
touched_code _ _ _ (loads s l) h = cc
touched_code _ _ _ (deletes s name e) h = cc
touched_code _ _ _ (purges s name) h = cc
touched_code _ _ _ (runs s pid n) h = (steps_alike n s pid).0
touched_code _ _ _ _ h = refl

next_code : (s : State) (e : Event Listing) → may_change (NodeEvent e) ≡ false → (next s e).state.code ≡ s.code
next_code s e h = touched_code (touch_of e) s (next s e).state (next_touches s e) h

steps_code : (s : State) (pid n : ℕ) → (run s (steps_of pid n)).state.code ≡ s.code
steps_code s pid zero = refl
steps_code s pid (suc n) = next_code s (event.Steps pid (suc n)) refl

erased_code : (s : State) (e : DebugEvent Listing) (a : DebugAnswer) → may_change e ≡ false → (run s (erased e a)).state.code ≡ s.code
erased_code s (NodeEvent (event.Steps pid n)) a h = steps_code s pid (rows_of_answer a)
erased_code s (NodeEvent e) a h = next_code s e h
erased_code s (StepOne pid) a h = steps_code s pid (rows_of_answer a)
erased_code s e a h = refl

pub code_stays : (d : Debugged) (e : DebugEvent Listing) → may_change e ≡ false → (debug_next d e).state.node.code ≡ d.node.code
code_stays d e h =
    let a : DebugAnswer = (debug_next d e).answer in
    sym (ap (λ (s : State). s.code) (run_erased d (e ∷ [])))
    ∙ (ap (λ (es : List (Event Listing)). (run d.node es).state.code) (append-nil (erased e a)) ∙ erased_code d.node e a h)

-- ---- break spots

live_kept : (code : Code) (spots : List Place) → AllByRecursion (λ (spot : Place). is_live code spot.instance ≡ true) spots → filter (λ (spot : Place). is_live code spot.instance) spots ≡ spots
live_kept code [] h = refl
live_kept code (spot ∷ rest) h =
    ap (λ b. cond {A = List Place} b (spot ∷ filter (λ (s : Place). is_live code s.instance) rest) (filter (λ (s : Place). is_live code s.instance) rest)) h.0
    ∙ ap (λ l. spot ∷ l) (live_kept code rest h.1)

settled_spots : (d t : Debugged) → AreSpotsLive d → t.node.code ≡ d.node.code → t.spots ≡ d.spots → (pruned t).spots ≡ d.spots
settled_spots d t live code same =
    ap (λ (c : Code). filter (λ (s : Place). is_live c s.instance) t.spots) code
    ∙ (ap (λ (l : List Place). filter (λ (s : Place). is_live d.node.code s.instance) l) same ∙ live_kept d.node.code d.spots live)

-- an answer that refuses changes nothing; another settles a state with the break spots of d
data Comes (d : Debugged) : DebugNext → Type 0 where
  keeps : (refusal : _) → Comes d (refuses d refusal)
  goes_to : (t : Debugged) (reply : DebugReply View) → t.spots ≡ d.spots → Comes d (replies t reply)

comes_spots : (d : Debugged) (n : DebugNext) → Comes d n → AreSpotsLive d → n.state.node.code ≡ d.node.code → n.state.spots ≡ d.spots
comes_spots d n (keeps refusal) live code = refl
comes_spots d n (goes_to t reply same) live code = settled_spots d t live code same

either_comes : (d : Debugged) (b : Bool) (x y : DebugNext) → Comes d x → Comes d y → Comes d (cond b x y)
either_comes d true x y h k = h
either_comes d false x y h k = k

node_comes : (d : Debugged) (n : Next) → Comes d (of_node d n)
node_comes d n = by n.answer
  where
    by : (a : Answer) → Comes d (answered d n.state a)
    by (Ok reply) = goes_to (record d { node = n.state }) (Node reply) refl
    by (Err refusal) = keeps refusal

halts_comes : (d : Debugged) (pid : ℕ) (h : Halting) → Comes d (halts d pid h)
halts_comes d pid h = by (process_of h.rows.state.processes pid)
  where
    by : (o : Option Process) → Comes d (halted d pid h o)
    by None = keeps NoProcess
    by (Some p) = either_comes d h.stopped _ _
        (goes_to (record (after_rows d pid h.rows) { held = with_pid pid d.held }) (Held h.rows.count) refl)
        (goes_to (after_rows d pid h.rows) (Node (Ran h.rows.count (then_of p.status))) refl)

steps_comes : (d : Debugged) (pid n : ℕ) (o : Option Process) → Comes d (debug_steps d pid n o)
steps_comes d pid n None = keeps NoProcess
steps_comes d pid n (Some p) =
    either_comes d (is_among pid d.held) _ _ (keeps Stopped)
    (either_comes d (is_waiting p.status) _ _ (keeps NotReady) (halts_comes d pid (halting d.spots (is_among pid d.passing) d.node pid n)))

step_one_comes : (d : Debugged) (pid : ℕ) (o : Option Process) → Comes d (debug_step_one d pid o)
step_one_comes d pid None = keeps NoProcess
step_one_comes d pid (Some p) = either_comes d (is_among pid d.held && not (is_waiting p.status)) _ _ (by (process_of rows.state.processes pid)) (keeps NotReady)
  where
    rows : Rows
    rows = steps d.node pid 1

    by : (q : Option Process) → Comes d (stepped d pid rows q)
    by None = keeps NoProcess
    by (Some q) = goes_to (after_rows d pid rows) (held_at rows.count (then_of q.status)) refl

resume_comes : (d : Debugged) (pid : ℕ) (o : Option Process) → Comes d (debug_resume d pid o)
resume_comes d pid None = keeps NoProcess
resume_comes d pid (Some p) =
    either_comes d (is_among pid d.held) _ _ (goes_to (record d { held = without_pid pid d.held; passing = with_pid pid d.passing }) (Node Done) refl) (keeps NotReady)

inspect_comes : (d : Debugged) (pid : ℕ) (o : Option Process) → Comes d (debug_inspect d pid o)
inspect_comes d pid None = keeps NoProcess
inspect_comes d pid (Some p) = goes_to d (Viewed _) refl

event_comes : (d : Debugged) (e : DebugEvent Listing) → may_change e ≡ false → Comes d (debug_next d e)
event_comes d (NodeEvent (event.Steps pid n)) h = steps_comes d pid n (live_process d.node.processes pid)
event_comes d (NodeEvent e) h = node_comes d (next d.node e)
event_comes d (SetBreak spot) h = cc
event_comes d (ClearBreak spot) h = cc
event_comes d (Resume pid) h = resume_comes d pid (live_process d.node.processes pid)
event_comes d (StepOne pid) h = step_one_comes d pid (live_process d.node.processes pid)
event_comes d (Inspect pid) h = inspect_comes d pid (process_of d.node.processes pid)

pub spots_stay : (d : Debugged) (e : DebugEvent Listing) → AreSpotsLive d → may_change e ≡ false → (debug_next d e).state.spots ≡ d.spots
spots_stay d e live h = comes_spots d (debug_next d e) (event_comes d e h) live (code_stays d e h)
