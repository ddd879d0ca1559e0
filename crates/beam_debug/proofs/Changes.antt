-- Events that are refused, and events that change the break spots, the held processes or the passes.
use Rattle.std.proofs.Common.{◌≡◌, ℕ, Bool, true, false, cond, not, List, refl, sym, ap, subst, ◌∙◌, Ok, Err, ◌&&◌, Option, Some, None, is_some, option_map}
use Rattle.beam_machine.specs.declared.debug.DebugEvent.{DebugEvent}
use Rattle.beam_machine.specs.declared.debug.DebugEvent.TheVariants.{SetBreak, ClearBreak, Resume, StepOne, Inspect, Node as NodeEvent}
use Rattle.beam_machine.specs.declared.debug.DebugReply.{DebugReply}
use Rattle.beam_machine.specs.declared.debug.DebugReply.TheVariants.{Viewed, Node}
use Rattle.beam_machine.specs.Prelude.{View, view_of, Process, is_waiting, State, process_of, live_process, Debugged, DebugNext, halting, is_among, is_spot, with_pid, without_pid, with_spot, without_spot, refuses, replies, pruned, halts, debug_steps, debug_step_one, steps_one, debug_resume, debug_set, debug_clear, debug_inspect, place_named, DebugAnswers}
use Rattle.beam_machine.specs.declared.debug.Spot.{Spot}
use Rattle.beam_machine.specs.declared.event.Reply.TheVariants.{Done, Changed}
use Rattle.beam_machine.specs.declared.event.Refused.{Refused}
use Rattle.beam_machine.specs.declared.event.Refused.TheVariants.{NoMemory, NoProcess, NotReady, Stopped, BadSpot}
use Rattle.beam_machine.specs.declared.event.Event.TheVariants as event
use Rattle.beam_model.specs.Prelude.{Listing, Place}
use Rattle.beam_machine.specs.Next.{steps}
use Rattle.beam_debug.specs.Prelude.{Inspected}

-- memory was refused
pub no_memory : (d new : Debugged) (e : DebugEvent Listing) (r : Refused) → r ≡ NoMemory → new ≡ d → DebugAnswers d e (Err r) new
no_memory d new e r is same = subst (λ (x : Refused). DebugAnswers d e (Err x) new) (sym is) same

pub with_node : (d : Debugged) (t : State) → t ≡ d.node → record d { node = t } ≡ d
with_node d t same = ap (λ (s : State). record d { node = s }) same

-- ---- rows that are refused

pub steps_none : (d : Debugged) (pid n : ℕ) → live_process d.node.processes pid ≡ None → DebugAnswers d (NodeEvent (event.Steps pid n)) (Err NoProcess) d
steps_none d pid n e = ap (debug_steps d pid n) e

pub steps_stopped : (d : Debugged) (pid n : ℕ) (p : Process) → live_process d.node.processes pid ≡ Some p → is_among pid d.held ≡ true
    → DebugAnswers d (NodeEvent (event.Steps pid n)) (Err Stopped) d
steps_stopped d pid n p e held =
    let done : DebugNext = halts d pid (halting d.spots (is_among pid d.passing) d.node pid n) in
    ap (debug_steps d pid n) e
    ∙ ap (λ b. cond {A = DebugNext} b (refuses d Stopped) (cond {A = DebugNext} (is_waiting p.status) (refuses d NotReady) done)) held

pub steps_waits : (d : Debugged) (pid n : ℕ) (p : Process) → live_process d.node.processes pid ≡ Some p → is_among pid d.held ≡ false → is_waiting p.status ≡ true
    → DebugAnswers d (NodeEvent (event.Steps pid n)) (Err NotReady) d
steps_waits d pid n p e free waits =
    let done : DebugNext = halts d pid (halting d.spots (is_among pid d.passing) d.node pid n) in
    ap (debug_steps d pid n) e
    ∙ (ap (λ b. cond {A = DebugNext} b (refuses d Stopped) (cond {A = DebugNext} (is_waiting p.status) (refuses d NotReady) done)) free
    ∙ ap (λ b. cond {A = DebugNext} b (refuses d NotReady) done) waits)

-- ---- break spots

pub set_none : (d : Debugged) (spot : Spot) → place_named d.node.code spot ≡ None → DebugAnswers d (SetBreak spot) (Err BadSpot) d
set_none d spot e = ap (debug_set d) e

pub set_some : (d : Debugged) (spot : Spot) (place : Place) → place_named d.node.code spot ≡ Some place
    → DebugAnswers d (SetBreak spot) (Ok (Node (Changed (not (is_spot place d.spots))))) (pruned (record d { spots = with_spot place d.spots }))
set_some d spot place e = ap (debug_set d) e

pub clear_none : (d : Debugged) (spot : Spot) → place_named d.node.code spot ≡ None → DebugAnswers d (ClearBreak spot) (Err BadSpot) d
clear_none d spot e = ap (debug_clear d) e

pub clear_some : (d : Debugged) (spot : Spot) (place : Place) → place_named d.node.code spot ≡ Some place
    → DebugAnswers d (ClearBreak spot) (Ok (Node (Changed (is_spot place d.spots)))) (pruned (record d { spots = without_spot place d.spots }))
clear_some d spot place e = ap (debug_clear d) e

-- ---- processes that are held

pub resume_none : (d : Debugged) (pid : ℕ) → live_process d.node.processes pid ≡ None → DebugAnswers d (Resume pid) (Err NoProcess) d
resume_none d pid e = ap (debug_resume d pid) e

pub resume_free : (d : Debugged) (pid : ℕ) (p : Process) → live_process d.node.processes pid ≡ Some p → is_among pid d.held ≡ false → DebugAnswers d (Resume pid) (Err NotReady) d
resume_free d pid p e free =
    ap (debug_resume d pid) e
    ∙ ap (λ b. cond {A = DebugNext} b (replies (record d { held = without_pid pid d.held; passing = with_pid pid d.passing }) (Node Done)) (refuses d NotReady)) free

pub resume_held : (d : Debugged) (pid : ℕ) (p : Process) → live_process d.node.processes pid ≡ Some p → is_among pid d.held ≡ true
    → DebugAnswers d (Resume pid) (Ok (Node Done)) (pruned (record d { held = without_pid pid d.held; passing = with_pid pid d.passing }))
resume_held d pid p e held =
    ap (debug_resume d pid) e
    ∙ ap (λ b. cond {A = DebugNext} b (replies (record d { held = without_pid pid d.held; passing = with_pid pid d.passing }) (Node Done)) (refuses d NotReady)) held

pub step_none : (d : Debugged) (pid : ℕ) → live_process d.node.processes pid ≡ None → DebugAnswers d (StepOne pid) (Err NoProcess) d
step_none d pid e = ap (debug_step_one d pid) e

step_refused : (d : Debugged) (pid : ℕ) (p : Process) → live_process d.node.processes pid ≡ Some p → (is_among pid d.held && not (is_waiting p.status)) ≡ false → DebugAnswers d (StepOne pid) (Err NotReady) d
step_refused d pid p e test =
    ap (debug_step_one d pid) e ∙ ap (λ b. cond {A = DebugNext} b (steps_one d pid (steps d.node pid 1)) (refuses d NotReady)) test

both_false : (a b : Bool) → b ≡ false → (a && b) ≡ false
both_false true b e = e
both_false false b e = refl

pub step_waits : (d : Debugged) (pid : ℕ) (p : Process) → live_process d.node.processes pid ≡ Some p → is_waiting p.status ≡ true → DebugAnswers d (StepOne pid) (Err NotReady) d
step_waits d pid p e waits = step_refused d pid p e (both_false (is_among pid d.held) (not (is_waiting p.status)) (ap not waits))

pub step_free : (d : Debugged) (pid : ℕ) (p : Process) → live_process d.node.processes pid ≡ Some p → is_among pid d.held ≡ false → DebugAnswers d (StepOne pid) (Err NotReady) d
step_free d pid p e free = step_refused d pid p e (ap (λ b. b && not (is_waiting p.status)) free)

-- ---- the state after an event

pub with_state : (d x y : Debugged) (e : DebugEvent Listing) (reply : DebugReply View) → x ≡ y → DebugAnswers d e (Ok reply) y → DebugAnswers d e (Ok reply) x
with_state d x y e reply same h = subst (λ (z : Debugged). DebugAnswers d e (Ok reply) z) (sym same) h

-- the settled state, where the processes that may pass a break spot are given by an equal list
pub passed_on : (t : State) (spots : List Place) (held passing left : List ℕ) → left ≡ passing
    → pruned (record { node = t; spots = spots; held = held; passing = left }) ≡ pruned (record { node = t; spots = spots; held = held; passing = passing })
passed_on t spots held passing left same = ap (λ (ps : List ℕ). pruned (record { node = t; spots = spots; held = held; passing = ps })) same

-- ---- a process that is inspected

seen_as : (d : Debugged) (pid : ℕ) (o : Option Process) (view : View) → option_map (view_of d.node.code (is_among pid d.held)) o ≡ Some view
    → debug_inspect d pid o ≡ replies d (Viewed view)
seen_as d pid None view e = cc
seen_as d pid (Some p) view e = ap (λ (v : View). replies d (Viewed v)) (some_is (view_of d.node.code (is_among pid d.held) p) view e)
  where
    some_is : (a b : View) → Some a ≡ Some b → a ≡ b
    some_is a b e = cc

pub inspected : (d : Debugged) (pid : ℕ) (view : View) → Inspected d pid (Ok view) → DebugAnswers d (Inspect pid) (Ok (Viewed view)) (pruned d)
inspected d pid view h = seen_as d pid (process_of d.node.processes pid) view h

-- where a view was made, its process is there
pub there_if_seen : (f : Process → View) (o : Option Process) (view : View) → option_map f o ≡ Some view → is_some o ≡ true
there_if_seen f None view e = cc
there_if_seen f (Some p) view e = refl

pub not_inspected : (d : Debugged) (pid : ℕ) (r : Refused) → Inspected d pid (Err r) → DebugAnswers d (Inspect pid) (Err r) d
not_inspected d pid NoMemory h = refl
not_inspected d pid NoProcess h = ap (debug_inspect d pid) h.1
not_inspected d pid r h = let no : r ≡ NoProcess = h.0 in cc
