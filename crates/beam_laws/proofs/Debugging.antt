-- The debugger changes nothing of the node but how many rows are done.
use Rattle.std.proofs.Common.{◌≡◌, ℕ, zero, suc, ◌+◌, Bool, true, false, cond, not, nat_lt, List, [], ◌∷◌, ◌++◌, refl, ap, ◌∙◌, arith, ◌&&◌, Option, Some, None, Ok, Err}
use Rattle.std.specs.List.{AllByRecursion}
use Rattle.beam_machine.specs.declared.debug.DebugEvent.{DebugEvent}
use Rattle.beam_machine.specs.declared.debug.DebugEvent.TheVariants.{SetBreak, ClearBreak, Resume, StepOne, Inspect, Node as NodeEvent}
use Rattle.beam_machine.specs.declared.event.Event.{Event}
use Rattle.beam_machine.specs.declared.event.Reply.TheVariants.{Done, Ran}
use Rattle.beam_machine.specs.declared.event.Refused.TheVariants.{NotReady}
use Rattle.beam_machine.specs.declared.event.Then.{Then}
use Rattle.beam_machine.specs.declared.event.Then.TheVariants.{GoesOn, Waits, Ended}
use Rattle.beam_machine.specs.Prelude.{is_live, Process, is_waiting, then_of, State, process_of, live_process, Answer, Next, Rows, next, one_more, ran, ran_to, refused, row, row_and, running, next_steps, run, Debugged, DebugAnswer, DebugNext, undisturbed, is_among, is_live_process, is_at_spot, with_pid, without_pid, Halting, no_rows, and_one, halts_or, halting, refuses, replies, pruned, answered, of_node, halted, halts, debug_steps, held_at, stepped, debug_step_one, debug_resume, debug_set, debug_clear, debug_inspect, place_named, debug_next, debug_run, rows_of_answer, steps_of, erased, erase}
use Rattle.beam_machine.specs.declared.debug.DebugReply.TheVariants.{Node}
use Rattle.beam_machine.specs.declared.event.Event.TheVariants as event
use Rattle.beam_model.specs.Prelude.{Listing, Place}
use Rattle.beam_machine.specs.Next.{steps}
use Rattle.beam_laws.proofs.Refusing.{refusal, steps_longer, stays, there}
use Rattle.beam_laws.proofs.Sending.{steps_state}
use Rattle.beam_laws.proofs.Settling.{kept, event_settled}
use Rattle.beam_laws.proofs.Spots.{none_at}

-- ---- rows

-- a row, and rows that are as many as they were
one_halting : (spots : List Place) (s : State) (pid : ℕ) (p : Process) (rest : Halting) → running (process_of s.processes pid) ≡ Some p
    → steps (row s pid p) pid rest.rows.count ≡ rest.rows → steps s pid (and_one rest).rows.count ≡ (and_one rest).rows
one_halting spots s pid p rest e h =
    let k : ℕ = rest.rows.count in
    let more : k + 1 ≡ suc k = omega arith in
    ap (steps s pid) more ∙ (ap (row_and (λ t. steps t pid k) s pid) e ∙ ap one_more h)

halts_rows : (spots : List Place) (passes : Bool) (s : State) (pid : ℕ) (rest : State → Halting) (o : Option Process) → running (process_of s.processes pid) ≡ o
    → ((t : State) → steps t pid (rest t).rows.count ≡ (rest t).rows) → steps s pid (halts_or rest spots passes s pid o).rows.count ≡ (halts_or rest spots passes s pid o).rows
halts_rows spots passes s pid rest None e more = refl
halts_rows spots passes s pid rest (Some p) e more = at (not passes && is_at_spot spots p.goes)
  where
    at : (b : Bool) → steps s pid (cond {A = Halting} b (no_rows s true) (and_one (rest (row s pid p)))).rows.count ≡ (cond {A = Halting} b (no_rows s true) (and_one (rest (row s pid p)))).rows
    at true = refl
    at false = one_halting spots s pid p (rest (row s pid p)) e (more (row s pid p))

-- rows that stop at break spots are rows
pub halting_rows : (n : ℕ) (spots : List Place) (passes : Bool) (s : State) (pid : ℕ)
    → steps s pid (halting spots passes s pid n).rows.count ≡ (halting spots passes s pid n).rows
halting_rows zero spots passes s pid = refl
halting_rows (suc n) spots passes s pid =
    halts_rows spots passes s pid (λ t. halting spots false t pid n) (running (process_of s.processes pid)) refl (λ t. halting_rows n spots false t pid)

counted_by : (s : State) (pid : ℕ) (rest : State → Rows) (o : Option Process) → running (process_of s.processes pid) ≡ o
    → ((t : State) → steps t pid (rest t).count ≡ rest t) → steps s pid (row_and rest s pid o).count ≡ row_and rest s pid o
counted_by s pid rest None e more = refl
counted_by s pid rest (Some p) e more =
    let k : ℕ = (rest (row s pid p)).count in
    let one : k + 1 ≡ suc k = omega arith in
    ap (steps s pid) one ∙ (ap (row_and (λ t. steps t pid k) s pid) e ∙ ap one_more (more (row s pid p)))

-- rows are as many as they were
counted : (n : ℕ) (s : State) (pid : ℕ) → steps s pid (steps s pid n).count ≡ steps s pid n
counted zero s pid = refl
counted (suc n) s pid = counted_by s pid (λ t. steps t pid n) (running (process_of s.processes pid)) refl (λ t. counted n t pid)

told_state : (s : State) (pid c : ℕ) → (run s (steps_of pid c)).state ≡ (steps s pid c).state
told_state s pid zero = refl
told_state s pid (suc c) = steps_state s pid (suc c)

-- ---- one event

abbrev Erased : Debugged → List (Event Listing) → DebugNext → Type 0
Erased d events x = (run d.node events).state ≡ x.state.node

either : (d : Debugged) (events : DebugAnswer → List (Event Listing)) (b : Bool) (x y : DebugNext) → Erased d (events x.answer) x → Erased d (events y.answer) y → Erased d (events (cond b x y).answer) (cond b x y)
either d events true x y h k = h
either d events false x y h k = k

halts_erased : (d : Debugged) (pid n : ℕ) (h : Halting) (o : Option Process) → steps d.node pid h.rows.count ≡ h.rows
    → Erased d (steps_of pid (rows_of_answer (halted d pid h o).answer)) (halted d pid h o)
halts_erased d pid n h None e = refl
halts_erased d pid n h (Some p) e = by h.stopped
  where
    by : (b : Bool) → Erased d (steps_of pid (rows_of_answer (halted d pid (record h { stopped = b }) (Some p)).answer)) (halted d pid (record h { stopped = b }) (Some p))
    by true = told_state d.node pid h.rows.count ∙ ap (λ rows. rows.state) e
    by false = told_state d.node pid h.rows.count ∙ ap (λ rows. rows.state) e

steps_erased : (d : Debugged) (pid n : ℕ) (o : Option Process) → Erased d (steps_of pid (rows_of_answer (debug_steps d pid n o).answer)) (debug_steps d pid n o)
steps_erased d pid n None = refl
steps_erased d pid n (Some p) =
    let h : Halting = halting d.spots (is_among pid d.passing) d.node pid n in
    either d (λ a. steps_of pid (rows_of_answer a)) (is_among pid d.held) _ _ refl
    (either d (λ a. steps_of pid (rows_of_answer a)) (is_waiting p.status) _ _ refl
    (halts_erased d pid n h (process_of h.rows.state.processes pid) (halting_rows n d.spots (is_among pid d.passing) d.node pid)))

told_held : (count : ℕ) (then' : Then) → rows_of_answer (Ok (held_at count then')) ≡ count
told_held count GoesOn = refl
told_held count Waits = refl
told_held count (Ended reason value) = refl

stepped_erased : (d : Debugged) (pid : ℕ) (rows : Rows) (o : Option Process) → steps d.node pid rows.count ≡ rows
    → Erased d (steps_of pid (rows_of_answer (stepped d pid rows o).answer)) (stepped d pid rows o)
stepped_erased d pid rows None e = refl
stepped_erased d pid rows (Some p) e =
    ap (λ c. (run d.node (steps_of pid c)).state) (told_held rows.count (then_of p.status)) ∙ (told_state d.node pid rows.count ∙ ap (λ r. r.state) e)

step_one_erased : (d : Debugged) (pid : ℕ) (o : Option Process) → Erased d (steps_of pid (rows_of_answer (debug_step_one d pid o).answer)) (debug_step_one d pid o)
step_one_erased d pid None = refl
step_one_erased d pid (Some p) =
    let rows : Rows = steps d.node pid 1 in
    either d (λ a. steps_of pid (rows_of_answer a)) (is_among pid d.held && not (is_waiting p.status)) _ _
    (stepped_erased d pid rows (process_of rows.state.processes pid) (counted 1 d.node pid)) refl

-- an event of the node
node_erased : (d : Debugged) (e : Event Listing) → Erased d (e ∷ []) (of_node d (next d.node e))
node_erased d e = by (next d.node e).answer refl
  where
    by : (a : Answer) → (next d.node e).answer ≡ a → (next d.node e).state ≡ (answered d (next d.node e).state a).state.node
    by (Ok reply) h = refl
    by (Err r) h = refusal d.node e r h

set_erased : (d : Debugged) (o : Option Place) → d.node ≡ (debug_set d o).state.node
set_erased d None = refl
set_erased d (Some place) = refl

clear_erased : (d : Debugged) (o : Option Place) → d.node ≡ (debug_clear d o).state.node
clear_erased d None = refl
clear_erased d (Some place) = refl

resume_erased : (d : Debugged) (pid : ℕ) (o : Option Process) → d.node ≡ (debug_resume d pid o).state.node
resume_erased d pid None = refl
resume_erased d pid (Some p) = by (is_among pid d.held)
  where
    lets_go : DebugNext
    lets_go = replies (record d { held = without_pid pid d.held; passing = with_pid pid d.passing }) (Node Done)

    by : (b : Bool) → d.node ≡ (cond {A = DebugNext} b lets_go (refuses d NotReady)).state.node
    by true = refl
    by false = refl

inspect_erased : (d : Debugged) (pid : ℕ) (o : Option Process) → d.node ≡ (debug_inspect d pid o).state.node
inspect_erased d pid None = refl
inspect_erased d pid (Some p) = refl

event_erased : (d : Debugged) (e : DebugEvent Listing) → Erased d (erased e (debug_next d e).answer) (debug_next d e)
event_erased d (NodeEvent (event.Steps pid n)) = steps_erased d pid n (live_process d.node.processes pid)
event_erased d (NodeEvent e) = node_erased d e
event_erased d (SetBreak spot) = set_erased d (place_named d.node.code spot)
event_erased d (ClearBreak spot) = clear_erased d (place_named d.node.code spot)
event_erased d (Resume pid) = resume_erased d pid (live_process d.node.processes pid)
event_erased d (StepOne pid) = step_one_erased d pid (live_process d.node.processes pid)
event_erased d (Inspect pid) = inspect_erased d pid (process_of d.node.processes pid)

-- ---- many events

joined : (s : State) (xs ys : List (Event Listing)) → (run s (xs ++ ys)).state ≡ (run (run s xs).state ys).state
joined s [] ys = refl
joined s (e ∷ xs) ys = joined (next s e).state xs ys

pub run_erased : (d : Debugged) (events : List (DebugEvent Listing)) → (run d.node (erase d events)).state ≡ (debug_run d events).state.node
run_erased d [] = refl
run_erased d (e ∷ events) =
    let x : DebugNext = debug_next d e in
    joined d.node (erased e x.answer) (erase x.state events)
    ∙ (ap (λ s. (run s (erase x.state events)).state) (event_erased d e) ∙ run_erased x.state events)

-- ---- without break spots

abbrev whole : Rows → Halting
whole rows = record { rows = rows; stopped = false }

unhalted_by : (passes : Bool) (s : State) (pid : ℕ) (halts' : State → Halting) (rest : State → Rows) (o : Option Process) → ((t : State) → halts' t ≡ whole (rest t))
    → halts_or halts' [] passes s pid o ≡ whole (row_and rest s pid o)
unhalted_by passes s pid halts' rest None same = refl
unhalted_by passes s pid halts' rest (Some p) same =
    ap (λ b. cond {A = Halting} b (no_rows s true) (and_one (halts' (row s pid p)))) (none_at passes p.goes) ∙ ap and_one (same (row s pid p))

unhalted : (n : ℕ) (passes : Bool) (s : State) (pid : ℕ) → halting [] passes s pid n ≡ whole (steps s pid n)
unhalted zero passes s pid = refl
unhalted (suc n) passes s pid =
    unhalted_by passes s pid (λ t. halting [] false t pid n) (λ t. steps t pid n) (running (process_of s.processes pid)) (λ t. unhalted n false t pid)

none_passing : (pid : ℕ) (b : Bool) → cond b (without_pid pid []) [] ≡ []
none_passing pid true = refl
none_passing pid false = refl

ran_as : (s : State) (pid : ℕ) (p : Process) (rows : Rows) (o : Option Process) → process_of rows.state.processes pid ≡ o → (process_of rows.state.processes pid ≡ None → ⊥)
    → halted (undisturbed s) pid (whole rows) o ≡ of_node (undisturbed s) (ran_to rows o)
ran_as s pid p rows None e some = absurd (some e)
ran_as s pid p rows (Some q) e some =
    ap (λ (ps : List ℕ). record { answer = Ok (Node (Ran rows.count (then_of q.status))); state = pruned (record { node = rows.state; spots = []; held = []; passing = ps }) })
    (none_passing pid (nat_lt 0 rows.count))

steps_as : (s : State) (pid n : ℕ) (o : Option Process) → live_process s.processes pid ≡ o → debug_steps (undisturbed s) pid n o ≡ of_node (undisturbed s) (next_steps s pid n o)
steps_as s pid n None e = refl
steps_as s pid n (Some p) e = by (is_waiting p.status)
  where
    q : (q : Process) × (process_of s.processes pid ≡ Some q)
    q = there (process_of s.processes pid) p e

    rows : Rows
    rows = steps s pid n

    by : (b : Bool) → cond {A = DebugNext} b (refuses (undisturbed s) NotReady) (halts (undisturbed s) pid (halting [] false s pid n))
        ≡ of_node (undisturbed s) (cond {A = Next} b (refused s NotReady) (ran pid rows))
    by true = refl
    by false =
        ap (halts (undisturbed s) pid) (unhalted n false s pid)
        ∙ ran_as s pid p rows (process_of rows.state.processes pid) refl (stays s.processes rows.state.processes pid q.0 (steps_longer n s pid) q.1)

pub node_as : (s : State) (e : Event Listing) → debug_next (undisturbed s) (NodeEvent e) ≡ of_node (undisturbed s) (next s e)
node_as s (event.Steps pid n) = steps_as s pid n (live_process s.processes pid) refl
node_as s e = refl

-- ---- what is live

-- break spots lie in live instances, and held processes haven't ended
abbrev Settled : Debugged → Type 0
Settled d = AllByRecursion (λ (spot : Place). is_live d.node.code spot.instance ≡ true) d.spots × AllByRecursion (λ (pid : ℕ). is_live_process d.node pid ≡ true) d.held

settles : (d : Debugged) → Settled (pruned d)
settles d = (kept (λ (spot : Place). is_live d.node.code spot.instance) d.spots, kept (is_live_process d.node) d.held)

run_settled : (d : Debugged) (events : List (DebugEvent Listing)) → Settled d → Settled (debug_run d events).state
run_settled d [] k = k
run_settled d (e ∷ events) k = run_settled (debug_next d e).state events (event_settled Settled settles d e k)

pub from_undisturbed : (s : State) (events : List (DebugEvent Listing)) → Settled (debug_run (undisturbed s) events).state
from_undisturbed s events = run_settled (undisturbed s) events (tt, tt)
