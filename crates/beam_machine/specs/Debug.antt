-- The node with its debugger: break spots, and processes that are held before a row. (This node's own.)
use Rattle.std.specs.Prelude.{ℕ, zero, suc, ◌+◌, ◌==◌, ◌&&◌, ◌||◌, nat_lt, Bool, true, false, not, if◌then◌else◌, List, [], ◌∷◌, ◌++◌, length, filter, Option, Some, None, is_some, option_map, option_and_then, Result, Ok, Err}
use Rattle.std.specs.List.{list_any}
use Rattle.beam_machine.specs.declared.debug.DebugEvent.{DebugEvent}
use Rattle.beam_machine.specs.declared.debug.DebugEvent.TheVariants.{Node as NodeEvent, SetBreak, ClearBreak, Resume, StepOne, Inspect}
use Rattle.beam_machine.specs.declared.debug.DebugReply.{DebugReply}
use Rattle.beam_machine.specs.declared.debug.DebugReply.TheVariants.{Node, Held, Viewed}
use Rattle.beam_machine.specs.declared.debug.Spot.{Spot}
use Rattle.beam_machine.specs.declared.debug.Version.{Version}
use Rattle.beam_machine.specs.declared.debug.Version.TheVariants.{Current, Old}
use Rattle.beam_machine.specs.declared.event.Event.{Event}
use Rattle.beam_machine.specs.declared.event.Event.TheVariants.{Steps}
use Rattle.beam_machine.specs.declared.event.Reply.TheVariants.{Done, Changed, Ran}
use Rattle.beam_machine.specs.declared.event.Refused.{Refused}
use Rattle.beam_machine.specs.declared.event.Refused.TheVariants.{NoProcess, NotReady, Stopped, BadSpot}
use Rattle.beam_machine.specs.declared.event.Then.{Then}
use Rattle.beam_machine.specs.declared.event.Then.TheVariants.{Ended}
use Rattle.beam_machine.specs.declared.process.Goes.{Goes}
use Rattle.beam_machine.specs.declared.process.Goes.TheVariants.{At, Enter, Nowhere}
use Rattle.beam_model.specs.declared.instruction.Instruction.{Instruction}
use Rattle.beam_model.specs.Prelude.{Listing, row_of_label, next_row, Place, is_same_place}
use Rattle.beam_machine.specs.Change.{is_live}
use Rattle.beam_machine.specs.Code.{Code, Instance, Versions, versions_of}
use Rattle.beam_machine.specs.Next.{Answer, Next, Rows, next, row, running, steps}
use Rattle.beam_machine.specs.Process.{Process, is_waiting, then_of}
use Rattle.beam_machine.specs.State.{State, process_of, live_process}
use Rattle.beam_machine.specs.View.{View, view_of}

pub record Debugged : Type 0 where
  pub node : State
  pub spots : List Place  -- the rows before which processes stop, by instance and position, each once
  pub held : List ℕ  -- the pids of the processes that are held, rising, each once
  pub passing : List ℕ  -- the pids of the processes that may run the row of a break spot, rising, each once

-- a node without break spots, of which no process is held
abbrev pub undisturbed : State → Debugged
undisturbed s = record { node = s; spots = []; held = []; passing = [] }

-- ---- sets of pids and of places

abbrev pub is_among : ℕ → List ℕ → Bool
is_among n ns = list_any (λ m. m == n) ns

abbrev pub with_pid : ℕ → List ℕ → List ℕ
with_pid n [] = n ∷ []
with_pid n (m ∷ rest) = if n == m then m ∷ rest else if nat_lt n m then n ∷ m ∷ rest else m ∷ with_pid n rest

abbrev pub without_pid : ℕ → List ℕ → List ℕ
without_pid n ns = filter (λ m. not (m == n)) ns

abbrev pub comes_before : Place → Place → Bool
comes_before a b = nat_lt a.instance b.instance || (a.instance == b.instance && nat_lt a.at b.at)

abbrev pub is_spot : Place → List Place → Bool
is_spot place spots = list_any (λ spot. is_same_place spot place) spots

abbrev pub with_spot : Place → List Place → List Place
with_spot place [] = place ∷ []
with_spot place (spot ∷ rest) =
    if is_same_place place spot then spot ∷ rest
    else if comes_before place spot then place ∷ spot ∷ rest
    else spot ∷ with_spot place rest

abbrev pub without_spot : Place → List Place → List Place
without_spot place spots = filter (λ spot. not (is_same_place spot place)) spots

-- ---- the row that a spot names

-- the position n rows after a position, if it is before the end of the code: no spot names the end
abbrev pub rows_after : ℕ → ℕ → List Instruction → Option ℕ
rows_after zero at code = if nat_lt at (length code) then Some at else None
rows_after (suc n) at code = if nat_lt at (length code) then rows_after n (next_row at code) code else None

abbrev pub row_in : ℕ → ℕ → Instance → Option Place
row_in label rows i = option_map (λ at. record { instance = i.number; at = at })
    (option_and_then (λ at. rows_after rows at i.listing.instructions) (row_of_label label 0 i.listing.instructions))

abbrev pub instance_of_version : Version → Versions → Option Instance
instance_of_version Current v = v.current
instance_of_version Old v = v.old

abbrev pub place_named : Code → Spot → Option Place
place_named code spot = option_and_then (row_in spot.label spot.rows) (instance_of_version spot.version (versions_of code spot.«module»))

-- ---- rows, with break spots

abbrev pub is_at_spot : List Place → Goes → Bool
is_at_spot spots (At place) = is_spot place spots
is_at_spot spots (Enter «module» function arity) = false
is_at_spot spots Nowhere = false

-- the rows that were done, and whether the process stopped before a break spot's
pub record Halting : Type 0 where
  pub rows : Rows
  pub stopped : Bool

abbrev pub no_rows : State → Bool → Halting
no_rows s stopped = record { rows = record { count = 0; state = s }; stopped = stopped }

abbrev pub and_one : Halting → Halting
and_one rest = record rest { rows = record rest.rows { count = rest.rows.count + 1 } }

abbrev pub halts_or : (State → Halting) → List Place → Bool → State → ℕ → Option Process → Halting
halts_or rest spots passes s pid (Some p) = if not passes && is_at_spot spots p.goes then no_rows s true else and_one (rest (row s pid p))
halts_or rest spots passes s pid None = no_rows s false

-- rows until n are done, or the process waits or ends, or its next row is that of a break spot, which it may pass once as its first
abbrev pub halting : List Place → Bool → State → ℕ → ℕ → Halting
halting spots passes s pid zero = no_rows s false
halting spots passes s pid (suc n) = halts_or (λ t. halting spots false t pid n) spots passes s pid (running (process_of s.processes pid))

-- ---- one event

abbrev pub DebugAnswer : Type 0
DebugAnswer = Result (DebugReply View) Refused

pub record DebugNext : Type 0 where
  pub answer : DebugAnswer
  pub state : Debugged

-- a refusal changes nothing
abbrev pub refuses : Debugged → Refused → DebugNext
refuses d refusal = record { answer = Err refusal; state = d }

abbrev pub is_live_process : State → ℕ → Bool
is_live_process s pid = is_some (live_process s.processes pid)

-- an ended process isn't held, and a break spot goes with its instance
abbrev pub pruned : Debugged → Debugged
pruned d = record d {
  spots = filter (λ spot. is_live d.node.code spot.instance) d.spots;
  held = filter (is_live_process d.node) d.held;
  passing = filter (is_live_process d.node) d.passing;
}

abbrev pub replies : Debugged → DebugReply View → DebugNext
replies d reply = record { answer = Ok reply; state = pruned d }

abbrev pub answered : Debugged → State → Answer → DebugNext
answered d s (Ok reply) = replies (record d { node = s }) (Node reply)
answered d s (Err refusal) = refuses d refusal

-- the outcome of an event of the node
abbrev pub of_node : Debugged → Next → DebugNext
of_node d n = answered d n.state n.answer

-- a process that executed a row may no longer pass a spot
abbrev pub passes_on : ℕ → ℕ → List ℕ → List ℕ
passes_on count pid passing = if nat_lt 0 count then without_pid pid passing else passing

abbrev pub after_rows : Debugged → ℕ → Rows → Debugged
after_rows d pid rows = record d { node = rows.state; passing = passes_on rows.count pid d.passing }

abbrev pub halted : Debugged → ℕ → Halting → Option Process → DebugNext
halted d pid h (Some p) =
    if h.stopped then replies (record (after_rows d pid h.rows) { held = with_pid pid d.held }) (Held h.rows.count)
    else replies (after_rows d pid h.rows) (Node (Ran h.rows.count (then_of p.status)))
halted d pid h None = refuses d NoProcess

abbrev pub halts : Debugged → ℕ → Halting → DebugNext
halts d pid h = halted d pid h (process_of h.rows.state.processes pid)

abbrev pub debug_steps : Debugged → ℕ → ℕ → Option Process → DebugNext
debug_steps d pid n (Some p) =
    if is_among pid d.held then refuses d Stopped
    else if is_waiting p.status then refuses d NotReady
    else halts d pid (halting d.spots (is_among pid d.passing) d.node pid n)
debug_steps d pid n None = refuses d NoProcess

-- the reply of a held process that executed rows: it is held, or has ended
abbrev pub held_at : ℕ → Then → DebugReply View
held_at count (Ended reason value) = Node (Ran count (Ended reason value))
held_at count _ = Held count

abbrev pub stepped : Debugged → ℕ → Rows → Option Process → DebugNext
stepped d pid rows (Some p) = replies (after_rows d pid rows) (held_at rows.count (then_of p.status))
stepped d pid rows None = refuses d NoProcess

abbrev pub steps_one : Debugged → ℕ → Rows → DebugNext
steps_one d pid rows = stepped d pid rows (process_of rows.state.processes pid)

abbrev pub debug_step_one : Debugged → ℕ → Option Process → DebugNext
debug_step_one d pid (Some p) = if is_among pid d.held && not (is_waiting p.status) then steps_one d pid (steps d.node pid 1) else refuses d NotReady
debug_step_one d pid None = refuses d NoProcess

abbrev pub debug_resume : Debugged → ℕ → Option Process → DebugNext
debug_resume d pid (Some p) =
    if is_among pid d.held then replies (record d { held = without_pid pid d.held; passing = with_pid pid d.passing }) (Node Done)
    else refuses d NotReady
debug_resume d pid None = refuses d NoProcess

-- setting a break spot: it answers whether the spot is new
abbrev pub debug_set : Debugged → Option Place → DebugNext
debug_set d (Some place) = replies (record d { spots = with_spot place d.spots }) (Node (Changed (not (is_spot place d.spots))))
debug_set d None = refuses d BadSpot

abbrev pub debug_clear : Debugged → Option Place → DebugNext
debug_clear d (Some place) = replies (record d { spots = without_spot place d.spots }) (Node (Changed (is_spot place d.spots)))
debug_clear d None = refuses d BadSpot

-- inspecting a process: of an ended one its reason is seen
abbrev pub debug_inspect : Debugged → ℕ → Option Process → DebugNext
debug_inspect d pid (Some p) = replies d (Viewed (view_of d.node.code (is_among pid d.held) p))
debug_inspect d pid None = refuses d NoProcess

abbrev pub debug_next : Debugged → DebugEvent Listing → DebugNext
debug_next d (NodeEvent (Steps pid n)) = debug_steps d pid n (live_process d.node.processes pid)
debug_next d (NodeEvent event) = of_node d (next d.node event)
debug_next d (SetBreak spot) = debug_set d (place_named d.node.code spot)
debug_next d (ClearBreak spot) = debug_clear d (place_named d.node.code spot)
debug_next d (Resume pid) = debug_resume d pid (live_process d.node.processes pid)
debug_next d (StepOne pid) = debug_step_one d pid (live_process d.node.processes pid)
debug_next d (Inspect pid) = debug_inspect d pid (process_of d.node.processes pid)

-- ---- many events

pub record DebugRun : Type 0 where
  pub answers : List DebugAnswer
  pub state : Debugged

abbrev pub debug_run : Debugged → List (DebugEvent Listing) → DebugRun
debug_run d [] = record { answers = []; state = d }
debug_run d (event ∷ events) =
    let first = debug_next d event in
    let rest = debug_run first.state events in
    record { answers = first.answer ∷ rest.answers; state = rest.state }

-- ---- without the debugger

-- the count of rows in an answer
abbrev pub rows_of_answer : DebugAnswer → ℕ
rows_of_answer (Ok (Node (Ran count after))) = count
rows_of_answer (Ok (Held count)) = count
rows_of_answer _ = 0

abbrev pub steps_of : ℕ → ℕ → List (Event Listing)
steps_of pid zero = []
steps_of pid (suc n) = Steps pid (suc n) ∷ []

-- the events of a node without a debugger that an event with this answer stands for: the rows that were done, none for the debugger's own
abbrev pub erased : DebugEvent Listing → DebugAnswer → List (Event Listing)
erased (NodeEvent (Steps pid n)) answer = steps_of pid (rows_of_answer answer)
erased (NodeEvent event) answer = event ∷ []
erased (StepOne pid) answer = steps_of pid (rows_of_answer answer)
erased _ answer = []

abbrev pub erase : Debugged → List (DebugEvent Listing) → List (Event Listing)
erase d [] = []
erase d (event ∷ events) = erased event (debug_next d event).answer ++ erase (debug_next d event).state events
