-- How a call runs: in rounds over the processes, by their pids. (This program's own.)
use Rattle.std.specs.Prelude.{◌≤◌, ℕ, suc, zero, ◌-◌, ◌==◌, true, false, if◌then◌else◌, nat_le, min, Option, Some, None, Ok, Err, ⊤}
use Rattle.beam_machine.specs.declared.event.Event.{Event}
use Rattle.beam_machine.specs.declared.event.Event.TheVariants.{Clock, Deliver, Steps, Timeout}
use Rattle.beam_machine.specs.declared.event.Refused.TheVariants.{NoMemory}
use Rattle.beam_machine.specs.declared.event.Reply.TheVariants.{Ran}
use Rattle.beam_machine.specs.declared.event.Then.TheVariants.{GoesOn}
use Rattle.beam_machine.specs.declared.process.Status.{Status}
use Rattle.beam_machine.specs.Prelude.{Answer, Next, next, most_processes, Process, next_deadline, ready_after, State, process_of}
use Rattle.beam_machine.specs.declared.process.Status.TheVariants as status
use Rattle.beam_model.specs.Prelude.{Listing}
use Rattle.beam_tools.specs.declared.rounds.CallOutcome.{CallOutcome}
use Rattle.beam_tools.specs.declared.rounds.CallOutcome.TheVariants.{Ended, Spent, Stuck}
use Rattle.beam_tools.specs.declared.rounds.Rounds.{Rounds}

-- the state of the rounds: the node; the pid after which the next process that can go on is looked for, where 0 begins a round; whether a
-- process had its turn in this round; and the rows that are left of the budget

abbrev pub new_round : State → ℕ → Rounds
new_round s left = record { node = s; after = 0; ran = false; left = left }

-- ---- the turn of a process

-- the most rows of a turn
abbrev pub most_rows : ℕ
most_rows = 4000

-- the signals in transit to a process arrive; if there are none, this is refused and changes nothing
abbrev pub with_arrivals : State → ℕ → State
with_arrivals s pid = (next s (Deliver pid)).state

-- how many rows an answer counts; a refusal, as of a process that still waits, counts none
abbrev pub rows_of : Answer → ℕ
rows_of (Ok (Ran count after)) = count
rows_of _ = 0

-- the turn is over, and the rows that were run are taken from the budget
abbrev pub after_turn : Rounds → ℕ → Next → Rounds
after_turn r pid n = record { node = n.state; after = pid; ran = true; left = r.left - rows_of n.answer }

-- the signals in transit to the process arrive, and then it runs at most `most_rows` rows, or as many as are left of the budget
abbrev pub turn : Rounds → ℕ → Rounds
turn r pid = after_turn r pid (next (with_arrivals r.node pid) (Steps pid (min r.left most_rows)))

-- an answer to n rows that memory neither refused nor stopped before the last
abbrev pub IsWhole : ℕ → Answer → Type 0
IsWhole n (Ok (Ran count GoesOn)) = n ≤ count
IsWhole n (Err NoMemory) = ⊥
IsWhole n _ = ⊤

-- an event that runs no rows
abbrev pub RunsNoRows : Event Listing → Type 0
RunsNoRows (Steps pid n) = ⊥
RunsNoRows _ = ⊤

-- ---- where no process can go on

-- the process that waits and has the least deadline goes on, if that has come; then the others do
abbrev pub wake : (State → State) → ℕ → State → Option (ℕ × ℕ) → State
wake rest now s (Some due) = if nat_le due.0 now then rest (next s (Timeout due.1)).state else s
wake rest now s None = s

-- at most n processes go on whose deadlines have come by now, the least deadline first
unfoldable pub woken : ℕ → ℕ → State → State
woken zero now s = s
woken (suc n) now s = wake (woken n now) now s (next_deadline s.processes)

-- the clock moves to a time, and all processes go on whose deadlines have come by then
abbrev pub at_time : ℕ → State → State
at_time now s = woken most_processes now (next s (Clock now)).state

-- ---- the rounds

-- what follows a step: the rounds go on, or come to their outcome
pub data Onward : Type 0 where
  goes_on : Rounds → Onward
  comes_to : CallOutcome → Onward

-- after a round in which nothing ran, the clock moves to the least deadline; without a deadline no process can run
abbrev pub by_deadline : Rounds → Option (ℕ × ℕ) → Onward
by_deadline r (Some due) = goes_on (new_round (at_time due.0 r.node) r.left)
by_deadline r None = comes_to Stuck

-- after a round comes the next one
abbrev pub after_round : Rounds → Onward
after_round r = if r.ran then goes_on (new_round r.node r.left) else by_deadline r (next_deadline r.node.processes)

-- the next process that can go on has its turn
abbrev pub by_ready : Rounds → Option ℕ → Onward
by_ready r (Some pid) = goes_on (turn r pid)
by_ready r None = after_round r

-- the rounds end when process 1 has ended, or when no row is left of the budget
abbrev pub by_end : Rounds → Option CallOutcome → Onward
by_end r (Some outcome) = comes_to outcome
by_end r None = if r.left == 0 then comes_to Spent else by_ready r (ready_after r.after r.node.processes)

abbrev pub end_by : Status → Option CallOutcome
end_by (status.Ended reason value) = Some (Ended reason value)
end_by _ = None

-- how a process ended, if it has
abbrev pub end_of : Option Process → Option CallOutcome
end_of (Some p) = end_by p.status
end_of None = None

abbrev pub onward : Rounds → Onward
onward r = by_end r (end_of (process_of r.node.processes 1))

-- what a turn or a wait comes to: an outcome, or how far the rounds have come
abbrev pub onward_of : Option CallOutcome → Rounds → Onward
onward_of (Some outcome) r = comes_to outcome
onward_of None r = goes_on r

-- ---- their outcome

abbrev pub outcome_by : (Rounds → CallOutcome) → Onward → CallOutcome
outcome_by rest (goes_on r) = rest r
outcome_by rest (comes_to outcome) = outcome

-- the outcome of the rounds within n turns and waits
unfoldable pub outcome_within : ℕ → Rounds → CallOutcome
outcome_within zero r = Spent
outcome_within (suc n) r = outcome_by (outcome_within n) (onward r)

-- the outcome of the rounds; a budget of 32 bits lasts for less than 2^64 - 1 turns and waits
abbrev pub outcome_of : Rounds → CallOutcome
outcome_of r = outcome_within 18446744073709551615 r
