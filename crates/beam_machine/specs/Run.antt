-- The node after a list of events, where memory may be refused. (This node's own.)
use Rattle.std.specs.Prelude.{◌≡◌, ℕ, nat_lt, ◌&&◌, if◌then◌else◌, List, [], ◌∷◌, ◌++◌, Ok, Err}
use Rattle.beam_machine.specs.declared.event.Event.{Event}
use Rattle.beam_machine.specs.declared.event.Event.TheVariants.{Steps}
use Rattle.beam_machine.specs.declared.event.Then.{Then}
use Rattle.beam_machine.specs.declared.event.Then.TheVariants.{GoesOn, Waits, Ended}
use Rattle.beam_machine.specs.declared.event.Reply.TheVariants.{Ran}
use Rattle.beam_machine.specs.declared.event.Refused.TheVariants.{NoMemory}
use Rattle.beam_model.specs.Prelude.{Listing}
use Rattle.beam_machine.specs.State.{State}
use Rattle.beam_machine.specs.Next.{Answer, next}

-- one answer an event, and the state in the end
pub record Run : Type 0 where
  pub answers : List Answer
  pub state : State

abbrev pub run : State → List (Event Listing) → Run
run s [] = record { answers = []; state = s }
run s (event ∷ events) =
    let first = next s event in
    let rest = run first.state events in
    record { answers = first.answer ∷ rest.answers; state = rest.state }

-- how many of n rows count: only the rows that were done, where memory was refused in the middle
abbrev pub effective_rows : ℕ → ℕ → Then → ℕ
effective_rows n count GoesOn = if nat_lt 0 count && nat_lt count n then count else n
effective_rows n count Waits = n
effective_rows n count (Ended reason value) = n

-- the event that took place where memory was refused in the middle of it: fewer rows
abbrev pub cut_event : Event Listing → Answer → Event Listing
cut_event (Steps pid n) (Ok (Ran count after)) = Steps pid (effective_rows n count after)
cut_event event answer = event

-- a possible answer to an event: that of Next, for the event or for its rows that were done; or NoMemory, and nothing changed
abbrev pub Answers : State → Event Listing → Answer → State → Type 0
Answers old event (Err NoMemory) new = new ≡ old
Answers old event answer new = next old (cut_event event answer) ≡ record { answer = answer; state = new }

-- the state after an event that was answered so
abbrev pub after : State → Event Listing → Answer → State
after s event (Err NoMemory) = s
after s event answer = (next s (cut_event event answer)).state

-- an event that was refused for memory doesn't stand in the list
abbrev pub effective_event : Event Listing → Answer → List (Event Listing)
effective_event event (Err NoMemory) = []
effective_event event answer = cut_event event answer ∷ []

abbrev pub effective_answer : Answer → List Answer
effective_answer (Err NoMemory) = []
effective_answer answer = answer ∷ []

-- the events that took place: without those that were refused for memory, and each with as many rows as its answer has
abbrev pub effective_events : List (Event Listing) → List Answer → List (Event Listing)
effective_events (event ∷ events) (answer ∷ answers) = effective_event event answer ++ effective_events events answers
effective_events [] answers = []
effective_events events [] = []

-- the answers without those for want of memory
abbrev pub effective_answers : List Answer → List Answer
effective_answers [] = []
effective_answers (answer ∷ answers) = effective_answer answer ++ effective_answers answers
