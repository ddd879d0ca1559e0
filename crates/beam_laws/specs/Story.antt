-- Stories: events from the empty node on, each with the answer to it.
use Rattle.std.specs.Prelude.{◌≡◌, ℕ, List, [], ◌∷◌, map, Option, Some, None, option_map, option_and_then}
use Rattle.beam_machine.specs.declared.event.Event.{Event}
use Rattle.beam_machine.specs.declared.process.Frame.{Frame}
use Rattle.beam_machine.specs.declared.process.Goes.TheVariants.{At, Enter, Nowhere}
use Rattle.beam_machine.specs.declared.process.Signal.{Signal}
use Rattle.beam_machine.specs.declared.process.Status.{Status}
use Rattle.beam_machine.specs.Prelude.{Process, State, empty, process_of, Answer, run}
use Rattle.beam_model.specs.Prelude.{Place, Listing}
use Rattle.beam_machine.specs.declared.process.Goes.{Goes}

abbrev pub Story : Type 0
Story = List (Event Listing × Answer)

abbrev pub events_of : Story → List (Event Listing)
events_of story = map (λ part. part.0) story

abbrev pub answers_of : Story → List Answer
answers_of story = map (λ part. part.1) story

-- from the empty node on, each event of the story has the answer that the story has
abbrev pub Happens : Story → Type 0
Happens story = (run empty (events_of story)).answers ≡ answers_of story

-- the node after the story
abbrev pub after : Story → State
after story = (run empty (events_of story)).state

-- ---- processes after a story

abbrev pub process_after : Story → ℕ → Option Process
process_after story pid = process_of (after story).processes pid

abbrev pub status_after : Story → ℕ → Option Status
status_after story pid = option_map (λ p. p.status) (process_after story pid)

-- the signals in transit to the process
abbrev pub transit_after : Story → ℕ → Option (List Signal)
transit_after story pid = option_map (λ p. p.transit) (process_after story pid)

abbrev pub instance_in : Goes → Option ℕ
instance_in (At place) = Some place.instance
instance_in (Enter «module» function arity) = None
instance_in Nowhere = None

-- the instance in which the process's place lies
abbrev pub place_after : Story → ℕ → Option ℕ
place_after story pid = option_and_then (λ p. instance_in p.goes) (process_after story pid)

abbrev pub instance_at : Option Place → List ℕ → List ℕ
instance_at (Some place) rest = place.instance ∷ rest
instance_at None rest = rest

abbrev pub instances_in : List Frame → List ℕ
instances_in [] = []
instances_in (frame ∷ older) = instance_at frame.back (instances_in older)

-- the instances to which the process's frames return, the newest frame first
abbrev pub frames_after : Story → ℕ → Option (List ℕ)
frames_after story pid = option_map (λ p. instances_in p.frames) (process_after story pid)
