-- Beginnings that several stories share.
use Rattle.std.specs.Prelude.{[], ◌∷◌, Some, None, Ok, codes}
use Rattle.beam_machine.specs.declared.event.Event.TheVariants.{Load, Spawn, Steps, Deliver, Send}
use Rattle.beam_machine.specs.declared.event.Reply.TheVariants.{Done, Started, Ran, Versions}
use Rattle.beam_machine.specs.declared.event.Then.TheVariants.{GoesOn, Waits}
use Rattle.beam_machine.specs.Prelude.{own_pid}
use Rattle.beam_laws.specs.Listings.{d, g, l, r, w}
use Rattle.beam_laws.specs.Written.{integer as given}
use Rattle.beam_laws.specs.Story.{Story}
use Rattle.beam_laws.specs.Terms.{atom}

-- a process is about to call b
abbrev pub before_the_call : Story
before_the_call =
    (Load (g 1), Ok (Versions (Some 1) None))
    ∷ (Spawn (codes "g") (codes "a") [], Ok (Started 1))
    ∷ (Steps 1 2, Ok (Ran 2 GoesOn))
    ∷ []

-- a process has called b of the second instance, and will return to a of the first
abbrev pub within_the_call : Story
within_the_call =
    (Load (g 1), Ok (Versions (Some 1) None))
    ∷ (Spawn (codes "g") (codes "a") [], Ok (Started 1))
    ∷ (Steps 1 2, Ok (Ran 2 GoesOn))
    ∷ (Load (g 2), Ok (Versions (Some 2) (Some 1)))
    ∷ (Steps 1 1, Ok (Ran 1 GoesOn))
    ∷ []

-- a, b and c are in transit to a process that receives c first
abbrev pub three_messages : Story
three_messages =
    (Load r, Ok (Versions (Some 1) None))
    ∷ (Spawn (codes "r") (codes "get") [], Ok (Started 1))
    ∷ (Send (own_pid 1) (atom "a"), Ok Done)
    ∷ (Send (own_pid 1) (atom "b"), Ok Done)
    ∷ (Send (own_pid 1) (atom "c"), Ok Done)
    ∷ []

-- a process is about to receive any message
abbrev pub one_that_receives : Story
one_that_receives =
    (Load (w (given 100)), Ok (Versions (Some 1) None))
    ∷ (Spawn (codes "w") (codes "f") [], Ok (Started 1))
    ∷ []

-- a process is in the second instance, with a catch tag of the first
abbrev pub with_a_tag : Story
with_a_tag =
    (Load (l 1), Ok (Versions (Some 1) None))
    ∷ (Spawn (codes "l") (codes "a") [], Ok (Started 1))
    ∷ (Steps 1 3, Ok (Ran 3 GoesOn))
    ∷ (Load (l 2), Ok (Versions (Some 2) (Some 1)))
    ∷ (Steps 1 1, Ok (Ran 1 GoesOn))
    ∷ []

-- a process is in the second instance, with a deadline whose place after it is in the first
abbrev pub with_a_deadline : Story
with_a_deadline =
    (Load (d 1), Ok (Versions (Some 1) None))
    ∷ (Spawn (codes "d") (codes "a") [], Ok (Started 1))
    ∷ (Steps 1 100, Ok (Ran 2 Waits))
    ∷ (Load (d 2), Ok (Versions (Some 2) (Some 1)))
    ∷ (Send (own_pid 1) (atom "go"), Ok Done)
    ∷ (Deliver 1, Ok Done)
    ∷ (Steps 1 1, Ok (Ran 1 GoesOn))
    ∷ []
