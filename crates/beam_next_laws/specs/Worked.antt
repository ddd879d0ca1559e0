-- Two beginnings of stories, in which the premises of the laws are met.
use Rattle.std.specs.Prelude.{[], ◌∷◌, Some, None, Ok, codes}
use Rattle.beam_machine.specs.declared.event.Event.TheVariants.{Load, Spawn, Steps}
use Rattle.beam_machine.specs.declared.event.Reply.TheVariants.{Versions, Started, Ran}
use Rattle.beam_machine.specs.declared.event.Then.TheVariants.{GoesOn, Waits}
use Rattle.beam_laws.specs.Listings.{h, m}
use Rattle.beam_laws.specs.Story.{Story}
use Rattle.beam_laws.specs.Terms.{integer}

-- process 1 has started process 2, monitors it, and waits
abbrev pub watched : Story
watched =
    (Load m, Ok (Versions (Some 1) None))
    ∷ (Spawn (codes "m") (codes "w") [], Ok (Started 1))
    ∷ (Steps 1 100, Ok (Ran 10 Waits))
    ∷ []

-- process 1 stands before a call of h:v() in instance 1 of h, which is old now
abbrev pub in_old_code : Story
in_old_code =
    (Load (h 1), Ok (Versions (Some 1) None))
    ∷ (Spawn (codes "h") (codes "n") (integer 0 ∷ []), Ok (Started 1))
    ∷ (Steps 1 2, Ok (Ran 2 GoesOn))
    ∷ (Load (h 2), Ok (Versions (Some 2) (Some 1)))
    ∷ []
