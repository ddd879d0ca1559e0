-- A session over a new node, from the bytes that were read to the bytes that were written. (This node's own.)
use Rattle.std.specs.Prelude.{ℕ, List, Option}
use Rattle.beam_machine.specs.Prelude.{Debugged, undisturbed, empty}
use Rattle.beam_remote.specs.declared.error.Served.{Served}
use Rattle.beam_remote.specs.declared.error.ServeError.{ServeError}
use Rattle.beam_remote.specs.Prelude.{AllAnswered, IsServed, IsStopped, Moment}
use Rattle.beam_desk.specs.Answers.{NodeAnswers}

-- all commands in the bytes that were read were answered by a node that began empty, and their replies written
abbrev pub IsPiped : List ℕ → List ℕ → Served → Type 0
IsPiped read written served = (last : Debugged) × IsServed NodeAnswers (undisturbed empty) read written served last

-- the first commands in the bytes that were read were answered by a node that began empty, and as many replies written as the error counts
abbrev pub IsCut : List ℕ → List ℕ → ServeError → Type 0
IsCut read written e = (last : Debugged) × IsStopped NodeAnswers (undisturbed empty) read written e last

-- at this moment all commands in the bytes that were read were answered by a node that began empty, and their replies written
abbrev pub IsPrompt : Option (List ℕ) → Option (List ℕ) → Moment → Type 0
IsPrompt input output m = AllAnswered NodeAnswers (undisturbed empty) input output m
