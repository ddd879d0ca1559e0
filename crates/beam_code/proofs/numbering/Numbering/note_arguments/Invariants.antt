use Rattle.std.proofs.Common.{length, ◌≡◌, fold}
use Rattle.beam_model.specs.Prelude.{with_argument}
use Rattle.beam_code.proofs.numbering.Numbering.note_arguments.Given as goal

-- the numbering so far, with the rest noted, is the whole one
abbrev pub invariant-loop-argument : goal.invariant-loop-argument
invariant-loop-argument l = fold with_argument l.self l.rest ≡ fold with_argument l.fn.self l.arguments

abbrev pub decreases-loop-argument : goal.decreases-loop-argument
decreases-loop-argument l = length l.rest
