use Rattle.std.proofs.Common.{◌≡◌, length}
use Rattle.beam_stack.specs.Prelude.{first_tag, from_tag}
use Rattle.beam_stack.proofs.frames.Frames.catch_tag.Given as goal

abbrev pub invariant-loop-self : goal.invariant-loop-self
invariant-loop-self l = record { tag : first_tag l.self ≡ first_tag l.fn.self; frames : from_tag l.self ≡ from_tag l.fn.self }

abbrev pub decreases-loop-self : goal.decreases-loop-self
decreases-loop-self l = length l.self
