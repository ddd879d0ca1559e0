use Rattle.std.proofs.Common.{ap, ◌∙◌, slice_get}
use Rattle.beam_stack.specs.Prelude.{head_of, head_in}
use Rattle.beam_stack.proofs.Readings.{head_is}
use Rattle.beam_stack.proofs.frames.Frames.head.Goals as goal

pub returns : goal.returns
returns c =
    c.head_at.ensures ∙ ap (λ ws. head_in (slice_get ws c.self.inside.newest)) c.deref.ensures.value
    ∙ head_is c.self.inside.words.items c.self.inside.newest c.self.invariant.0 ∙ ap head_of c.self.view_is
