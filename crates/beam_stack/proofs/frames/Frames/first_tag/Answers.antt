use Rattle.std.proofs.Common.{[], ap, ◌∙◌}
use Rattle.beam_machine.specs.Prelude.{tag_in}
use Rattle.beam_stack.specs.Prelude.{first_tag, slots_with}
use Rattle.beam_stack.proofs.Firsts.{first_is}
use Rattle.beam_stack.proofs.frames.Frames.first_tag.Goals as goal

pub returns : goal.returns
returns c =
    c.tag_in.ensures ∙ ap (λ ws. tag_in (slots_with [] ws)) c.deref.ensures.value
    ∙ first_is c.self.inside.words.items c.self.inside.newest c.self.invariant.0 ∙ ap first_tag c.self.view_is
