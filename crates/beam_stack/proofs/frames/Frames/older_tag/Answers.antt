use Rattle.std.proofs.Common.{[], take, ap, ◌∙◌}
use Rattle.beam_machine.specs.Prelude.{tag_in}
use Rattle.beam_stack.specs.Prelude.{first_tag, older_than, slots_with}
use Rattle.beam_stack.proofs.Firsts.{older_is}
use Rattle.beam_stack.proofs.frames.Frames.older_tag.Goals as goal

pub returns : goal.returns
returns c =
    c.tag_in.ensures ∙ ap (λ ws. tag_in (slots_with [] (take c.self.inside.newest ws))) c.deref.ensures.value
    ∙ older_is c.self.inside.words.items c.self.inside.newest c.self.invariant.0 ∙ ap (λ fs. first_tag (older_than fs)) c.self.view_is
