use Rattle.std.proofs.Common.{[], ap, ◌∙◌}
use Rattle.beam_machine.specs.Prelude.{tag_in, tag_of}
use Rattle.beam_stack.specs.Prelude.{newest_y, slots_with}
use Rattle.beam_stack.proofs.Heads.{after_head, newest_tag_is}
use Rattle.beam_stack.proofs.frames.Frames.newest_tag.Goals as goal

pub returns-then-self-len : goal.returns-then-self-len
returns-then-self-len c =
    c.tag_in.ensures ∙ ap (λ ws. tag_in (slots_with [] (after_head ws c.self.inside.newest))) c.deref.ensures.value
    ∙ newest_tag_is c.self.inside.words.items c.self.inside.newest c.self.invariant.0 ∙ ap (λ fs. tag_of (newest_y fs)) c.self.view_is
