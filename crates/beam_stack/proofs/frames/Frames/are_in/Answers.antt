use Rattle.std.proofs.Common.{ap, sym, ◌∙◌}
use Rattle.std.specs.List.{list_any}
use Rattle.beam_machine.specs.Prelude.{is_frame_in}
use Rattle.beam_stack.specs.Prelude.{is_word_in}
use Rattle.beam_stack.proofs.Grown.{lingers_is}
use Rattle.beam_stack.proofs.frames.Frames.are_in.Goals as goal

pub returns : goal.returns
returns c =
    c.are_in.ensures ∙ ap (list_any (is_word_in c.args.number)) c.deref.ensures.value
    ∙ sym (lingers_is c.args.number c.self.inside.words.items c.self.invariant.0.whole) ∙ ap (list_any (is_frame_in c.args.number)) c.self.view_is
