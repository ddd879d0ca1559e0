use Rattle.std.proofs.Common.{ap, sym, ◌∙◌}
use Rattle.std.specs.List.{list_any}
use Rattle.beam_machine.specs.Prelude.{is_frame_in}
use Rattle.beam_stack.specs.Prelude.{frames_of, is_word_in}
use Rattle.beam_stack.proofs.Anys.{swapped, alike}
use Rattle.beam_stack.proofs.Grown.{lingers_is}
use Rattle.beam_stack.proofs.frames.Frames.are_in_any.Goals as goal

pub returns : goal.returns
returns c =
    let words = c.self.inside.words.items in
    let numbers = c.args.numbers.now.keys in
    c.are_in_any.ensures ∙ ap (list_any (λ w. list_any (λ n. is_word_in n w) numbers)) c.deref.ensures.value
    ∙ (swapped is_word_in words numbers
    ∙ (alike (λ n. list_any (is_word_in n) words) (λ n. list_any (is_frame_in n) (frames_of words)) numbers (λ n. sym (lingers_is n words c.self.invariant.0.whole))
    ∙ ap (λ frames. list_any (λ n. list_any (is_frame_in n) frames) numbers) c.self.view_is))
