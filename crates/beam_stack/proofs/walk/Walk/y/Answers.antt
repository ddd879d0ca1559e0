use Rattle.std.proofs.Common.{◌≡◌, [], ap, ◌∙◌}
use Rattle.std.proofs.lemmas.Result.{IfOk-weaker}
use Rattle.beam_machine.specs.Prelude.{slots_of}
use Rattle.beam_stack.specs.Prelude.{newest_y, slots_with}
use Rattle.beam_stack.proofs.Heads.{after_head, newest_slots}
use Rattle.beam_stack.proofs.walk.Walk.y.Goals as goal

pub returns-then-self : goal.returns-then-self
returns-then-self c =
    let same : slots_with [] (after_head c.self.inside.words.now c.self.inside.newest) ≡ slots_of (newest_y c.args.self.now) =
    newest_slots c.self.inside.words.now c.self.inside.newest c.self.invariant.0 ∙ ap (λ fs. slots_of (newest_y fs)) c.self.view_is in
    IfOk-weaker c.copy_slots.result _ _ (λ slots is. is ∙ same) c.copy_slots.ensures
