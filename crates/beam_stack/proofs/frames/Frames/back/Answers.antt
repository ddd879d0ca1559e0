use Rattle.std.proofs.Common.{ap, sym, ◌∙◌}
use Rattle.beam_stack.proofs.Readings.{back_in, back_is}
use Rattle.beam_stack.proofs.frames.Frames.back.Goals as goal

pub returns-in-Some : goal.returns-in-Some
returns-in-Some c = c.back_in.ensures ∙ ap back_in (sym c.in-Some.is ∙ c.head.ensures) ∙ back_is c.args.self.now

pub returns-in-None : goal.returns-in-None
returns-in-None c = ap back_in (sym c.in-None.is ∙ c.head.ensures) ∙ back_is c.args.self.now
