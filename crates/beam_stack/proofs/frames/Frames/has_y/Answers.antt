use Rattle.std.proofs.Common.{ap, sym, ◌∙◌}
use Rattle.beam_stack.proofs.Readings.{flag_in, flag_is}
use Rattle.beam_stack.proofs.frames.Frames.has_y.Goals as goal

pub returns-in-Some : goal.returns-in-Some
returns-in-Some c = ap flag_in (sym c.in-Some.is ∙ c.head.ensures) ∙ flag_is c.args.self.now

pub returns-in-None : goal.returns-in-None
returns-in-None c = ap flag_in (sym c.in-None.is ∙ c.head.ensures) ∙ flag_is c.args.self.now
