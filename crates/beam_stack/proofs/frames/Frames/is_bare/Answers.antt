use Rattle.std.proofs.Common.{ap, sym, ◌∙◌}
use Rattle.beam_stack.proofs.Readings.{bare_in, bare_is}
use Rattle.beam_stack.proofs.frames.Frames.is_bare.Goals as goal

pub returns-in-Some : goal.returns-in-Some
returns-in-Some c = ap bare_in (sym c.in-Some.is ∙ c.head.ensures) ∙ bare_is c.args.self.now

pub returns-in-None : goal.returns-in-None
returns-in-None c = ap bare_in (sym c.in-None.is ∙ c.head.ensures) ∙ bare_is c.args.self.now
