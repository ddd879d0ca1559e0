use Rattle.std.proofs.Common.{ap, sym, ◌∙◌}
use Rattle.beam_stack.proofs.Readings.{place_in, place_is}
use Rattle.beam_stack.proofs.frames.Frames.newest_back.Goals as goal

pub returns-in-Some : goal.returns-in-Some
returns-in-Some c = ap place_in (sym c.in-Some.is ∙ c.head.ensures) ∙ place_is c.args.self.now

pub returns-in-None : goal.returns-in-None
returns-in-None c = ap place_in (sym c.in-None.is ∙ c.head.ensures) ∙ place_is c.args.self.now
