use Rattle.std.proofs.Common.{ap, sym, ◌∙◌}
use Rattle.beam_stack.specs.Prelude.{newest_back, frames_of}
use Rattle.beam_stack.proofs.Readings.{head_is, place_in, place_is}
use Rattle.beam_stack.proofs.walk.Walk.back.Goals as goal

pub returns-in-Some : goal.returns-in-Some
returns-in-Some c =
    ap place_in (sym c.in-Some.is ∙ c.head_at.ensures ∙ head_is c.self.inside.words.now c.self.inside.newest c.self.invariant.0) ∙ place_is (frames_of c.self.inside.words.now) ∙ ap newest_back c.self.view_is

pub returns-in-None : goal.returns-in-None
returns-in-None c =
    ap place_in (sym c.in-None.is ∙ c.head_at.ensures ∙ head_is c.self.inside.words.now c.self.inside.newest c.self.invariant.0) ∙ place_is (frames_of c.self.inside.words.now) ∙ ap newest_back c.self.view_is
