use Rattle.std.proofs.Common.{ap, subst, ◌∙◌}
use Rattle.beam_agenda.specs.Prelude.{least_of}
use Rattle.beam_agenda.specs.TimeLevels.{LevelsAgree}
use Rattle.beam_agenda.proofs.Pairing.{least_of-pairs}
use Rattle.beam_agenda.proofs.times.Times.+least.Goals as goal

pub returns-in-Level : goal.returns-in-Level
returns-in-Level t c =
    let ts = c.self.inside.times.items in
    let s = subst (LevelsAgree ts) c.in-Level.is c.self.invariant in
    c.least.ensures ∙ (ap least_of (c.deref-in-Level.ensures ∙ s.1) ∙ (least_of-pairs ts ∙ ap least_of c.self.view_is))
