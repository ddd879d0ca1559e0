use Rattle.std.proofs.Common.{length, sym, ap, ◌∙◌, arith, Some, None}
use Rattle.beam_agenda.specs.Prelude.{least_due}
use Rattle.beam_agenda.proofs.FlagsAndTimes.{length-entries_of, no_least, least_is}
use Rattle.beam_agenda.proofs.agenda.Agenda.least_due.Goals as goal

pub returns-in_err-at-clause-least : goal.returns-in_err-at-clause-least
returns-in_err-at-clause-least c =
    let i = c.self.inside in
    c.from_residual.ensures ∙ (no_least i.flags i.times c.self.invariant.0 (sym c.in_err-at.was ∙ c.self.invariant.1) ∙ ap least_due c.self.view_is)

pub returns-in_err-position-clause-least : goal.returns-in_err-position-clause-least
returns-in_err-position-clause-least c =
    let i = c.self.inside in
    c.from_residual-in_err-position.ensures
    ∙ (least_is c.in_ok-at.at None i.flags i.times c.self.invariant.0 (sym c.in_ok-at.was ∙ c.self.invariant.1) c.in_err-position.ensures.first ∙ ap least_due c.self.view_is)

pub returns-clause-least : goal.returns-clause-least
returns-clause-least c =
    let i = c.self.inside in
    least_is c.in_ok-at.at (Some c.in_ok-position.position) i.flags i.times c.self.invariant.0 (sym c.in_ok-at.was ∙ c.self.invariant.1) c.in_ok-position.ensures.first ∙ ap least_due c.self.view_is

pub returns-clause-within : goal.returns-clause-within
returns-clause-within c =
    let i = c.self.inside in
    omega (arith, c.in_ok-position.ensures.within, length-entries_of i.flags i.times c.self.invariant.0, ap length c.self.view_is)
