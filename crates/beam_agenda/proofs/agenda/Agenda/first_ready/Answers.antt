use Rattle.std.proofs.Common.{ap, ◌∙◌}
use Rattle.beam_agenda.specs.Prelude.{first_ready}
use Rattle.beam_agenda.proofs.FlagsAndTimes.{ready_from, ready_within}
use Rattle.beam_agenda.proofs.agenda.Agenda.first_ready.Goals as goal

pub returns-clause-first : goal.returns-clause-first
returns-clause-first c = c.first_from.ensures.first ∙ (ready_from c.args.from c.self.inside.flags c.self.inside.times c.self.invariant.0 ∙ ap (first_ready c.args.from) c.self.view_is)

pub returns-clause-within : goal.returns-clause-within
returns-clause-within c = ready_within c.args.from c.args.self.now c.first_from.result (returns-clause-first c)
