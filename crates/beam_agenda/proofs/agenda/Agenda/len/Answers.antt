use Rattle.std.proofs.Common.{length, sym, ap, ◌∙◌}
use Rattle.beam_agenda.proofs.FlagsAndTimes.{length-entries_of}
use Rattle.beam_agenda.proofs.agenda.Agenda.len.Goals as goal

pub returns : goal.returns
returns c = c.len.ensures ∙ (sym (length-entries_of c.self.inside.flags c.self.inside.times c.self.invariant.0) ∙ ap length c.self.view_is)
