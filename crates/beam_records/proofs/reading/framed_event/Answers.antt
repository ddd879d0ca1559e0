use Rattle.std.proofs.Common.{subst}
use Rattle.beam_frame.proofs.Spelling.{one_spelling}
use Rattle.beam_machine.specs.Prelude.{Command}
use Rattle.beam_records.specs.JournalFile.{IsEventOf, framed}
use Rattle.beam_records.proofs.Fronts.{ok_then}
use Rattle.beam_records.proofs.reading.framed_event.Goals as goal

pub returns-clause-found : goal.returns-clause-found
returns-clause-found c =
    ok_then c.prepared.result
    (λ e h. (c.in_ok-command.command, framed c.args.kind c.args.body.now c.in_ok-command.command c.in_ok-command.ensures.found, h))
    c.prepared.ensures.found

pub returns-clause-none : goal.returns-clause-none
returns-clause-none c = λ is d e spelled h.
    c.prepared.ensures.none is e
    (subst (λ (x : Command). IsEventOf x e) (one_spelling c.args.kind c.args.body.now d c.in_ok-command.command spelled c.in_ok-command.ensures.found) h)
