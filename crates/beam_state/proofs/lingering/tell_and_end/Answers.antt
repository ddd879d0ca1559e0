use Rattle.std.proofs.Common.{◌≡◌, false, refl, sym, subst, ◌∙◌}
use Rattle.std.specs.List.{list_any}
use Rattle.beam_laws.specs.Prelude.{Orderly}
use Rattle.beam_laws.proofs.Hearing.{nobody_ends}
use Rattle.beam_state.specs.Ends.{lingers_in}
use Rattle.beam_state.proofs.Ending.{posted_and_killed}
use Rattle.beam_state.proofs.Posted.{all_posted_lawful}
use Rattle.beam_state.proofs.lingering.tell_and_end.Goals as goal

pub returns-in_default-clause-ok : goal.returns-in_default-clause-ok
returns-in_default-clause-ok c =
    let test = lingers_in c.args.old in
    let nobody : false ≡ list_any test c.args.processes.now = rw c.in_default.is at c.in_ok-_sent.ensures.some in
    (rw c.in_default.is at c.in_ok-_sent.ensures.none) refl ∙ sym (nobody_ends test c.args.processes.now (sym nobody))

pub end_all-requires : goal.end_all-requires
end_all-requires c =
    subst Orderly (sym (rw c.in-Some.is at c.in_ok-_sent.ensures.posted)) (all_posted_lawful c.args.references c.args.processes.now c.in-Some._sent.items c.requires).0

pub returns-clause-ok : goal.returns-clause-ok
returns-clause-ok c =
    posted_and_killed c.args.old c.args.processes.now c.tell.new.processes c.end_all.new.processes c.in-Some._sent.items c.requires.0
    (rw c.in-Some.is at c.in_ok-_sent.ensures.sent) (rw c.in-Some.is at c.in_ok-_sent.ensures.posted) c.end_all.ensures
