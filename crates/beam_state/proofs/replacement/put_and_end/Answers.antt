use Rattle.std.proofs.Common.{◌≡◌, false, refl, sym, ap, subst, ◌∙◌}
use Rattle.std.specs.List.{list_any}
use Rattle.beam_machine.specs.Prelude.{old_of, lingers_at, killing}
use Rattle.beam_laws.specs.Prelude.{Orderly, posted_all}
use Rattle.beam_laws.proofs.Hearing.{nobody_ends}
use Rattle.beam_state.specs.declared.lingering.OldInstances.TheVariants.{One}
use Rattle.beam_state.specs.Posting.{all_taken}
use Rattle.beam_state.proofs.Ending.{on_ok, posted_and_killed}
use Rattle.beam_state.proofs.Posted.{all_posted_lawful}
use Rattle.beam_state.proofs.Untaken.{all_untaken}
use Rattle.beam_state.proofs.replacement.put_and_end.Goals as goal

pub returns-in_default-clause-processes : goal.returns-in_default-clause-processes
returns-in_default-clause-processes c =
    let ps = c.args.processes.now in
    let old : c.old.result ≡ old_of c.args.code.now c.args.image.now.name = c.old.ensures ∙ ap (old_of c.args.code.now) c.module.ensures in
    let nobody : false ≡ list_any (lingers_at c.old.result) ps = rw c.in_default.is at c.in_ok-told.ensures.some in
    on_ok _ ((rw c.in_default.is at c.in_ok-told.ensures.none) refl ∙ (sym (nobody_ends (lingers_at c.old.result) ps (sym nobody)) ∙ ap (λ o. killing (lingers_at o) ps) old))

pub returns-in-Err-clause-err : goal.returns-in-Err-clause-err
returns-in-Err-clause-err c =
    let ps = c.args.processes.now in
    let sent = c.in-Some.told.items in
    let posted : c.tell.new.processes ≡ posted_all ps sent = rw c.in-Some.is at c.in_ok-told.ensures.posted in (
      c.in-Err.ensures.err,
      c.take_all_back.ensures ∙ (ap (all_taken c.tell.new.processes) c.deref.ensures.value ∙ (ap (λ qs. all_taken qs sent) posted ∙ all_untaken ps sent)),
    )

pub end_all-requires : goal.end_all-requires
end_all-requires c =
    subst Orderly (sym (rw c.in-Some.is at c.in_ok-told.ensures.posted)) (all_posted_lawful c.args.references c.args.processes.now c.in-Some.told.items c.requires.lawful).0

pub returns-clause-processes : goal.returns-clause-processes
returns-clause-processes c =
    let ps = c.args.processes.now in
    let old : c.old.result ≡ old_of c.args.code.now c.args.image.now.name = c.old.ensures ∙ ap (old_of c.args.code.now) c.module.ensures in
    posted_and_killed (One c.old.result) ps c.tell.new.processes c.end_all.new.processes c.in-Some.told.items c.requires.lawful.0
    (rw c.in-Some.is at c.in_ok-told.ensures.sent) (rw c.in-Some.is at c.in_ok-told.ensures.posted) c.end_all.ensures
    ∙ ap (λ o. killing (lingers_at o) ps) old
