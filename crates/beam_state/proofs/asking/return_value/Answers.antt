use Rattle.std.proofs.Common.{◌<◌, length, Ok, sym, ap, subst, ◌∙◌, rules}
use Rattle.beam_machine.specs.declared.event.Then.TheVariants.{Ended}
use Rattle.beam_state.specs.Prelude.{AreLawful}
use Rattle.beam_state.proofs.Askers.{Did, asker_runs, asker_within, end_said, went_on, waited}
use Rattle.beam_state.proofs.Keeping.{answer_keeps}
use Rattle.beam_state.proofs.asking.return_value.Goals as goal

pub change-requires-clause-keeps : goal.change-requires-clause-keeps
change-requires-clause-keeps c = λ p q result there given. answer_keeps p q c.args.asker.now.dropped c.args.asker.now.after c.args.value result (asker_runs c.requires.asking p there) (search rules)

pub end_at-requires-clause-within : goal.end_at-requires-clause-within
end_at-requires-clause-within c =
    let did : Did c.requires.asking c.args.value c.change.result c.change.new.self = search rules in
    let ended : Did c.requires.asking c.args.value (Ok (Ended c.in-Ended.reason c.in-Ended.value)) c.change.new.self = subst (λ r. Did c.requires.asking c.args.value r c.change.new.self) (c.in_ok-then.was ∙ ap Ok c.in-Ended.is) did in
    subst (λ ps. c.args.asker.now.index < length ps) (sym (end_said c.requires.asking c.args.value c.in-Ended.reason c.in-Ended.value c.change.new.self ended).0) (asker_within c.requires.asking)

pub end_at-requires-clause-lawful : goal.end_at-requires-clause-lawful
end_at-requires-clause-lawful c =
    let did : Did c.requires.asking c.args.value c.change.result c.change.new.self = search rules in
    let ended : Did c.requires.asking c.args.value (Ok (Ended c.in-Ended.reason c.in-Ended.value)) c.change.new.self = subst (λ r. Did c.requires.asking c.args.value r c.change.new.self) (c.in_ok-then.was ∙ ap Ok c.in-Ended.is) did in
    subst (AreLawful c.args.references) (sym (end_said c.requires.asking c.args.value c.in-Ended.reason c.in-Ended.value c.change.new.self ended).0) c.requires.lawful

pub returns-in-GoesOn : goal.returns-in-GoesOn
returns-in-GoesOn c =
    let did : Did c.requires.asking c.args.value c.change.result c.change.new.self = search rules in
    went_on c.requires.asking c.args.value c.change.new.self (subst (λ r. Did c.requires.asking c.args.value r c.change.new.self) (c.in_ok-then.was ∙ ap Ok c.in-GoesOn.is) did)

pub returns-in-Waits : goal.returns-in-Waits
returns-in-Waits c =
    let did : Did c.requires.asking c.args.value c.change.result c.change.new.self = search rules in
    waited c.requires.asking c.args.value c.change.new.self (subst (λ r. Did c.requires.asking c.args.value r c.change.new.self) (c.in_ok-then.was ∙ ap Ok c.in-Waits.is) did)
