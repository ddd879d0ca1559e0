use Rattle.std.proofs.Common.{Ok, option_map, ap, ◌∙◌}
use Rattle.beam_machine.specs.Prelude.{makes, answers, changed_by, arguments_of}
use Rattle.beam_rows.specs.Prelude.{without}
use Rattle.beam_rows.proofs.OfProcess.{answered_without}
use Rattle.beam_rows.proofs.of_process.call_of_process.Goals as goal

pub returns : goal.returns
returns c =
    let p = c.args.process.now in
    let v = c.in_ok-value.value in
    let asked = changed_by p c.args.native (arguments_of p c.args.arity) in
    answered_without c.in-Some.demonitoring p c.return_value.new.self c.change.new.process c.args.after asked v c.in_ok-then.then
    (c.in_ok-demonitoring.ensures p ∙ ap (option_map (λ u. without u p)) c.in-Some.is)
    c.in_ok-value.ensures
    c.in_ok-then.ensures
    (c.change.ensures p (makes (answers p c.args.after (Ok v))))
