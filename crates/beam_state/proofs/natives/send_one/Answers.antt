use Rattle.std.proofs.Common.{Ok, sym, ap, subst, ◌∙◌}
use Rattle.beam_machine.specs.Prelude.{answer, answer_of}
use Rattle.beam_state.specs.Prelude.{Sends}
use Rattle.beam_state.proofs.natives.send_one.Goals as goal

pub returns-in_ok-post_if-in-Ok : goal.returns-in_ok-post_if-in-Ok
returns-in_ok-post_if-in-Ok c = λ references.
    let ps = c.args.processes.now in
    let sent : Sends ps (answer_of references ps c.args.caller c.args.native c.args.arguments.now) (Ok (Ok (c.in-Ok.value, c.in-Ok.sent))) =
    subst (λ v. Sends ps (answer_of references ps c.args.caller c.args.native c.args.arguments.now) (Ok v)) c.in-Ok.is (c.in_ok-value.ensures references) in
    sent ∙ ap (λ qs. answer qs c.in-Ok.value) (sym c.in_ok-post_if-in-Ok.ensures.ok)

pub returns-in-Err : goal.returns-in-Err
returns-in-Err c = λ references.
    let ps = c.args.processes.now in
    subst (λ v. Sends ps (answer_of references ps c.args.caller c.args.native c.args.arguments.now) (Ok v)) c.in-Err.is (c.in_ok-value.ensures references)
