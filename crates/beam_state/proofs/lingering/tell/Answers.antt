use Rattle.std.proofs.Common.{◌∙◌}
use Rattle.beam_lemmas.proofs.AnyError.{on_err}
use Rattle.beam_state.specs.Ends.{lingers_in}
use Rattle.beam_state.proofs.Ending.{some_monitored}
use Rattle.beam_state.proofs.lingering.tell.Goals as goal

pub returns-in_err-post_all-clause-monitored : goal.returns-in_err-post_all-clause-monitored
returns-in_err-post_all-clause-monitored c =
    on_err c.from_residual-in_err-post_all.result _
    (some_monitored (lingers_in c.args.old) c.args.processes.now c.in-Some.sent.items (rw c.in-Some.is at c.in_ok-sent.ensures.sent)
    (λ none. c.in_err-post_all.ensures.quiet (c.deref.ensures.value ∙ none)))
