use Rattle.std.proofs.Common.{ap, ◌∙◌}
use Rattle.beam_machine.specs.Prelude.{registered}
use Rattle.beam_state.proofs.Finding.{none_found, one_found}
use Rattle.beam_state.proofs.processes.Processes.registered.Goals as goal

pub returns-in_err-index : goal.returns-in_err-index
returns-in_err-index c =
    c.from_residual.ensures ∙ (none_found _ c.self.inside.agenda c.self.inside.items.items c.args.name.now c.self.invariant.0 c.in_err-index.ensures ∙ ap (λ ps. registered ps c.args.name.now) c.self.view_is)

pub returns : goal.returns
returns c =
    rw c.deref.ensures.value at c.if_named.ensures
    ∙ (one_found _ c.self.inside.agenda c.self.inside.items.items c.args.name.now c.in_ok-index.index c.self.invariant.0 c.in_ok-index.ensures ∙ ap (λ ps. registered ps c.args.name.now) c.self.view_is)
