use Rattle.std.proofs.Common.{ap, ◌∙◌, ◌<◌, length, arith, option_and_then}
use Rattle.beam_machine.specs.Prelude.{ready_after}
use Rattle.beam_state.proofs.Finding.{pid_at, pid_there, ready_is}
use Rattle.beam_state.proofs.Indexing.{as_many}
use Rattle.beam_state.proofs.processes.Processes.ready_after.Goals as goal

pub returns-in_err-index : goal.returns-in_err-index
returns-in_err-index c =
    c.from_residual.ensures
    ∙ (ap (option_and_then (pid_at c.self.inside.items.items)) c.in_err-index.ensures.first ∙ (ready_is _ c.self.inside.agenda c.self.inside.items.items c.args.number c.self.invariant.0 ∙ ap (ready_after c.args.number) c.self.view_is))

pub index-requires : goal.index-requires
index-requires c = omega (arith, c.in_ok-index.ensures.within, as_many _ c.self.inside.agenda c.self.inside.items.items c.self.invariant.0, c.self.inside.items.ok)

pub returns : goal.returns
returns c =
    let within : c.in_ok-index.index < length c.self.inside.items.items = omega (arith, c.in_ok-index.ensures.within, as_many _ c.self.inside.agenda c.self.inside.items.items c.self.invariant.0) in
    pid_there c.self.inside.items.items c.in_ok-index.index c.pid.result c.index.result.now within c.index.ensures c.pid.ensures
    ∙ (ap (option_and_then (pid_at c.self.inside.items.items)) c.in_ok-index.ensures.first ∙ (ready_is _ c.self.inside.agenda c.self.inside.items.items c.args.number c.self.invariant.0 ∙ ap (ready_after c.args.number) c.self.view_is))
