use Rattle.std.proofs.Common.{ap, ◌∙◌, ◌<◌, length, arith, option_and_then}
use Rattle.beam_machine.specs.Prelude.{next_deadline}
use Rattle.beam_state.proofs.Finding.{time_at, time_there, deadline_is}
use Rattle.beam_state.proofs.Indexing.{as_many}
use Rattle.beam_state.proofs.processes.Processes.next_deadline.Goals as goal

pub returns-in_err-at : goal.returns-in_err-at
returns-in_err-at c =
    c.from_residual.ensures
    ∙ (ap (option_and_then (time_at c.self.inside.items.items)) c.in_err-at.ensures.least ∙ (deadline_is _ c.self.inside.agenda c.self.inside.items.items c.self.invariant.0 ∙ ap next_deadline c.self.view_is))

pub index-requires : goal.index-requires
index-requires c = omega (arith, c.in_ok-at.ensures.within, as_many _ c.self.inside.agenda c.self.inside.items.items c.self.invariant.0, c.self.inside.items.ok)

pub returns : goal.returns
returns c =
    let within : c.in_ok-at.index < length c.self.inside.items.items = omega (arith, c.in_ok-at.ensures.within, as_many _ c.self.inside.agenda c.self.inside.items.items c.self.invariant.0) in
    time_there c.self.inside.items.items c.in_ok-at.at c.in_ok-at.index c.pid.result c.index.result.now within c.index.ensures c.pid.ensures
    ∙ (ap (option_and_then (time_at c.self.inside.items.items)) c.in_ok-at.ensures.least ∙ (deadline_is _ c.self.inside.agenda c.self.inside.items.items c.self.invariant.0 ∙ ap next_deadline c.self.view_is))
