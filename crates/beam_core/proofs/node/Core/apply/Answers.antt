use Rattle.beam_machine.specs.Prelude.{State}
use Rattle.beam_shape_laws.proofs.Nodes.{answered_framed}
use Rattle.beam_state.specs.Prelude.{node}
use Rattle.beam_core.proofs.PreservedByAnswers.{stays_home, stays_ordered}
use Rattle.beam_core.proofs.node.Core.apply.Goals as goal

pub invariant_of-self : goal.invariant_of-self
invariant_of-self c =
    let s : State = node c.self.inside.code c.self.inside.state in
    let t : State = node c.apply.new.code c.apply.new.state in (
      stays_home s t c.args.event.now c.apply.result c.apply.ensures.next c.self.invariant.0,
      stays_ordered s t c.args.event.now c.apply.result c.apply.ensures.next c.self.invariant.1,
      answered_framed s t c.args.event.now c.apply.result c.apply.ensures.next c.apply.ensures.framed c.self.invariant.2,
    )
