use Rattle.beam_machine.specs.Prelude.{State}
use Rattle.beam_state.specs.Prelude.{node}
use Rattle.beam_core.proofs.PreservedByAnswers.{short_stays_home, short_stays_ordered, short_stays_framed}
use Rattle.beam_core.proofs.node.Core.short_rows.Goals as goal

pub invariant_of-self : goal.invariant_of-self
invariant_of-self c =
    let s : State = node c.self.inside.code c.self.inside.state in
    let t : State = node c.self.inside.code c.short_rows.new.state in (
      short_stays_home c.args.pid s c.short_rows.result t c.short_rows.ensures c.self.invariant.0,
      short_stays_ordered c.args.pid s c.short_rows.result t c.short_rows.ensures c.self.invariant.1,
      short_stays_framed c.args.pid s c.short_rows.result t c.short_rows.ensures c.self.invariant.2,
    )
