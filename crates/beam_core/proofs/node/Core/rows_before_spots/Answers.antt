use Rattle.beam_machine.specs.Prelude.{State}
use Rattle.beam_state.specs.Prelude.{node}
use Rattle.beam_core.proofs.PreservedByAnswers.{rows_stay_home, rows_stay_ordered, rows_stay_framed}
use Rattle.beam_core.proofs.node.Core.rows_before_spots.Goals as goal

pub invariant_of-self : goal.invariant_of-self
invariant_of-self c =
    let s : State = node c.self.inside.code c.self.inside.state in
    let t : State = node c.self.inside.code c.run_rows.new.state in (
      rows_stay_home c.args.spots.now c.args.passes c.args.pid c.args.rows s c.run_rows.result t c.run_rows.ensures.halts c.self.invariant.0,
      rows_stay_ordered c.args.spots.now c.args.passes c.args.pid c.args.rows s c.run_rows.result t c.run_rows.ensures.halts c.self.invariant.1,
      rows_stay_framed c.args.spots.now c.args.passes c.args.pid c.args.rows s c.run_rows.result t c.run_rows.ensures.halts c.self.invariant.2,
    )
