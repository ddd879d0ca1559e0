use Rattle.std.proofs.Common.{◌≡◌, ◌≤◌, ◌-◌, [], false, Some}
use Rattle.beam_machine.specs.declared.event.Then.TheVariants.{GoesOn}
use Rattle.beam_machine.specs.Prelude.{halting}
use Rattle.beam_shape_laws.specs.Shaped.{IsFramedNode}
use Rattle.beam_state.specs.Prelude.{node, then_at}
use Rattle.beam_core.specs.Halt.{rows_done}
use Rattle.beam_core.proofs.short.short_rows.Given as goal

abbrev pub invariant-loop-count : goal.invariant-loop-count
invariant-loop-count l = record {
  most : l.count ≤ l.limit;
  runs : then_at l.state.processes l.pid ≡ Some GoesOn;
  framed : IsFramedNode (node l.code l.state);
  done : halting [] false (node l.code l.fn.state) l.pid l.count ≡ rows_done l.count (node l.code l.state);
}

abbrev pub decreases-loop-count : goal.decreases-loop-count
decreases-loop-count l = l.limit - l.count
