use Rattle.std.proofs.Common.{◌≡◌, false, Some, sym, ◌∙◌}
use Rattle.beam_machine.specs.Prelude.{is_waiting, State, live_process}
use Rattle.beam_state.specs.Prelude.{node}
use Rattle.beam_core.proofs.Accepted.{rows_answered, steps_may}
use Rattle.beam_core.proofs.Stepping.{never_stopped}
use Rattle.beam_core.proofs.steps.steps.Goals as goal

pub returns-in_err-count-clause-memory : goal.returns-in_err-count-clause-memory
returns-in_err-count-clause-memory c =
    let live : live_process c.args.state.now.processes c.args.pid ≡ Some c.in-Some.process.now = sym c.in-Some.ensures in
    let runs : is_waiting c.in-Some.process.now.status ≡ false = sym c.is_waiting.ensures ∙ c.if-is_waiting.false in
    steps_may c.args.code.now c.args.pid c.args.rows c.args.state.now c.run_rows.new.state c.in-Some.process.now _ live runs c.in_err-count.ensures.memory

pub unreachable-requires : goal.unreachable-requires
unreachable-requires c =
    let old : State = node c.args.code.now c.args.state.now in
    let new : State = node c.args.code.now c.run_rows.new.state in
    let halts = rw c.in-None.is at c.in_ok-count.ensures.halts in
    never_stopped c.args.rows c.in_ok-count.count false old new c.args.pid halts.0

pub returns-clause-next : goal.returns-clause-next
returns-clause-next c =
    let live : live_process c.args.state.now.processes c.args.pid ≡ Some c.in-Some.process.now = sym c.in-Some.ensures in
    let runs : is_waiting c.in-Some.process.now.status ≡ false = sym c.is_waiting.ensures ∙ c.if-is_waiting.false in
    let halts = rw c.in-Some-then.is at c.in_ok-count.ensures.halts in
    rows_answered c.args.code.now c.args.pid c.args.rows c.in_ok-count.count c.in-Some-then.then c.args.state.now c.run_rows.new.state c.in-Some.process.now live runs halts
