use Rattle.std.proofs.Common.{◌≡◌, [], false, Ok, Some, arith, rules}
use Rattle.beam_machine.specs.declared.event.Then.TheVariants.{GoesOn}
use Rattle.beam_state.specs.Prelude.{node, then_at}
use Rattle.beam_core.proofs.PreservedByAnswers.{turn_stays_framed}
use Rattle.beam_core.proofs.ShortTurns.{more_done}
use Rattle.beam_core.proofs.short.short_rows.Goals as goal

pub loop-count-preserved : goal.loop-count-preserved
loop-count-preserved c =
    let at = node c.args.code.now in
    let l = c.loop-count in
    let done = c.some_rows-done in
    let is : done.result.then ≡ Ok GoesOn = search rules in
    let rows = rw is at done.ensures in
    record {
      most = omega (arith, rows.0, l.invariant.most);
      runs = rows.2;
      framed = turn_stays_framed [] false c.args.pid done.result.count (at l.state) (at done.new.state) rows.1 l.invariant.framed;
      done = more_done l.count done.result.count c.args.pid (at c.args.state.now) (at l.state) (at done.new.state) l.invariant.done rows.1;
    }

pub returns-in-Ok : goal.returns-in-Ok
returns-in-Ok c =
    let at = node c.args.code.now in
    let l = c.loop-count in
    let done = c.some_rows-done in
    let rows = rw c.in-Ok.is at done.ensures in
    let more = more_done l.count done.result.count c.args.pid (at c.args.state.now) (at l.state) (at done.new.state) l.invariant.done rows.1 in
    let stands : then_at done.new.state.processes c.args.pid ≡ Some c.in-Ok.then = rows.2 in
    search rules

pub returns-in-Err-2 : goal.returns-in-Err-2
returns-in-Err-2 c =
    let at = node c.args.code.now in
    let l = c.loop-count in
    let done = c.some_rows-done in
    let rows = rw c.in-Err-2.is at done.ensures in
    (more_done l.count done.result.count c.args.pid (at c.args.state.now) (at l.state) (at done.new.state) l.invariant.done rows.1, rows.2)
