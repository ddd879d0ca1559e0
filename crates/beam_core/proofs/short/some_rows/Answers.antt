use Rattle.std.proofs.Common.{[], false}
use Rattle.beam_machine.specs.declared.event.Then.TheVariants.{Waits as WaitsThen}
use Rattle.beam_rows.specs.declared.run.StopReason.TheVariants.{AtLimit, Waits, Ends, Asks, AtSpot, Refused}
use Rattle.beam_core.specs.Rows.{PrivateRows}
use Rattle.beam_core.proofs.Located.{rows_after_one, rows_refused, asks_runs, asks_can, rows_asked, rows_unanswered, ends_runs, rows_ended, rows_not_ended, never_at_spot}
use Rattle.beam_core.proofs.ShortTurns.{some_at_limit, some_rows, some_refused}
use Rattle.beam_core.proofs.short.some_rows.Goals as goal

pub returns-in-AtLimit : goal.returns-in-AtLimit
returns-in-AtLimit c =
    let ran = c.private-count in
    let rows : PrivateRows c.args.code.now [] false c.args.pid ran.result.count c.args.state.now ran.result.count AtLimit ran.new.state = rw c.in-AtLimit.is at ran.ensures.rows in
    rw c.did.ensures (some_at_limit c.args.code.now c.args.pid c.args.limit c.args.state.now ran.result.count ran.new.state c.requires.runs ran.ensures.most rows)

pub returns-in-Waits : goal.returns-in-Waits
returns-in-Waits c =
    let ran = c.private-count in
    let rows : PrivateRows c.args.code.now [] false c.args.pid c.args.limit c.args.state.now ran.result.count Waits ran.new.state = rw c.in-Waits.is at ran.ensures.rows in
    rw c.did-in-Waits.ensures (some_rows c.args.code.now c.args.pid c.args.limit c.args.state.now ran.result.count WaitsThen ran.new.state (rows_after_one c.args.code.now [] false c.args.pid c.args.limit c.args.state.now ran.result.count ran.new.state c.requires.runs rows))

pub end-requires : goal.end-requires
end-requires c =
    let ran = c.private-count in
    let rows : PrivateRows c.args.code.now [] false c.args.pid c.args.limit c.args.state.now ran.result.count (Ends c.in-Ends.reason c.in-Ends.value) ran.new.state = rw c.in-Ends.is at ran.ensures.rows in
    ends_runs c.args.code.now [] false c.args.pid c.args.limit c.args.state.now ran.result.count c.in-Ends.reason c.in-Ends.value ran.new.state c.requires.runs rows

pub returns-in-Ok : goal.returns-in-Ok
returns-in-Ok c =
    let ran = c.private-count in
    let rows : PrivateRows c.args.code.now [] false c.args.pid c.args.limit c.args.state.now ran.result.count (Ends c.in-Ends.reason c.in-Ends.value) ran.new.state = rw c.in-Ends.is at ran.ensures.rows in
    rw c.did-in-Ok.ensures (some_rows c.args.code.now c.args.pid c.args.limit c.args.state.now _ c.in-Ok.then c.end.new.self (rows_ended c.args.code.now [] false c.args.pid c.args.limit c.args.state.now ran.result.count c.in-Ends.reason c.in-Ends.value ran.new.state c.end.new.self c.in-Ok.then c.requires.runs rows c.in-Ok.ensures))

pub returns-in-Err : goal.returns-in-Err
returns-in-Err c =
    let ran = c.private-count in
    let rows : PrivateRows c.args.code.now [] false c.args.pid c.args.limit c.args.state.now ran.result.count (Ends c.in-Ends.reason c.in-Ends.value) ran.new.state = rw c.in-Ends.is at ran.ensures.rows in
    rw c.did-in-Err.ensures (some_refused c.args.code.now c.args.pid c.args.limit c.args.state.now ran.result.count c.in-Err.refused c.end.new.self (rows_not_ended c.args.code.now [] false c.args.pid c.args.limit c.args.state.now ran.result.count c.in-Ends.reason c.in-Ends.value ran.new.state c.end.new.self c.in-Err.refused c.requires.runs rows c.in-Err.ensures))

pub unreachable-requires : goal.unreachable-requires
unreachable-requires c =
    let ran = c.private-count in
    let rows : PrivateRows c.args.code.now [] false c.args.pid c.args.limit c.args.state.now ran.result.count AtSpot ran.new.state = rw c.in-AtSpot.is at ran.ensures.rows in
    never_at_spot c.args.code.now [] false c.args.pid c.args.limit c.args.state.now ran.result.count ran.new.state c.requires.runs rows

pub returns-in-Refused : goal.returns-in-Refused
returns-in-Refused c =
    let ran = c.private-count in
    let rows : PrivateRows c.args.code.now [] false c.args.pid c.args.limit c.args.state.now ran.result.count Refused ran.new.state = rw c.in-Refused.is at ran.ensures.rows in
    rw c.did-in-Refused.ensures (some_refused c.args.code.now c.args.pid c.args.limit c.args.state.now ran.result.count _ ran.new.state (rows_refused c.args.code.now [] false c.args.pid c.args.limit c.args.state.now ran.result.count _ ran.new.state c.requires.runs rows))

pub respond-requires-clause-runs : goal.respond-requires-clause-runs
respond-requires-clause-runs c =
    let ran = c.private-count in
    let rows : PrivateRows c.args.code.now [] false c.args.pid c.args.limit c.args.state.now ran.result.count (Asks c.in-Asks.request) ran.new.state = rw c.in-Asks.is at ran.ensures.rows in
    asks_runs c.args.code.now [] false c.args.pid c.args.limit c.args.state.now ran.result.count c.in-Asks.request ran.new.state c.requires.runs rows

pub respond-requires-clause-can : goal.respond-requires-clause-can
respond-requires-clause-can c =
    let ran = c.private-count in
    let rows : PrivateRows c.args.code.now [] false c.args.pid c.args.limit c.args.state.now ran.result.count (Asks c.in-Asks.request) ran.new.state = rw c.in-Asks.is at ran.ensures.rows in
    asks_can c.args.code.now [] false c.args.pid c.args.limit c.args.state.now ran.result.count c.in-Asks.request ran.new.state c.requires.runs rows

pub returns-in-Ok-respond : goal.returns-in-Ok-respond
returns-in-Ok-respond c =
    let ran = c.private-count in
    let rows : PrivateRows c.args.code.now [] false c.args.pid c.args.limit c.args.state.now ran.result.count (Asks c.in-Asks.request) ran.new.state = rw c.in-Asks.is at ran.ensures.rows in
    rw c.did-in-Ok-respond.ensures (some_rows c.args.code.now c.args.pid c.args.limit c.args.state.now _ c.in-Ok-respond.then c.respond.new.state (rows_asked c.args.code.now [] false c.args.pid c.args.limit c.args.state.now ran.result.count c.in-Asks.request ran.new.state c.respond.new.state c.in-Ok-respond.then c.requires.runs rows c.in-Ok-respond.ensures))

pub returns-in-Err-respond : goal.returns-in-Err-respond
returns-in-Err-respond c =
    let ran = c.private-count in
    let rows : PrivateRows c.args.code.now [] false c.args.pid c.args.limit c.args.state.now ran.result.count (Asks c.in-Asks.request) ran.new.state = rw c.in-Asks.is at ran.ensures.rows in
    rw c.did-in-Err-respond.ensures (some_refused c.args.code.now c.args.pid c.args.limit c.args.state.now ran.result.count c.in-Err-respond.refused c.respond.new.state (rows_unanswered c.args.code.now [] false c.args.pid c.args.limit c.args.state.now ran.result.count c.in-Asks.request ran.new.state c.respond.new.state c.in-Err-respond.refused c.requires.runs rows c.in-Err-respond.ensures))
