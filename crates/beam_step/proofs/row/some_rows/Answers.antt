use Rattle.std.proofs.Common.{refl, ap}
use Rattle.beam_machine.specs.Prelude.{is_running}
use Rattle.beam_step.proofs.Rows.{rows_at_limit, rows_after, rows_ending, rows_at_spot, rows_cut, rows_asking, rows_refused, rows_sending}
use Rattle.beam_step.proofs.row.some_rows.Goals as goal

pub returns-in-AtLimit : goal.returns-in-AtLimit
returns-in-AtLimit c =
    let ran = c.rows_before_spots-count in
    let stop = rw c.in-AtLimit.is at ran.ensures.stop in
    rw c.ended.ensures (rows_at_limit c.args.spots.now c.args.passes c.args.code.now c.args.limit ran.result.count c.args.process.now ran.new.process c.args.sent.now.items ran.ensures.rows ran.ensures.clear stop.0)

pub returns-in-Waits : goal.returns-in-Waits
returns-in-Waits c =
    let ran = c.rows_before_spots-count in
    let stop = rw c.in-Waits.is at ran.ensures.stop in
    rw c.after_row.ensures (rows_after c.args.spots.now c.args.passes c.args.code.now c.args.limit ran.result.count c.args.process.now ran.new.process c.args.sent.now.items ran.ensures.rows ran.ensures.clear stop.0 (ap is_running stop.1))

pub returns-in-Ends : goal.returns-in-Ends
returns-in-Ends c =
    let ran = c.rows_before_spots-count in
    let stop = rw c.in-Ends.is at ran.ensures.stop in
    rw c.after_row-in-Ends.ensures (rows_ending c.args.spots.now c.args.passes c.args.code.now c.args.limit ran.result.count c.args.process.now ran.new.process c.end.new.self c.args.sent.now.items c.in-Ends.reason c.in-Ends.value ran.ensures.rows ran.ensures.clear stop.0.0 stop.0.1 stop.0.2 stop.1 c.end.ensures)

pub returns-in-AtSpot : goal.returns-in-AtSpot
returns-in-AtSpot c =
    let ran = c.rows_before_spots-count in
    let stop = rw c.in-AtSpot.is at ran.ensures.stop in
    rw c.ended-in-AtSpot.ensures (rows_at_spot c.args.spots.now c.args.passes c.args.code.now c.args.limit ran.result.count c.args.process.now ran.new.process c.args.sent.now.items ran.ensures.rows ran.ensures.clear stop.0 stop.1 stop.2)

pub returns-in-Refused : goal.returns-in-Refused
returns-in-Refused c =
    let ran = c.rows_before_spots-count in
    let stop = rw c.in-Refused.is at ran.ensures.stop in
    let sent = c.args.sent.now.items in
    rw c.ended-in-Refused.ensures (rows_cut c.args.spots.now c.args.passes c.args.code.now c.args.limit ran.result.count c.args.process.now ran.new.process ran.new.process sent sent ran.ensures.rows ran.ensures.clear refl refl stop.0 stop.1 stop.2)

pub returns-in-Ok-ARow : goal.returns-in-Ok-ARow
returns-in-Ok-ARow c =
    let ran = c.rows_before_spots-count in
    let stop = rw c.in-Asks.is at ran.ensures.stop in
    let row = rw c.in-Ok-ARow.field-0-is at c.in-Ok-ARow.ensures in
    rows_sending c.args.spots.now c.args.passes c.args.code.now c.args.limit ran.result.count c.args.process.now ran.new.process c.respond.new.process c.args.sent.now.items c.respond.new.sent.items c.in-Asks.request ran.ensures.rows ran.ensures.clear stop.0.0 stop.0.1 stop.0.2 stop.0.3 stop.1 row

pub returns-in-Ok-Nothing : goal.returns-in-Ok-Nothing
returns-in-Ok-Nothing c =
    let ran = c.rows_before_spots-count in
    let stop = rw c.in-Asks.is at ran.ensures.stop in
    let row = rw c.in-Ok-Nothing.field-0-is at c.in-Ok-Nothing.ensures in
    rw c.ended-in-Ok-Nothing.ensures (rows_asking c.args.spots.now c.args.passes c.args.code.now c.args.limit ran.result.count c.args.process.now ran.new.process c.respond.new.process c.args.sent.now.items c.respond.new.sent.items c.in-Asks.request ran.ensures.rows ran.ensures.clear stop.0.0 stop.0.1 stop.0.2 stop.0.3 stop.1 row)

pub returns-in-Err : goal.returns-in-Err
returns-in-Err c =
    let ran = c.rows_before_spots-count in
    let stop = rw c.in-Asks.is at ran.ensures.stop in
    rw c.ended-in-Err.ensures (rows_refused c.args.spots.now c.args.passes c.args.code.now c.args.limit ran.result.count c.args.process.now ran.new.process c.respond.new.process c.args.sent.now.items c.respond.new.sent.items c.in-Asks.request c.in-Err.field-0 ran.ensures.rows ran.ensures.clear stop.0.0 stop.0.1 stop.0.2 stop.0.3 stop.1 c.in-Err.ensures)
