use Rattle.std.proofs.Common.{◌≡◌, ◌<◌, ◌≤◌, ◌+◌, List, length, Ok, Err, None, false, subst, sym, ap, ◌∙◌, rules, arith, vec_capacity}
use Rattle.beam_machine.specs.declared.event.Refused.TheVariants.{NoMemory}
use Rattle.beam_machine.specs.Prelude.{Debugged, is_among, process_of}
use Rattle.beam_model.specs.Prelude.{Place}
use Rattle.beam_core.specs.Halt.{HaltsAt}
use Rattle.beam_debug.specs.Prelude.{answer_of, capacity_of, debugged, AreRising}
use Rattle.beam_debug.proofs.Accepted.{loud_if, rows_may}
use Rattle.beam_debug.proofs.RowsToSpot.{some_rows}
use Rattle.beam_debug.proofs.Debugging.{option_lives}
use Rattle.beam_debug.proofs.Capacities.{first_row_loud, higher, place_left}
use Rattle.beam_debug.proofs.steps.run_to_spot.Goals as goal

pub returns-in_err-make_room_for-clause-memory : goal.returns-in_err-make_room_for-clause-memory
returns-in_err-make_room_for-clause-memory c =
    let d : Debugged = debugged c.args.core.now c.args.debug.now in
    rows_may d c.args.pid c.args.rows _ c.requires.runs c.requires.free c.in_err-make_room_for.ensures.needed.0

pub returns-in_err-make_room_for-clause-loud : goal.returns-in_err-make_room_for-clause-loud
returns-in_err-make_room_for-clause-loud c =
    let d : Debugged = debugged c.args.core.now c.args.debug.now in
    let p = option_lives (process_of d.node.processes c.args.pid) c.requires.runs in
    let is : answer_of c.from_residual.result ≡ Err NoMemory = search rules in
    loud_if d _ c.args.pid c.args.rows (answer_of c.from_residual.result) is
    (first_row_loud d (capacity_of c.args.debug.now) c.args.pid p.0 c.requires.capacity p.1 c.in_err-make_room_for.ensures.needed.1)

pub returns-in_err-count-clause-memory : goal.returns-in_err-count-clause-memory
returns-in_err-count-clause-memory c =
    let d : Debugged = debugged c.args.core.now c.args.debug.now in
    rows_may d c.args.pid c.args.rows _ c.requires.runs c.requires.free c.in_err-count.ensures.memory

pub put-requires : goal.put-requires
put-requires c =
    let spots = c.args.debug.now.spots.items in
    let passes = c.is_among-passes.result in
    let pid = c.args.pid in
    let n = c.args.rows in
    let count = c.in_ok-count.count in
    let s = c.args.core.now in
    let t = c.rows_before_spots.new.self in
    let seen : c.deref-2.result.now ≡ spots = search rules in
    let stops = rw c.in-None.is at c.in_ok-count.ensures.halts in
    let halts : HaltsAt spots passes pid n s (Ok (count, None)) t = subst (λ (xs : List Place). HaltsAt xs passes pid n s (Ok (count, None)) t) seen stops in
    let some : 0 < n = some_rows spots passes pid n count s t halts in
    let pids = c.make_room_for.new.held in
    let less : pid < vec_capacity pids = c.in_ok-make_room_for.ensures.capacity some in
    let same : pids.items ≡ c.args.debug.now.held.items = c.make_room_for.ensures.items in
    let rising : AreRising 0 (vec_capacity pids) pids.items
    = subst (λ ns. AreRising 0 (vec_capacity pids) ns) (sym same) (higher 0 (capacity_of c.args.debug.now) (vec_capacity pids) c.args.debug.now.held.items c.make_room_for.ensures.kept c.requires.capacity.held) in
    let free : is_among pid pids.items ≡ false = ap (is_among pid) same ∙ c.requires.free in
    let from : 0 ≤ pid = omega arith in
    let left : 0 + length pids.items < vec_capacity pids = place_left 0 (vec_capacity pids) pid pids.items from less rising free in
    omega (arith, left, pids.ok.0)
