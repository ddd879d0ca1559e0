use Rattle.std.proofs.Common.{◌≡◌, ◌-◌, ◌≤◌, Some, false, arith, rules}
use Rattle.beam_machine.specs.Prelude.{is_running, after_row}
use Rattle.beam_step.specs.Slices.{DoesRows}
use Rattle.beam_step.proofs.Finding.{made_finds}
use Rattle.beam_step.proofs.Rows.{stopped, halted, all_done, rows_in_all}
use Rattle.beam_step.proofs.run.run.Goals as goal

pub some_rows-done-requires-clause-finds : goal.some_rows-done-requires-clause-finds
some_rows-done-requires-clause-finds c =
    let l = c.loop-count in
    made_finds c.args.spots.now c.args.passes c.args.code.now c.args.process.now l.count l.sent.items l.passing l.process l.invariant.made c.requires.finds

pub returns-then-not-is_running : goal.returns-then-not-is_running
returns-then-not-is_running c =
    let l = c.loop-count in
    let halts : is_running l.process.status ≡ false = search rules in
    stopped c.args.spots.now c.args.passes c.args.code.now c.args.process.now l.process l.count c.args.limit l.sent.items l.passing after_row l.invariant.made c.loop-count-test.true (halted c.args.spots.now l.passing c.args.code.now l.process halts)

pub returns-in-Some : goal.returns-in-Some
returns-in-Some c =
    let l = c.loop-count in
    let done = c.some_rows-done in
    let rows : DoesRows c.args.spots.now l.passing c.args.code.now (c.args.limit - l.count) l.process l.sent.items done.result.count (Some c.in-Some.cause) done.new.process done.new.sent.items = rw c.in-Some.is at done.ensures in
    rows_in_all c.args.spots.now c.args.passes l.passing c.args.code.now c.args.process.now l.process done.new.process l.count done.result.count c.args.limit l.sent.items done.new.sent.items c.in-Some.cause l.invariant.made l.invariant.most rows

pub returns : goal.returns
returns c =
    let l = c.loop-count in
    let done : c.args.limit ≤ l.count = omega (arith, c.loop-count-test.false) in
    all_done c.args.spots.now c.args.passes c.args.code.now c.args.process.now l.process l.count c.args.limit l.sent.items l.passing l.invariant.most done l.invariant.made
