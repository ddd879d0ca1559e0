use Rattle.std.proofs.Common.{◌≡◌, ◌<◌, length, arith}
use Rattle.std.proofs.lemmas.Result.{err_from_is_err_and}
use Rattle.beam_machine.specs.Prelude.{files_in}
use Rattle.beam_frame.proofs.Files.{goes_on, ends, is_done, goes_past}
use Rattle.beam_frame.proofs.command.files.Goals as goal

pub returns-in_err-file : goal.returns-in_err-file
returns-in_err-file c =
    let p = err_from_is_err_and c.from_residual.result c.from_residual.ensures.1 in
    rw (p.1, p.2) (ends c.in_err-file.field-0.0 c.loop.files.items c.args.count c.loop.counter c.loop.rest.now (files_in c.args.count c.args.body.now) c.loop-test.true c.in_err-file.ensures c.loop.invariant)

pub loop-preserved : goal.loop-preserved
loop-preserved c =
    rw c.in_ok-push.ensures.items (goes_on c.loop.files.items c.args.count c.loop.counter c.loop.rest.now c.in_ok-file.file c.in_ok-file.after.now (files_in c.args.count c.args.body.now) c.loop-test.true c.in_ok-file.ensures c.loop.invariant)

pub returns-then-not-is_empty : goal.returns-then-not-is_empty
returns-then-not-is_empty c =
    let some : 0 < length c.loop.rest.now = grind (arith, c.if-not-is_empty.true, c.is_empty.ensures) in
    goes_past c.loop.files.items c.args.count c.loop.counter c.loop.rest.now (files_in c.args.count c.args.body.now) c.loop-test.false some c.loop.invariant

pub returns : goal.returns
returns c =
    let none : length c.loop.rest.now ≡ 0 = grind (arith, c.if-not-is_empty.false, c.is_empty.ensures) in
    let all = is_done c.loop.files.items c.args.count c.loop.counter c.loop.rest.now (files_in c.args.count c.args.body.now) c.loop-test.false none c.loop.invariant in
    rw c.new.ensures all
