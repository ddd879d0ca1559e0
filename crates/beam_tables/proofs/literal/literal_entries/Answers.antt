use Rattle.std.proofs.lemmas.Result.{err_from_is_err_and}
use Rattle.beam_model.specs.Prelude.{entries_at, literal_at}
use Rattle.beam_tables.proofs.Loop.{goes_on, ends, is_done}
use Rattle.beam_tables.proofs.literal.literal_entries.Goals as goal

pub returns-in_err-literal : goal.returns-in_err-literal
returns-in_err-literal c =
    let p = err_from_is_err_and c.from_residual.result c.from_residual.ensures.1 in
    rw (p.1, p.2) (ends c.in_err-literal.field-0.0 literal_at c.loop.literals.items c.args.count c.loop.counter c.loop.rest.now (entries_at literal_at c.args.count c.args.bytes.now) c.loop-test.true c.in_err-literal.ensures c.loop.invariant)

pub loop-preserved : goal.loop-preserved
loop-preserved c =
    rw c.in_ok-push.ensures.items (goes_on literal_at c.loop.literals.items c.args.count c.loop.counter c.loop.rest.now c.in_ok-literal.literal c.in_ok-literal.behind.now (entries_at literal_at c.args.count c.args.bytes.now) c.loop-test.true c.in_ok-literal.ensures c.loop.invariant)

pub returns : goal.returns
returns c = is_done literal_at c.loop.literals.items c.args.count c.loop.counter c.loop.rest.now (entries_at literal_at c.args.count c.args.bytes.now) c.loop-test.false c.loop.invariant
