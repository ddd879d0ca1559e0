use Rattle.std.proofs.Common.{drop, take, subst, sym, arith, length-drop, take_all}
use Rattle.std.proofs.lemmas.Result.{err_from_is_err_and}
use Rattle.std.proofs.lemmas.List.Elements.{All-more, All-same}
use Rattle.beam_model.specs.Prelude.{literal_bytes, table_bytes}
use Rattle.beam_term.specs.Prelude.{IsTerm}
use Rattle.beam_tables.proofs.Writing.{goes_on, ends, is_done}
use Rattle.beam_tables.proofs.write.counted_literals.Goals as goal

pub returns-in_err-put_literal-clause-gives : goal.returns-in_err-put_literal-clause-gives
returns-in_err-put_literal-clause-gives c =
    let p = err_from_is_err_and c.from_residual-in_err-put_literal.result c.from_residual-in_err-put_literal.ensures.1 in
    rw (p.1, p.2) (ends c.in_err-put_literal.field-0.0 literal_bytes c.args.literals.now c.literal-item.result c.loop-literal.literal-index c.loop-literal.out.items (table_bytes literal_bytes c.args.literals.now) c.loop-literal-test.true c.literal-item.is c.in_err-put_literal.ensures.adds c.loop-literal.invariant.gives)

pub loop-literal-preserved : goal.loop-literal-preserved
loop-literal-preserved c = record {
  gives = goes_on literal_bytes c.args.literals.now c.literal-item.result c.loop-literal.literal-index c.loop-literal.out.items c.put_literal.new.out.items (table_bytes literal_bytes c.args.literals.now) c.loop-literal-test.true c.literal-item.is c.in_ok-put_literal.ensures.adds c.loop-literal.invariant.gives;
  lawful = All-more IsTerm c.args.literals.now c.loop-literal.literal-index c.literal-item.result c.loop-literal-test.true c.loop-literal.invariant.lawful (subst IsTerm c.literal-item.is c.in_ok-put_literal.ensures.lawful);
}

pub returns-clause-gives : goal.returns-clause-gives
returns-clause-gives c =
    is_done literal_bytes (drop c.loop-literal.literal-index c.args.literals.now) c.loop-literal.out.items (table_bytes literal_bytes c.args.literals.now) (omega (arith, length-drop c.loop-literal.literal-index c.args.literals.now, c.loop-literal-test.false)) c.loop-literal.invariant.gives

pub returns-clause-lawful : goal.returns-clause-lawful
returns-clause-lawful c =
    let i = c.loop-literal.literal-index in
    All-same IsTerm c.args.literals.now (take i c.args.literals.now) (sym (take_all i c.args.literals.now c.loop-literal-test.false)) c.loop-literal.invariant.lawful
