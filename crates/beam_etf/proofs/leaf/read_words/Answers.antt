use Rattle.std.proofs.Common.{arith}
use Rattle.beam_model.specs.Prelude.{words_at}
use Rattle.beam_etf.specs.Faults.{fault_of}
use Rattle.beam_etf.proofs.Exits.{exit}
use Rattle.beam_etf.proofs.Words.{words_go_on, words_end, words_done}
use Rattle.beam_etf.proofs.leaf.read_words.Goals as goal

pub returns-in_err-word-clause-read : goal.returns-in_err-word-clause-read
returns-in_err-word-clause-read c =
    exit _ c.from_residual.result (words_at c.args.count c.args.bytes.now) c.in_err-word.field-0.0 c.from_residual.ensures.1
    (λ n. words_end (fault_of c.in_err-word.field-0.0) c.loop.words.items c.args.count c.loop.counter c.loop.rest.now _ c.loop-test.true (c.in_err-word.ensures n) c.loop.invariant.1)

pub loop-preserved : goal.loop-preserved
loop-preserved c = (
  omega (arith, c.in_ok-push.ensures.len, c.loop.invariant.0),
  rw c.in_ok-push.ensures.items (
      words_go_on c.loop.words.items c.args.count c.loop.counter c.loop.rest.now c.in_ok-word.word c.in_ok-word.after.now _ c.loop-test.true c.in_ok-word.ensures c.loop.invariant.1
      ),
)

pub returns-clause-read : goal.returns-clause-read
returns-clause-read c = words_done c.loop.words.items c.args.count c.loop.counter c.loop.rest.now _ c.loop-test.false c.loop.invariant.1
