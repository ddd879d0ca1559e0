use Rattle.std.proofs.Common.{◌≡◌, ◌∷◌, length}
use Rattle.std.proofs.lemmas.Result.{err_from_is_err_and}
use Rattle.beam_model.specs.Prelude.{quoted_at}
use Rattle.beam_erltext.proofs.Quoted.{ends_short, closes, faults_in_escape, takes_escape, takes_byte}
use Rattle.beam_erltext.proofs.token.read_quoted.Goals as goal
use Rattle.beam_erltext.proofs.token.read_quoted.Goals.{then-first-eq92+in_ok-character+in_ok-push_character, else-first-eq92+in_ok-push}

pub returns-in_default : goal.returns-in_default
returns-in_default c =
    ends_short c.loop.content.items (length c.args.text.now) c.loop.counter c.args.quote c.loop.rest.now (quoted_at c.args.quote c.args.text.now) c.loop-test.true c.in_default.ensures.cases c.loop.invariant

pub returns-then-first-quote : goal.returns-then-first-quote
returns-then-first-quote c =
    let some : c.loop.rest.now ≡ c.in-Some.first.now ∷ c.in-Some.others.now = c.in-Some.ensures.cases.0 in
    closes c.loop.content.items (length c.args.text.now) c.loop.counter c.args.quote c.loop.rest.now c.in-Some.first.now c.in-Some.others.now (quoted_at c.args.quote c.args.text.now) c.loop-test.true some c.if-first-quote.true c.loop.invariant

pub returns-in_err-character : goal.returns-in_err-character
returns-in_err-character c =
    let p = err_from_is_err_and c.from_residual.result c.from_residual.ensures.1 in
    rw (p.1, p.2) (faults_in_escape c.in_err-character.field-0.0 c.loop.content.items (length c.args.text.now) c.loop.counter c.args.quote c.loop.rest.now c.in-Some.first.now c.in-Some.others.now (quoted_at c.args.quote c.args.text.now) c.loop-test.true c.in-Some.ensures.cases.0 c.if-first-quote.false c.if-first-eq92.true c.in_err-character.ensures c.loop.invariant)

pub loop-preserved : goal.loop-preserved
loop-preserved c = elim c.if-first-eq92.branch [
  | then-first-eq92+in_ok-character+in_ok-push_character w ↦
      rw (w.content-is, w.rest-is, w.in_ok-push_character.ensures) (takes_escape c.loop.content.items (length c.args.text.now) c.loop.counter c.args.quote c.loop.rest.now c.in-Some.first.now c.in-Some.others.now w.in_ok-character.character w.in_ok-character.behind.now (quoted_at c.args.quote c.args.text.now) c.loop-test.true c.in-Some.ensures.cases.0 c.if-first-quote.false w.if-first-eq92.true w.in_ok-character.ensures c.loop.invariant)
  | else-first-eq92+in_ok-push w ↦
      rw (w.content-is, w.rest-is, w.in_ok-push.ensures.items) (takes_byte c.loop.content.items (length c.args.text.now) c.loop.counter c.args.quote c.loop.rest.now c.in-Some.first.now c.in-Some.others.now (quoted_at c.args.quote c.args.text.now) c.loop-test.true c.in-Some.ensures.cases.0 c.if-first-quote.false w.if-first-eq92.false c.loop.invariant)
]
