use Rattle.std.proofs.Common.{◌≡◌, sym, ◌∙◌, rules, Some, None}
use Rattle.beam_model.specs.Prelude.{next_at}
use Rattle.beam_debug.proofs.Named.{rows_later, rows_nowhere}
use Rattle.beam_debug.proofs.spot.rows_after.Goals as goal

pub loop-next-preserved : goal.loop-next-preserved
loop-next-preserved c =
    let there : next_at c.args.image.now c.loop-next.at ≡ Some c.in-Some.next = search rules in
    sym (rows_later c.args.image.now c.loop-next.at c.loop-next.left c.in-Some.next there c.if-left-eq0.false) ∙ c.loop-next.invariant

pub returns : goal.returns
returns c =
    let past : next_at c.args.image.now c.loop-next.at ≡ None = search rules in
    sym (rows_nowhere c.args.image.now c.loop-next.at c.loop-next.left past) ∙ c.loop-next.invariant
