use Rattle.std.proofs.Common.{sym, ◌∙◌}
use Rattle.beam_etf.proofs.Empty.{skip_one}
use Rattle.beam_etf.proofs.reading.after_empty_lists.Goals as goal

pub loop-rest-preserved : goal.loop-rest-preserved
loop-rest-preserved c =
    let on = sym c.starts_with.ensures.value ∙ c.loop-rest-test.true in
    skip_one c.loop-rest.rest.now (c.starts_with.ensures.bound c.loop-rest-test.true) on ∙ c.loop-rest.invariant
