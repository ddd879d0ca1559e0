use Rattle.std.proofs.Common.{◌∙◌, arith}
use Rattle.std.proofs.lemmas.Grind.{common_steps}
use Rattle.beam_codesrv.proofs.SameNumbers.{ended_alike}
use Rattle.beam_codesrv.proofs.comparing.are_same.Goals as goal

pub returns : goal.returns
returns c =
    ended_alike c.loop-name.modules c.loop-name.others c.is_empty.result (grind (arith, common_steps, c.in_default.ensures.found, c.in_default.not-Some)) c.is_empty.ensures
    ∙ c.loop-name.invariant
