use Rattle.std.proofs.Common.{◌<◌, arith, ap, subst, length, ◌++◌}
use Rattle.beam_machine.specs.declared.text_parts.TextPart.{TextPart}
use Rattle.beam_machine.specs.TextParts.{part_text, parts_text}
use Rattle.beam_lengths.proofs.Pieces.{held, too_long}
use Rattle.beam_lengths.proofs.parts.parts_length.Goals as goal

pub returns-in_err-left-clause-above : goal.returns-in_err-left-clause-above
returns-in_err-left-clause-above c =
    let parts = c.as_parts.result.0.now in
    let last = c.as_parts.result.1.now in
    let part = c.part-item.result in
    let at_part = subst (λ (p : TextPart). c.loop-part.left < length (part_text p)) c.part-item.is c.in_err-left.ensures.above in
    let above : c.args.most < length (parts_text parts ++ last) =
    too_long parts last c.loop-part.part-index part c.loop-part.left c.args.most c.loop-part-test.true c.loop-part.invariant at_part in
    held c.from_residual.result (omega (arith, above, ap length c.as_parts.ensures))
