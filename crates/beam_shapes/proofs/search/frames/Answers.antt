use Rattle.std.proofs.Common.{◌≡◌, List, sym, subst, rules}
use Rattle.beam_model.specs.declared.instruction.Instruction.{Instruction}
use Rattle.beam_model.specs.Prelude.{frame_effect, row_at, AreFramed}
use Rattle.beam_shapes.specs.Prelude.{IsSmall, Fails, IsAssignment}
use Rattle.beam_shapes.specs.declared.error.FrameCheckError.{FrameCheckError}
use Rattle.beam_shapes.specs.declared.error.FrameCheckError.TheVariants.{FrameMismatch}
use Rattle.beam_shapes.proofs.Small.{small_rows}
use Rattle.beam_shapes.proofs.Fits.{refused}
use Rattle.beam_shapes.proofs.search.frames.Goals as goal

pub find-requires-clause-small : goal.find-requires-clause-small
find-requires-clause-small c =
    let is : c.in_ok-code.code ≡ c.args.listing.now.instructions = search rules in
    λ at. subst (λ (code : List Instruction). IsSmall (frame_effect (row_at code at))) (sym is) (small_rows c.args.listing.now.instructions c.requires.limits at)

pub returns-in-Err-FrameMismatch-clause-unframed : goal.returns-in-Err-FrameMismatch-clause-unframed
returns-in-Err-FrameMismatch-clause-unframed c = λ e framed.
    let code = c.in_ok-code.code in let k = c.in_ok-known.known in
    let is : code ≡ c.args.listing.now.instructions = search rules in
    let refusal : Fails FrameMismatch (IsAssignment code) k = subst (λ (x : FrameCheckError). Fails x (IsAssignment code) k) c.in-Err-FrameMismatch.field-0-is c.in-Err-FrameMismatch.ensures in
    refused code k _ c.in_ok-known.ensures.0 refusal (subst (λ (is' : List Instruction). AreFramed is') (sym is) framed)
