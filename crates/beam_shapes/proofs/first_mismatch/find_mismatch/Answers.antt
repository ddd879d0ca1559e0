use Rattle.std.proofs.Common.{◌≡◌, List, sym, subst, rules}
use Rattle.beam_model.specs.declared.instruction.Instruction.{Instruction}
use Rattle.beam_model.specs.Prelude.{frame_effect, row_at}
use Rattle.beam_shapes.specs.Prelude.{IsSmall}
use Rattle.beam_shapes.proofs.Small.{small_rows}
use Rattle.beam_shapes.proofs.first_mismatch.find_mismatch.Goals as goal

pub find-requires-clause-small : goal.find-requires-clause-small
find-requires-clause-small c =
    let is : c.in_ok-code.code ≡ c.args.listing.now.instructions = search rules in
    λ at. subst (λ (code : List Instruction). IsSmall (frame_effect (row_at code at))) (sym is) (small_rows c.args.listing.now.instructions c.requires.limits at)
