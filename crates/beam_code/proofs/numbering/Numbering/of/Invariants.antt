use Rattle.std.proofs.Common.{length, ◌≡◌, [], ◌∷◌, fold}
use Rattle.beam_model.specs.Prelude.{with_instruction}
use Rattle.beam_code.proofs.numbering.Numbering.of.Given as goal

-- the numbering so far, with the rest noted, is the whole one
abbrev pub invariant-loop-instruction : goal.invariant-loop-instruction
invariant-loop-instruction l = fold with_instruction l.numbering l.rest ≡ fold with_instruction (record { atoms = l.name ∷ []; imports = []; literals = [] }) l.instructions

abbrev pub decreases-loop-instruction : goal.decreases-loop-instruction
decreases-loop-instruction l = length l.rest
