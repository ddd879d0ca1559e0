use Rattle.std.proofs.Common.{◌≡◌, ℕ, false, List, [], ◌∷◌, ◌++◌, length, Some, refl, rules, ◌==◌}
use Rattle.beam_model.specs.declared.opcode.Opcode.{Opcode}
use Rattle.beam_model.specs.Prelude.{instruction_of_parts, is_bif_shape, counted, bif_by, shape_of}
use Rattle.beam_listing.proofs.instruction.bif_by.Goals as goal

-- with arguments
by_opcode : (name fail : List ℕ) (parts : List (List ℕ)) (dest : List ℕ) (o : Opcode) → (length parts == 0) ≡ false → counted 9 (length parts) ≡ Some o
    → bif_by name fail parts dest ≡ instruction_of_parts (is_bif_shape (shape_of o)) o ((fail ∷ name ∷ []) ++ parts ++ dest ∷ [])
unfolding bif_by
by_opcode name fail [] dest o some e = absurd cc
by_opcode name fail (part ∷ parts) dest o some e = rw e refl

pub returns : goal.returns
returns c =
    let parts : List (List ℕ) = c.args.arguments.now in
    let some : (length parts == 0) ≡ false = cc in
    let opcode : counted 9 (length parts) ≡ Some c.in_ok-opcode.opcode = rw c.in_ok-opcode.was at c.counted.ensures in
    rw (by_opcode c.args.name.now c.args.fail.now parts c.args.dest.now c.in_ok-opcode.opcode some opcode) (search rules)
