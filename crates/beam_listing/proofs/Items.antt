-- Each printed form after the heads is read again as its function or instruction.
use Rattle.std.proofs.Common.{ℕ, List, [], ◌∷◌, ◌++◌}
use Rattle.beam_model.specs.declared.function.Function.{Function}
use Rattle.beam_model.specs.declared.instruction.Instruction.{Instruction}
use Rattle.beam_model.specs.declared.item.Item.{Item}
use Rattle.beam_model.specs.Prelude.{without_line_number}
use Rattle.beam_model.specs.declared.item.Item.TheVariants as item
use Rattle.beam_listing.proofs.Shapes.{IsInstruction, instruction_written}
use Rattle.beam_listing.proofs.Bodies.{AreItems, IsFunction, function_part, function_again}
use Rattle.beam_listing.proofs.Printed.{function_forms, function_before, instruction_forms}

abbrev pub function_items : List Function → List Item
function_items [] = []
function_items (f ∷ fs) = item.Function f ∷ function_items fs

abbrev pub items_of : List Instruction → List Item
items_of [] = []
items_of (i ∷ rest) = function_items (function_before i rest) ++ (item.Instruction (without_line_number i) ∷ items_of rest)

abbrev pub AreFunctions : List Function → Type 0
AreFunctions [] = Unit {0}
AreFunctions (f ∷ fs) = IsFunction f × AreFunctions fs

-- each instruction can be written, and so can the function in front of it
abbrev pub AreInstructions : List Instruction → Type 0
AreInstructions [] = Unit {0}
AreInstructions (i ∷ rest) = (AreFunctions (function_before i rest) × IsInstruction i.opcode i.operands) × AreInstructions rest

behind_functions : (fs : List Function) (gs : List (List ℕ)) (xs : List Item) → AreFunctions fs → AreItems gs xs → AreItems (function_forms fs ++ gs) (function_items fs ++ xs)
behind_functions [] gs xs are others = others
behind_functions (f ∷ fs) gs xs are others = ((function_part f are.0, function_again f are.0), behind_functions fs gs xs are.1 others)

pub are_items : (is : List Instruction) → AreInstructions is → AreItems (instruction_forms is) (items_of is)
are_items [] are = tt
are_items (i ∷ rest) are =
    let written = instruction_written i.opcode i.operands are.0.1 in
    behind_functions (function_before i rest) _ (item.Instruction (without_line_number i) ∷ items_of rest) are.0.0 ((written.part, written.item), are_items rest are.1)
