-- The text of an instruction whose last operand is a list.
use Rattle.std.proofs.Common.{◌≡◌, ◌∙◌, ap, sym, refl, ℕ, List, [], ◌∷◌, ◌++◌, append_assoc, append-nil}
use Rattle.beam_model.specs.declared.instruction.Argument.{Argument}
use Rattle.beam_model.specs.declared.instruction.Operand.{Operand}
use Rattle.beam_model.specs.Prelude.{arguments_text, operand_text, operands_text, plain_text}
use Rattle.beam_model.specs.declared.instruction.Operand.TheVariants as operand

-- the last operand stands after a comma
operands_of_last : (os : List Operand) (d : Operand) → operands_text (44 ∷ []) (os ++ d ∷ []) ≡ operands_text (44 ∷ []) os ++ (44 ∷ operand_text d)
operands_of_last [] d = append-nil (44 ∷ operand_text d)
operands_of_last (o ∷ rest) d =
    ap (λ (t : List ℕ). 44 ∷ (operand_text o ++ t)) (operands_of_last rest d)
    ∙ ap (λ (t : List ℕ). 44 ∷ t) (sym (append_assoc (operand_text o) (operands_text (44 ∷ []) rest) (44 ∷ operand_text d)))

plain_of_last : (name : List ℕ) (os : List Operand) (d : Operand)
    → plain_text name (os ++ d ∷ []) ≡ (123 ∷ (name ++ operands_text (44 ∷ []) (os ++ d ∷ []))) ++ 125 ∷ []
plain_of_last name [] d = refl
plain_of_last name (o ∷ rest) d = refl

-- the text of an instruction: before the members, the members, and after them
pub listed_is : (name : List ℕ) (os : List Operand) (members : List Argument)
    → plain_text name (os ++ operand.List members ∷ [])
    ≡ (123 ∷ (name ++ operands_text (44 ∷ []) os ++ 44 ∷ 123 ∷ 108 ∷ 105 ∷ 115 ∷ 116 ∷ 44 ∷ 91 ∷ [])) ++ arguments_text [] members ++ 93 ∷ 125 ∷ 125 ∷ []
listed_is name os members =
    let front : List ℕ = operands_text (44 ∷ []) os in
    let text : List ℕ = arguments_text [] members in
    plain_of_last name os (operand.List members)
    ∙ ap (λ (t : List ℕ). (123 ∷ (name ++ t)) ++ 125 ∷ []) (operands_of_last os (operand.List members)) ∙ simp append_assoc
