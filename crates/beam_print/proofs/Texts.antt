-- Texts of operands, with a last one.
use Rattle.std.proofs.Common.{◌≡◌, ◌∙◌, sym, ap, refl, ℕ, List, [], ◌∷◌, ◌++◌, append_assoc, append-nil, Result, Ok, Err, OnOk}
use Rattle.beam_model.specs.declared.instruction.Operand.{Operand}
use Rattle.beam_model.specs.Prelude.{call_text, operand_text, operands_text}

pub call_of_last : (before : List ℕ) (os : List Operand) (d : Operand) → call_text before (os ++ d ∷ []) ≡ operands_text before os ++ 93 ∷ 44 ∷ [] ++ operand_text d
call_of_last before [] d = refl
call_of_last before (o ∷ []) d =
    let text : List ℕ = before ++ operand_text o in
    sym (append_assoc text (93 ∷ 44 ∷ []) (operand_text d)) ∙ ap (λ (t : List ℕ). t ++ 93 ∷ 44 ∷ [] ++ operand_text d) (sym (append-nil text))
call_of_last before (o ∷ p ∷ rest) d =
    let text : List ℕ = before ++ operand_text o in
    let others : List ℕ = operands_text (44 ∷ []) (p ∷ rest) in
    ap (λ (t : List ℕ). text ++ t) (call_of_last (44 ∷ []) (p ∷ rest) d)
    ∙ sym (append_assoc text (others ++ 93 ∷ 44 ∷ []) (operand_text d))
    ∙ ap (λ (t : List ℕ). t ++ operand_text d) (sym (append_assoc text others (93 ∷ 44 ∷ [])))

-- the arguments, the closing bracket and the last operand, one after the other
pub call_done : {T E : Type 0} (r : Result T E) (old arguments bracket new : List ℕ) (os : List Operand) (d : Operand)
    → arguments ≡ old ++ operands_text [] os → bracket ≡ arguments ++ 93 ∷ 44 ∷ []
    → OnOk r (new ≡ bracket ++ operand_text d) → OnOk r (new ≡ old ++ call_text [] (os ++ d ∷ []))
call_done (Err e) old arguments bracket new os d first second third = third
call_done (Ok x) old arguments bracket new os d first second third =
    third ∙ ap (λ (t : List ℕ). t ++ operand_text d) (second ∙ ap (λ (t : List ℕ). t ++ 93 ∷ 44 ∷ []) first ∙ append_assoc old (operands_text [] os) (93 ∷ 44 ∷ []))
    ∙ append_assoc old (operands_text [] os ++ 93 ∷ 44 ∷ []) (operand_text d) ∙ ap (λ (t : List ℕ). old ++ t) (sym (call_of_last [] os d))
