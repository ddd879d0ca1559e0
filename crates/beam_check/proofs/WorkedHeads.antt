-- Worked functions.
use Rattle.std.proofs.Common.{[], ◌∷◌, codes, refl}
use Rattle.std.specs.List.{All}
use Rattle.std.proofs.lemmas.List.Elements.{All-nil, All-cons}
use Rattle.beam_model.specs.declared.instruction.Instruction.{Instruction}
use Rattle.beam_model.specs.Prelude.{label, func_info, IsLine, IsInBody, IsFunction, AreFunctions}
use Rattle.beam_model.specs.declared.opcode.Opcode.TheVariants as op

abbrev line : Instruction
line = record { opcode = op.Line; operands = [] }

abbrev return : Instruction
return = record { opcode = op.Return; operands = [] }

return_alone : All IsInBody (return ∷ [])
return_alone = All-cons IsInBody return [] (λ e. cc, λ e. cc) (All-nil IsInBody)

f_stands : IsFunction (codes "m") (record { name = codes "f"; arity = 0; entry = 2 }) (label 1 ∷ func_info (codes "m") (codes "f") 0 ∷ label 2 ∷ return ∷ [])
f_stands = record { first = 1; lines = []; body = return ∷ []; parts = refl; are_lines = All-nil IsLine; is_body = return_alone }

g_stands : IsFunction (codes "m") (record { name = codes "g"; arity = 1; entry = 4 }) (label 3 ∷ line ∷ func_info (codes "m") (codes "g") 1 ∷ label 4 ∷ label 5 ∷ line ∷ return ∷ [])
g_stands = record {
  first = 3;
  lines = line ∷ [];
  body = label 5 ∷ line ∷ return ∷ [];
  parts = refl;
  are_lines = All-cons IsLine line [] refl (All-nil IsLine);
  is_body = All-cons IsInBody (label 5) (line ∷ return ∷ []) (λ e. cc, λ e. cc) (All-cons IsInBody line (return ∷ []) (λ e. cc, λ e. cc) return_alone);
}

pub two_functions : AreFunctions (codes "m") (record { name = codes "f"; arity = 0; entry = 2 } ∷ record { name = codes "g"; arity = 1; entry = 4 } ∷ [])
    (label 1 ∷ func_info (codes "m") (codes "f") 0 ∷ label 2 ∷ return ∷ label 3 ∷ line ∷ func_info (codes "m") (codes "g") 1 ∷ label 4 ∷ label 5 ∷ line ∷ return ∷ [])
two_functions = (
  label 1 ∷ func_info (codes "m") (codes "f") 0 ∷ label 2 ∷ return ∷ [],
  label 3 ∷ line ∷ func_info (codes "m") (codes "g") 1 ∷ label 4 ∷ label 5 ∷ line ∷ return ∷ [],
  refl,
  f_stands,
  (label 3 ∷ line ∷ func_info (codes "m") (codes "g") 1 ∷ label 4 ∷ label 5 ∷ line ∷ return ∷ [], [], refl, g_stands, refl),
)
