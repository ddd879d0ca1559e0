-- From the answer of a reading to the instructions that a Code chunk spells.
use Rattle.std.proofs.Common.{◌≡◌, ℕ, List, Result, Ok, Err, refl, sym, subst, ◌∙◌, IfOk, MatchResult}
use Rattle.beam_model.specs.Prelude.{Tables, CodeParts, CodeFault, code_of, IsCode}
use Rattle.beam_code.specs.declared.error.CodeError.{CodeError}
use Rattle.beam_code.specs.declared.error.CodeError.TheVariants.{UnsupportedOpcode, BadOperand, Truncated, NoMemory}
use Rattle.beam_code.specs.Prelude.{Fails, Gives}
use Rattle.beam_code.proofs.Codes.{ok_is, code_told, code_read}

-- a reading that has a result has no fault, so an error is NoMemory
pub only_memory : {Y : Type 0} (e : CodeError) (y : Y) → Fails e (Ok y) → e ≡ NoMemory
only_memory (UnsupportedOpcode n at) y f = absurd cc
only_memory (BadOperand at) y f = absurd cc
only_memory Truncated y f = absurd cc
only_memory NoMemory y f = refl

pub spelled : {X : Type 0} (view : X → CodeParts) (r : Result X CodeError) (t : Tables) (bytes : List ℕ) → Gives view r (code_of t.atoms t.imports t.literals bytes)
    → IfOk r (λ x. IsCode t (view x) bytes)
spelled view (Ok x) t bytes g = code_told t bytes (view x) g
spelled view (Err e) t bytes g = tt

pub only : {X : Type 0} (view : X → CodeParts) (r : Result X CodeError) (t : Tables) (bytes : List ℕ) → Gives view r (code_of t.atoms t.imports t.literals bytes)
    → (p : CodeParts) → IsCode t p bytes → MatchResult r (λ x. view x ≡ p) (λ e. e ≡ NoMemory)
only view (Ok x) t bytes g p is = ok_is (view x) p (sym g ∙ code_read t bytes p is)
only view (Err e) t bytes g p is = only_memory e p (subst (λ (r : Result CodeParts CodeFault). Fails e r) (code_read t bytes p is) g)
