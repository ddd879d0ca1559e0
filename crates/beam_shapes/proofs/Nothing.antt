-- Operands that name nothing, whatever their kinds are.
use Rattle.std.proofs.Common.{◌≡◌, ℕ, Bool, true, false, List, [], ◌∷◌, ◌++◌, refl, ap, ap₂, sym, ◌∙◌, if◌then◌else◌, append-nil}
use Rattle.std.specs.List.{list_any, flat_map, zip}
use Rattle.std.proofs.lemmas.Bool.{or_parts}
use Rattle.beam_model.specs.declared.instruction.Instruction.{Instruction}
use Rattle.beam_model.specs.declared.instruction.Operand.{Operand}
use Rattle.beam_model.specs.declared.opcode.Kind.{Kind}
use Rattle.beam_model.specs.Prelude.{ys_in, is_read, is_written, read_ys, written_ys, never_jumps, jumps, kinds_of}
use Rattle.beam_model.specs.declared.instruction.Operand.TheVariants as operand
use Rattle.beam_shapes.specs.declared.named.OperandRole.{OperandRole}
use Rattle.beam_shapes.specs.declared.named.OperandRole.TheVariants as part
use Rattle.beam_shapes.specs.Prelude.{is_of, numbers_of, numbers_in, is_some_of, may_name, may_name_some, named}

none_of : (ns : List ℕ) → is_some_of ns ≡ false → ns ≡ []
none_of [] e = refl
none_of (n ∷ rest) e = absurd (cc e)

none_in : (p : OperandRole) (o : Operand) → may_name p o ≡ false → numbers_in p o ≡ []
none_in part.Reads (operand.One a) e = none_of (numbers_of part.Reads a) e
none_in part.Writes (operand.One a) e = none_of (numbers_of part.Writes a) e
none_in part.Jumps (operand.One a) e = none_of (numbers_of part.Jumps a) e
none_in part.Reads (operand.Import i) e = refl
none_in part.Writes (operand.Import i) e = refl
none_in part.Jumps (operand.Import i) e = refl
none_in p (operand.List as') e = absurd (cc e)

none_if : (b : Bool) (ns : List ℕ) → ns ≡ [] → (if b then ns else []) ≡ []
none_if true ns e = e
none_if false ns e = refl

module _ (may : Operand → Bool) (names : Operand → List ℕ) (none : (o : Operand) → may o ≡ false → names o ≡ []) (test : Kind → Bool) where
  none_left : (kinds : List Kind) (os : List Operand) → list_any may os ≡ false
      → flat_map (λ (q : Kind × Operand). if test q.0 then names q.1 else []) (zip kinds os) ≡ []
  none_left [] os e = refl
  none_left (k ∷ kinds) [] e = refl
  none_left (k ∷ kinds) (o ∷ os) e =
      let h = or_parts (may o) (list_any may os) e in
      ap₂ (λ (xs ys : List ℕ). xs ++ ys) (none_if (test k) (names o) (none o h.0)) (none_left kinds os h.1)

none_named : (p : OperandRole) (i : Instruction) → may_name_some p i ≡ false → named p i ≡ []
none_named p i e = none_left (may_name p) (numbers_in p) (none_in p) (is_of p i.opcode) (kinds_of i.opcode) i.operands e

pub nothing_more : (xs : List ℕ) (p : OperandRole) (i : Instruction) → may_name_some p i ≡ false → xs ≡ xs ++ named p i
nothing_more xs p i e = sym (ap (λ (ys : List ℕ). xs ++ ys) (none_named p i e) ∙ append-nil xs)

pub none_read : (i : Instruction) → may_name_some part.Reads i ≡ false → read_ys i ≡ []
none_read i e = none_left (may_name part.Reads) ys_in (none_in part.Reads) (is_read i.opcode) (kinds_of i.opcode) i.operands e

pub none_written : (i : Instruction) → may_name_some part.Reads i ≡ false → written_ys i ≡ []
none_written i e = none_left (may_name part.Reads) ys_in (none_in part.Reads) (is_written i.opcode) (kinds_of i.opcode) i.operands e

none_either : (b : Bool) (ns : List ℕ) → ns ≡ [] → (if b then [] else ns) ≡ []
none_either true ns e = refl
none_either false ns e = e

pub no_jumps_more : (xs : List ℕ) (i : Instruction) → may_name_some part.Jumps i ≡ false → xs ≡ xs ++ jumps i
no_jumps_more xs i e =
    let none : jumps i ≡ [] = none_either (never_jumps i) (named part.Jumps i) (none_named part.Jumps i e) in
    sym (ap (λ (ys : List ℕ). xs ++ ys) none ∙ append-nil xs)
