-- Within the limits of operands no row allocates more registers than a frame may have.
use Rattle.std.proofs.Common.{◌≡◌, ℕ, zero, suc, ◌≤◌, List, [], ◌∷◌, length, sym, arith, ◌==◌, Bool, true, false, if◌then◌else◌, leb-true, true≢false}
use Rattle.std.specs.List.{list_all, zip}
use Rattle.std.proofs.lemmas.Bool.{and_parts}
use Rattle.beam_model.specs.declared.instruction.Argument.TheVariants as argument
use Rattle.beam_model.specs.declared.instruction.Instruction.{Instruction}
use Rattle.beam_model.specs.declared.instruction.Operand.{Operand}
use Rattle.beam_model.specs.declared.opcode.Kind.{Kind}
use Rattle.beam_model.specs.declared.opcode.Opcode.{Opcode}
use Rattle.beam_model.specs.Prelude.{all_operands, is_within, is_frame_size, kinds_of, number, calls_exit, keeps, drops, frame_effect, frame_effect_by, row_at}
use Rattle.beam_model.specs.declared.instruction.Operand.TheVariants as operand
use Rattle.beam_model.specs.declared.opcode.Kind.TheVariants as kind
use Rattle.beam_model.specs.declared.opcode.Opcode.TheVariants as op
use Rattle.beam_shapes.specs.Prelude.{IsSmall}

size_few : (o : Operand) → is_frame_size o ≡ true → number o ≤ 1024
size_few (operand.One (argument.Number n)) e = let h = leb-true n 1023 e in omega (arith, h)
size_few (operand.One (argument.Term t)) e = absurd (true≢false (sym e))
size_few (operand.One (argument.X n)) e = absurd (true≢false (sym e))
size_few (operand.One (argument.Y n)) e = absurd (true≢false (sym e))
size_few (operand.One (argument.Label n)) e = absurd (true≢false (sym e))
size_few (operand.Import i) e = absurd (true≢false (sym e))
size_few (operand.List os) e = absurd (true≢false (sym e))

first_within : (kinds : List Kind) (o : Operand) (rest : List Operand) → all_operands is_within (kind.FrameSize ∷ kinds) (o ∷ rest) ≡ true → number o ≤ 1024
first_within kinds o rest e =
    let p = and_parts (length (kind.FrameSize ∷ kinds) == length (o ∷ rest)) (list_all (λ (q : Kind × Operand). is_within q.0 q.1) (zip (kind.FrameSize ∷ kinds) (o ∷ rest))) e in
    let q = and_parts (is_frame_size o) (list_all (λ (q : Kind × Operand). is_within q.0 q.1) (zip kinds rest)) p.1 in size_few o q.0

small_exit : (b : Bool) (n : ℕ) → IsSmall (if b then keeps else drops n)
small_exit true n = tt
small_exit false n = tt

small_row : (o : Opcode) (os : List Operand) → all_operands is_within (kinds_of o) os ≡ true → IsSmall (frame_effect_by o os)
small_row op.Allocate [] e = tt
small_row op.Allocate (n ∷ rest) e = first_within (kind.Number ∷ []) n rest e
small_row op.AllocateHeap [] e = tt
small_row op.AllocateHeap (n ∷ rest) e = first_within (kind.Number ∷ kind.Number ∷ []) n rest e
small_row op.Deallocate [] e = tt
small_row op.Deallocate (n ∷ rest) e = tt
small_row op.CallLast [] e = tt
small_row op.CallLast (a ∷ []) e = tt
small_row op.CallLast (a ∷ f ∷ []) e = tt
small_row op.CallLast (a ∷ f ∷ n ∷ rest) e = tt
small_row op.CallExtLast [] e = tt
small_row op.CallExtLast (a ∷ []) e = tt
small_row op.CallExtLast (a ∷ f ∷ []) e = tt
small_row op.CallExtLast (a ∷ f ∷ n ∷ rest) e = small_exit (calls_exit f) (number n)
small_row op.ApplyLast [] e = tt
small_row op.ApplyLast (a ∷ []) e = tt
small_row op.ApplyLast (a ∷ n ∷ rest) e = tt
small_row op.Trim [] e = tt
small_row op.Trim (m ∷ []) e = tt
small_row op.Trim (m ∷ n ∷ rest) e = tt
small_row _ os e = tt

pub small_rows : (code : List Instruction) → list_all (λ (i : Instruction). all_operands is_within (kinds_of i.opcode) i.operands) code ≡ true → (at : ℕ) → IsSmall (frame_effect (row_at code at))
small_rows [] e at = tt
small_rows (i ∷ rest) e zero =
    small_row i.opcode i.operands (and_parts (all_operands is_within (kinds_of i.opcode) i.operands) (list_all (λ (j : Instruction). all_operands is_within (kinds_of j.opcode) j.operands) rest) e).0
small_rows (i ∷ rest) e (suc at) =
    small_rows rest (and_parts (all_operands is_within (kinds_of i.opcode) i.operands) (list_all (λ (j : Instruction). all_operands is_within (kinds_of j.opcode) j.operands) rest) e).1 at
