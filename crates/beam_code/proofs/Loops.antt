-- Reading members, operands and instructions one after the other, as loops do.
use Rattle.std.proofs.Common.{◌≡◌, ℕ, suc, ◌+◌, ◌-◌, ◌<◌, ◌≤◌, Bool, true, false, cond, List, [], ◌∷◌, ◌++◌, length, get_or, drop, Option, Some, None, Result, Ok, Err, refl, sym, ap, ◌∙◌, append_assoc, arith, append-nil, length-append, option_map}
use Rattle.std.proofs.lemmas.List.{drop_more, drop_all}
use Rattle.beam_model.specs.declared.compact.Compact.{Compact}
use Rattle.beam_model.specs.declared.function.Import.{Import}
use Rattle.beam_model.specs.declared.instruction.Argument.{Argument}
use Rattle.beam_model.specs.declared.instruction.Operand.{Operand}
use Rattle.beam_model.specs.declared.instruction.Instruction.{Instruction}
use Rattle.beam_model.specs.declared.opcode.Opcode.{Opcode}
use Rattle.beam_model.specs.declared.opcode.Kind.{Kind}
use Rattle.beam_model.specs.Prelude.{CodeFault, in_front, argument_of_member, members_of, meant_at, operands_at, opcode_at, instruction_after_opcode, instructions_at}
use Rattle.beam_model.specs.Compact.{◌>>=◌}
use Rattle.beam_term.specs.Prelude.{TermValue}
use Rattle.beam_model.specs.CodeChunk.{is_end}
use Rattle.beam_code.specs.declared.error.CodeError.{CodeError}
use Rattle.beam_code.specs.declared.error.CodeError.TheVariants.{UnsupportedOpcode, BadOperand, Truncated, NoMemory}
use Rattle.beam_code.specs.Prelude.{Fails, put_last}

-- ---- members of a list

-- the meanings of the members so far, and then those of the rest
abbrev pub with_members : List Argument → Option (List Argument) → Option (List Argument)
with_members front left = option_map (λ xs. front ++ xs) left

regroup_members : (front : List Argument) (a : Argument) (o : Option (List Argument)) → with_members front (in_front (Some a) o) ≡ with_members (front ++ a ∷ []) o
regroup_members front a (Some xs) = ap (λ (ys : List Argument). Some ys) (sym (append_assoc front (a ∷ []) xs))
regroup_members front a None = refl

pub members_start : (o : Option (List Argument)) → with_members [] o ≡ o
members_start (Some xs) = refl
members_start None = refl

pub member_more : (atoms : List (List ℕ)) (literals : List TermValue) (xs : List Compact) (i : ℕ) (d : Compact) (front : List Argument) (a : Argument) (all : Option (List Argument)) → i < length xs
    → Some a ≡ argument_of_member atoms literals (get_or xs i d) → with_members front (members_of atoms literals (drop i xs)) ≡ all → with_members (front ++ a ∷ []) (members_of atoms literals (drop (i + 1) xs)) ≡ all
unfolding members_of
member_more atoms literals xs i d front a all lt e so_far =
    let left : members_of atoms literals (drop i xs) ≡ in_front (Some a) (members_of atoms literals (drop (i + 1) xs)) =
    ap (members_of atoms literals) (drop_more xs i d lt) ∙ ap (λ (o : Option Argument). in_front o (members_of atoms literals (drop (i + 1) xs))) (sym e) in
    sym (regroup_members front a (members_of atoms literals (drop (i + 1) xs))) ∙ ap (with_members front) (sym left) ∙ so_far

pub member_none : (atoms : List (List ℕ)) (literals : List TermValue) (xs : List Compact) (i : ℕ) (d : Compact) (front : List Argument) (all : Option (List Argument)) → i < length xs
    → None ≡ argument_of_member atoms literals (get_or xs i d) → with_members front (members_of atoms literals (drop i xs)) ≡ all → None ≡ all
unfolding members_of
member_none atoms literals xs i d front all lt e so_far =
    let left : members_of atoms literals (drop i xs) ≡ None =
    ap (members_of atoms literals) (drop_more xs i d lt) ∙ ap (λ (o : Option Argument). in_front o (members_of atoms literals (drop (i + 1) xs))) (sym e) in
    ap (with_members front) (sym left) ∙ so_far

pub members_done : (atoms : List (List ℕ)) (literals : List TermValue) (xs : List Compact) (i : ℕ) (front : List Argument) (all : Option (List Argument)) → length xs ≤ i
    → with_members front (members_of atoms literals (drop i xs)) ≡ all → Some front ≡ all
unfolding members_of
members_done atoms literals xs i front all le so_far =
    let left : members_of atoms literals (drop i xs) ≡ Some [] = ap (members_of atoms literals) (drop_all i xs le) in
    ap (λ (ys : List Argument). Some ys) (sym (append-nil front)) ∙ ap (with_members front) (sym left) ∙ so_far

-- ---- operands

regroup_operands : (front : List Operand) (o : Operand) (r : Result (List Operand × ℕ) CodeFault) → put_last front (r >>= λ x. Ok (o ∷ x.0, x.1)) ≡ put_last (front ++ o ∷ []) r
regroup_operands front o (Ok x) = ap (λ (os : List Operand). Ok (os, x.1)) (sym (append_assoc front (o ∷ []) x.0))
regroup_operands front o (Err f) = refl

pub operand_more : (atoms : List (List ℕ)) (imports : List Import) (literals : List TermValue) (code : List ℕ) (kinds : List Kind) (i : ℕ) (d : Kind) (at next : ℕ) (front : List Operand) (o : Operand)
    (all : Result (List Operand × ℕ) CodeFault) → i < length kinds → meant_at atoms imports literals code (get_or kinds i d) at ≡ Ok (o, next)
    → put_last front (operands_at atoms imports literals code (drop i kinds) at) ≡ all → put_last (front ++ o ∷ []) (operands_at atoms imports literals code (drop (i + 1) kinds) next) ≡ all
unfolding operands_at
operand_more atoms imports literals code kinds i d at next front o all lt e so_far =
    let left : operands_at atoms imports literals code (drop i kinds) at ≡ (operands_at atoms imports literals code (drop (i + 1) kinds) next >>= λ x. Ok (o ∷ x.0, x.1)) =
    ap (λ (ks : List Kind). operands_at atoms imports literals code ks at) (drop_more kinds i d lt)
    ∙ ap (λ (r : Result (Operand × ℕ) CodeFault). r >>= λ first. operands_at atoms imports literals code (drop (i + 1) kinds) first.1 >>= λ x. Ok (first.0 ∷ x.0, x.1)) e in
    sym (regroup_operands front o (operands_at atoms imports literals code (drop (i + 1) kinds) next)) ∙ ap (put_last front) (sym left) ∙ so_far

operand_fault : (atoms : List (List ℕ)) (imports : List Import) (literals : List TermValue) (code : List ℕ) (kinds : List Kind) (i : ℕ) (d : Kind) (at : ℕ) (front : List Operand) (f : CodeFault)
    (all : Result (List Operand × ℕ) CodeFault) → i < length kinds → meant_at atoms imports literals code (get_or kinds i d) at ≡ Err f
    → put_last front (operands_at atoms imports literals code (drop i kinds) at) ≡ all → all ≡ Err f
unfolding operands_at
operand_fault atoms imports literals code kinds i d at front f all lt e so_far =
    let left : operands_at atoms imports literals code (drop i kinds) at ≡ Err f =
    ap (λ (ks : List Kind). operands_at atoms imports literals code ks at) (drop_more kinds i d lt)
    ∙ ap (λ (r : Result (Operand × ℕ) CodeFault). r >>= λ first. operands_at atoms imports literals code (drop (i + 1) kinds) first.1 >>= λ x. Ok (first.0 ∷ x.0, x.1)) e in
    sym so_far ∙ ap (put_last front) left

pub operand_fails : (e : CodeError) (atoms : List (List ℕ)) (imports : List Import) (literals : List TermValue) (code : List ℕ) (kinds : List Kind) (i : ℕ) (d : Kind) (at : ℕ) (front : List Operand)
    (all : Result (List Operand × ℕ) CodeFault) → i < length kinds → Fails e (meant_at atoms imports literals code (get_or kinds i d) at)
    → put_last front (operands_at atoms imports literals code (drop i kinds) at) ≡ all → Fails e all
operand_fails NoMemory atoms imports literals code kinds i d at front all lt h so_far = tt
operand_fails Truncated atoms imports literals code kinds i d at front all lt h so_far = operand_fault atoms imports literals code kinds i d at front _ all lt h so_far
operand_fails (BadOperand n) atoms imports literals code kinds i d at front all lt h so_far = operand_fault atoms imports literals code kinds i d at front _ all lt h so_far
operand_fails (UnsupportedOpcode m n) atoms imports literals code kinds i d at front all lt h so_far = operand_fault atoms imports literals code kinds i d at front _ all lt h so_far

pub operands_done : (atoms : List (List ℕ)) (imports : List Import) (literals : List TermValue) (code : List ℕ) (kinds : List Kind) (i at : ℕ) (front : List Operand)
    (all : Result (List Operand × ℕ) CodeFault) → length kinds ≤ i
    → put_last front (operands_at atoms imports literals code (drop i kinds) at) ≡ all → all ≡ Ok (front, at)
unfolding operands_at
operands_done atoms imports literals code kinds i at front all le so_far =
    let left : operands_at atoms imports literals code (drop i kinds) at ≡ Ok ([], at) = ap (λ (ks : List Kind). operands_at atoms imports literals code ks at) (drop_all i kinds le) in
    sym so_far ∙ ap (put_last front) left ∙ ap (λ (os : List Operand). Ok (os, at)) (append-nil front)

-- ---- instructions

abbrev pub with_instructions : List Instruction → Result (List Instruction) CodeFault → Result (List Instruction) CodeFault
with_instructions front read = read >>= λ xs. Ok (front ++ xs)

-- the instructions that a loop has read so far
pub record IsRead (atoms : List (List ℕ)) (imports : List Import) (literals : List TermValue) (code : List ℕ) (start at : ℕ) (front : List Instruction) : Type 0 where
  pub count : length front < at
  pub within : at ≤ length code
  pub is : with_instructions front (instructions_at atoms imports literals code (length code - length front) at) ≡ instructions_at atoms imports literals code (length code) start

pub reading_starts : (atoms : List (List ℕ)) (imports : List Import) (literals : List TermValue) (code : List ℕ) (start : ℕ) → 0 < start → start ≤ length code → IsRead atoms imports literals code start start []
reading_starts atoms imports literals code start low high =
    let whole : length code - 0 ≡ length code = omega arith in
    record { count = low; within = high; is = ap (λ (n : ℕ). with_instructions [] (instructions_at atoms imports literals code n start)) whole ∙ same (instructions_at atoms imports literals code (length code) start) }
  where
    same : (r : Result (List Instruction) CodeFault) → with_instructions [] r ≡ r
    same (Ok xs) = refl
    same (Err f) = refl

-- an instruction and the instructions after it
abbrev from_opcode : List (List ℕ) → List Import → List TermValue → List ℕ → ℕ → ℕ → Opcode → Result (List Instruction) CodeFault
from_opcode atoms imports literals code n at opcode =
    cond (is_end opcode) (Ok []) (instruction_after_opcode atoms imports literals code opcode (at + 1) >>= λ first. instructions_at atoms imports literals code n first.1 >>= λ others. Ok (first.0 ∷ others))

one_step : (atoms : List (List ℕ)) (imports : List Import) (literals : List TermValue) (code : List ℕ) (start at : ℕ) (front : List Instruction) → IsRead atoms imports literals code start at front → (n : ℕ) → n ≡ length code - suc (length front)
    → with_instructions front (opcode_at code at >>= from_opcode atoms imports literals code n at) ≡ instructions_at atoms imports literals code (length code) start
unfolding instructions_at
one_step atoms imports literals code start at front r n n-is =
    let count : length front < at = r.count in
    let within : at ≤ length code = r.within in
    let fuel : suc n ≡ length code - length front = omega arith in
    ap (λ (m : ℕ). with_instructions front (instructions_at atoms imports literals code m at)) fuel ∙ r.is

opcode_fault : (atoms : List (List ℕ)) (imports : List Import) (literals : List TermValue) (code : List ℕ) (start at : ℕ) (front : List Instruction) (f : CodeFault) → IsRead atoms imports literals code start at front
    → opcode_at code at ≡ Err f → instructions_at atoms imports literals code (length code) start ≡ Err f
opcode_fault atoms imports literals code start at front f r e =
    sym (one_step atoms imports literals code start at front r _ refl)
    ∙ ap (λ (o : Result Opcode CodeFault). with_instructions front (o >>= from_opcode atoms imports literals code (length code - suc (length front)) at)) e

pub opcode_fails : (e : CodeError) (atoms : List (List ℕ)) (imports : List Import) (literals : List TermValue) (code : List ℕ) (start at : ℕ) (front : List Instruction) → IsRead atoms imports literals code start at front
    → Fails e (opcode_at code at) → Fails e (instructions_at atoms imports literals code (length code) start)
opcode_fails NoMemory atoms imports literals code start at front r h = tt
opcode_fails Truncated atoms imports literals code start at front r h = opcode_fault atoms imports literals code start at front _ r h
opcode_fails (BadOperand n) atoms imports literals code start at front r h = opcode_fault atoms imports literals code start at front _ r h
opcode_fails (UnsupportedOpcode m n) atoms imports literals code start at front r h = opcode_fault atoms imports literals code start at front _ r h

pub reading_ends : (atoms : List (List ℕ)) (imports : List Import) (literals : List TermValue) (code : List ℕ) (start at : ℕ) (front : List Instruction) (opcode : Opcode) → IsRead atoms imports literals code start at front
    → opcode_at code at ≡ Ok opcode → is_end opcode ≡ true → instructions_at atoms imports literals code (length code) start ≡ Ok front
reading_ends atoms imports literals code start at front opcode r e ends =
    let n = length code - suc (length front) in
    sym (one_step atoms imports literals code start at front r n refl)
    ∙ ap (λ (o : Result Opcode CodeFault). with_instructions front (o >>= from_opcode atoms imports literals code n at)) e
    ∙ ap (λ (b : Bool). with_instructions front (cond b (Ok []) (instruction_after_opcode atoms imports literals code opcode (at + 1) >>= λ first. instructions_at atoms imports literals code n first.1 >>= λ others. Ok (first.0 ∷ others)))) ends
    ∙ ap (λ (xs : List Instruction). Ok xs) (append-nil front)

-- after an opcode other than int_code_end
behind_opcode : (atoms : List (List ℕ)) (imports : List Import) (literals : List TermValue) (code : List ℕ) (start at : ℕ) (front : List Instruction) (opcode : Opcode) → IsRead atoms imports literals code start at front
    → opcode_at code at ≡ Ok opcode → is_end opcode ≡ false
    → with_instructions front (instruction_after_opcode atoms imports literals code opcode (at + 1) >>= λ first. instructions_at atoms imports literals code (length code - suc (length front)) first.1 >>= λ others. Ok (first.0 ∷ others))
    ≡ instructions_at atoms imports literals code (length code) start
behind_opcode atoms imports literals code start at front opcode r e goes_on =
    let n = length code - suc (length front) in
    let left : (opcode_at code at >>= from_opcode atoms imports literals code n at) ≡ (instruction_after_opcode atoms imports literals code opcode (at + 1) >>= λ first. instructions_at atoms imports literals code n first.1 >>= λ others. Ok (first.0 ∷ others)) =
    ap (λ (o : Result Opcode CodeFault). o >>= from_opcode atoms imports literals code n at) e
    ∙ ap (λ (b : Bool). cond b (Ok []) (instruction_after_opcode atoms imports literals code opcode (at + 1) >>= λ first. instructions_at atoms imports literals code n first.1 >>= λ others. Ok (first.0 ∷ others))) goes_on in
    ap (with_instructions front) (sym left) ∙ one_step atoms imports literals code start at front r n refl

instruction_fault : (atoms : List (List ℕ)) (imports : List Import) (literals : List TermValue) (code : List ℕ) (start at : ℕ) (front : List Instruction) (opcode : Opcode) (f : CodeFault) → IsRead atoms imports literals code start at front
    → opcode_at code at ≡ Ok opcode → is_end opcode ≡ false → instruction_after_opcode atoms imports literals code opcode (at + 1) ≡ Err f → instructions_at atoms imports literals code (length code) start ≡ Err f
instruction_fault atoms imports literals code start at front opcode f r e goes_on h =
    sym (behind_opcode atoms imports literals code start at front opcode r e goes_on)
    ∙ ap (λ (i : Result (Instruction × ℕ) CodeFault). with_instructions front (i >>= λ first. instructions_at atoms imports literals code (length code - suc (length front)) first.1 >>= λ others. Ok (first.0 ∷ others))) h

pub instruction_fails : (e : CodeError) (atoms : List (List ℕ)) (imports : List Import) (literals : List TermValue) (code : List ℕ) (start at : ℕ) (front : List Instruction) (opcode : Opcode) → IsRead atoms imports literals code start at front
    → opcode_at code at ≡ Ok opcode → is_end opcode ≡ false → Fails e (instruction_after_opcode atoms imports literals code opcode (at + 1)) → Fails e (instructions_at atoms imports literals code (length code) start)
instruction_fails NoMemory atoms imports literals code start at front opcode r o g h = tt
instruction_fails Truncated atoms imports literals code start at front opcode r o g h = instruction_fault atoms imports literals code start at front opcode _ r o g h
instruction_fails (BadOperand n) atoms imports literals code start at front opcode r o g h = instruction_fault atoms imports literals code start at front opcode _ r o g h
instruction_fails (UnsupportedOpcode m n) atoms imports literals code start at front opcode r o g h = instruction_fault atoms imports literals code start at front opcode _ r o g h

regroup_instructions : (front : List Instruction) (i : Instruction) (r : Result (List Instruction) CodeFault) → with_instructions front (r >>= λ xs. Ok (i ∷ xs)) ≡ with_instructions (front ++ i ∷ []) r
regroup_instructions front i (Ok xs) = ap (λ (ys : List Instruction). Ok ys) (sym (append_assoc front (i ∷ []) xs))
regroup_instructions front i (Err f) = refl

pub instruction_more : (atoms : List (List ℕ)) (imports : List Import) (literals : List TermValue) (code : List ℕ) (start at next : ℕ) (front : List Instruction) (opcode : Opcode) (i : Instruction) → IsRead atoms imports literals code start at front
    → opcode_at code at ≡ Ok opcode → is_end opcode ≡ false → instruction_after_opcode atoms imports literals code opcode (at + 1) ≡ Ok (i, next) → at + 1 ≤ next → next ≤ length code
    → IsRead atoms imports literals code start next (front ++ i ∷ [])
instruction_more atoms imports literals code start at next front opcode i r o goes_on e low high =
    let count : length front < at = r.count in
    let len : length (front ++ i ∷ []) ≡ suc (length front) = length-append front (i ∷ []) ∙ omega arith in
    let n = length code - suc (length front) in
    let fuel : length code - length (front ++ i ∷ []) ≡ n = ap (λ (m : ℕ). length code - m) len in
    record {
      count = omega arith;
      within = high;
      is = ap (λ (m : ℕ). with_instructions (front ++ i ∷ []) (instructions_at atoms imports literals code m next)) fuel
          ∙ sym (regroup_instructions front i (instructions_at atoms imports literals code n next))
          ∙ ap (λ (q : Result (Instruction × ℕ) CodeFault). with_instructions front (q >>= λ first. instructions_at atoms imports literals code n first.1 >>= λ others. Ok (first.0 ∷ others))) (sym e)
          ∙ behind_opcode atoms imports literals code start at front opcode r o goes_on;
    }
