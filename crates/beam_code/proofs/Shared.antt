-- Instructions whose operands are read into a list that they share.
use Rattle.std.proofs.Common.{◌≡◌, ℕ, ◌+◌, ◌≤◌, List, [], ◌∷◌, ◌++◌, length, take, drop, Result, Ok, Err, refl, sym, ap, ap₂, subst, ◌∙◌, arith, length-append, length-drop, take-append-drop, take_at, drop_at, take_all, map}
use Rattle.std.specs.List.{All}
use Rattle.std.proofs.lemmas.List.{take-append-le, drop-append-le, map_push}
use Rattle.std.proofs.lemmas.List.Elements.{All-head, All-tail, All-push, All-weaker}
use Rattle.beam_model.specs.declared.function.Import.{Import}
use Rattle.beam_model.specs.declared.instruction.Operand.{Operand}
use Rattle.beam_model.specs.declared.instruction.Instruction.{Instruction}
use Rattle.beam_model.specs.declared.opcode.Opcode.{Opcode}
use Rattle.beam_model.specs.Prelude.{CodeFault, operands_at, opcode_at, listed_operands, instruction_after_opcode, Tables, kinds_of}
use Rattle.beam_term.specs.Prelude.{TermValue}
use Rattle.beam_code.specs.declared.error.CodeError.{CodeError}
use Rattle.beam_code.specs.declared.error.CodeError.TheVariants.{UnsupportedOpcode, BadOperand, Truncated, NoMemory}
use Rattle.beam_code.specs.declared.instruction.InstructionSpan.{InstructionSpan}
use Rattle.beam_code.specs.Prelude.{Fails, standing_at, put_last, made_of, IsWithin, IsPut}
use Rattle.beam_code.proofs.Codes.{ok_is}

abbrev pub instruction_of : Opcode → List Operand → Instruction
instruction_of opcode operands = record { opcode = opcode; operands = operands }

-- ---- an instruction whose operands are appended to others

only_fault : (front : List Operand) (r : Result (List Operand × ℕ) CodeFault) (f : CodeFault) → put_last front r ≡ Err f → r ≡ Err f
only_fault front (Ok x) f e = absurd cc
only_fault front (Err g) f e = e

fault_at_operands : (atoms : List (List ℕ)) (imports : List Import) (literals : List TermValue) (code : List ℕ) (opcode : Opcode) (at : ℕ) (front : List Operand) (f : CodeFault)
    → put_last front (operands_at atoms imports literals code (kinds_of opcode) at) ≡ Err f → instruction_after_opcode atoms imports literals code opcode at ≡ Err f
unfolding instruction_after_opcode
fault_at_operands atoms imports literals code opcode at front f e = rw (only_fault front (operands_at atoms imports literals code (kinds_of opcode) at) f e) refl

pub operands_fail : (e : CodeError) (atoms : List (List ℕ)) (imports : List Import) (literals : List TermValue) (code : List ℕ) (opcode : Opcode) (at : ℕ) (front : List Operand)
    → Fails e (put_last front (operands_at atoms imports literals code (kinds_of opcode) at)) → Fails e (instruction_after_opcode atoms imports literals code opcode at)
operands_fail NoMemory atoms imports literals code opcode at front h = tt
operands_fail Truncated atoms imports literals code opcode at front h = fault_at_operands atoms imports literals code opcode at front _ h
operands_fail (BadOperand n) atoms imports literals code opcode at front h = fault_at_operands atoms imports literals code opcode at front _ h
operands_fail (UnsupportedOpcode m n) atoms imports literals code opcode at front h = fault_at_operands atoms imports literals code opcode at front _ h

-- operands that were read and appended to others
record Behind (old pool : List Operand) (next : ℕ) (r : Result (List Operand × ℕ) CodeFault) : Type 0 where
  is : r ≡ Ok (drop (length old) pool, next)
  front : take (length old) pool ≡ old

behind_them : (old pool : List Operand) (next : ℕ) (r : Result (List Operand × ℕ) CodeFault) → put_last old r ≡ Ok (pool, next) → Behind old pool next r
behind_them old pool next (Ok x) e =
    let both : (old ++ x.0, x.1) ≡ (pool, next) = ok_is (old ++ x.0, x.1) (pool, next) e in
    let items : old ++ x.0 ≡ pool = ap (λ (p : List Operand × ℕ). p.0) both in
    let place : x.1 ≡ next = ap (λ (p : List Operand × ℕ). p.1) both in
    subst (λ p. Behind old p next (Ok x)) items (subst (λ n. Behind old (old ++ x.0) n (Ok x)) place (record {
      is = ap (λ (os : List Operand). Ok (os, x.1)) (sym (drop_at old x.0 (length old) refl));
      front = take_at old x.0 (length old) refl;
    }))
behind_them old pool next (Err f) e = absurd cc

-- there are no fewer operands than before
pub put_longer : (old pool own new : List Operand) (next : ℕ) (r : Result (List Operand × ℕ) CodeFault) → put_last old r ≡ Ok (pool, next) → new ≡ take (length old) pool ++ own → length old ≤ length new
put_longer old pool own new next r read put =
    let b = behind_them old pool next r read in
    omega (arith, ap length (put ∙ ap (λ (os : List Operand). os ++ own) b.front), length-append old own)

pub instruction_put : (atoms : List (List ℕ)) (imports : List Import) (literals : List TermValue) (code : List ℕ) (opcode : Opcode) (at next : ℕ) (old pool new : List Operand) (h : InstructionSpan)
    → put_last old (operands_at atoms imports literals code (kinds_of opcode) at) ≡ Ok (pool, next) → new ≡ take (length old) pool ++ listed_operands opcode (drop (length old) pool)
    → h.opcode ≡ opcode → h.from ≡ length old → h.from + h.count ≡ length new
    → (instruction_after_opcode atoms imports literals code opcode at ≡ Ok (made_of new h, next)) × IsPut old new h
unfolding instruction_after_opcode
instruction_put atoms imports literals code opcode at next old pool new h read put o from to =
    let b = behind_them old pool next (operands_at atoms imports literals code (kinds_of opcode) at) read in
    let own : List Operand = listed_operands opcode (drop (length old) pool) in
    let all : new ≡ old ++ own = put ∙ ap (λ (os : List Operand). os ++ own) b.front in
    let size : length new ≡ length old + length own = ap length all ∙ length-append old own in
    let count : h.count ≡ length own = omega (arith, from, to, size) in
    let dropped : drop h.from new ≡ own = ap (λ (os : List Operand). drop h.from os) all ∙ drop_at old own h.from (sym from) in
    let taken : take h.count (drop h.from new) ≡ own = ap (take h.count) dropped ∙ take_all h.count own (omega (arith, count)) in
    let made : instruction_of opcode own ≡ made_of new h = ap₂ (λ (q : Opcode) (os : List Operand). instruction_of q os) (sym o) (sym taken) in (
      rw b.is (ap (λ (i : Instruction). Ok (i, next)) made),
      record { from = from; to = to; front = ap (take (length old)) all ∙ take_at old own (length old) refl },
    )

-- ---- instructions whose operands stand before others

-- operands that are appended leave the earlier instructions' operands as they are
part_before : (old more : List Operand) (from count : ℕ) → from + count ≤ length old → take count (drop from (old ++ more)) ≡ take count (drop from old)
part_before old more from count le =
    ap (take count) (drop-append-le from old more (omega (arith, le))) ∙ take-append-le count (drop from old) more (omega (arith, le, length-drop from old))

made_before : (old more : List Operand) (heads : List InstructionSpan) → All (IsWithin old) heads → map (made_of (old ++ more)) heads ≡ map (made_of old) heads
made_before old more [] within = refl
made_before old more (h ∷ hs) within =
    let one : made_of (old ++ more) h ≡ made_of old h =
    ap (λ (os : List Operand). instruction_of h.opcode os) (part_before old more h.from h.count (All-head (IsWithin old) h hs within)) in
    ap₂ (λ (i : Instruction) (is : List Instruction). i ∷ is) one (made_before old more hs (All-tail (IsWithin old) h hs within))

grown : (old new : List Operand) (h : InstructionSpan) → IsPut old new h → new ≡ old ++ drop (length old) new
grown old new h p = sym (take-append-drop (length old) new) ∙ ap (λ (os : List Operand). os ++ drop (length old) new) p.front

pub made_more : (old new : List Operand) (heads : List InstructionSpan) (h : InstructionSpan) → All (IsWithin old) heads → IsPut old new h → map (made_of new) (heads ++ h ∷ []) ≡ map (made_of old) heads ++ made_of new h ∷ []
made_more old new heads h within p =
    let others : map (made_of new) heads ≡ map (made_of old) heads =
    ap (λ (os : List Operand). map (made_of os) heads) (grown old new h p) ∙ made_before old (drop (length old) new) heads within in
    map_push (made_of new) heads h ∙ ap (λ (is : List Instruction). is ++ made_of new h ∷ []) others

pub within_more : (old new : List Operand) (heads : List InstructionSpan) (h : InstructionSpan) → All (IsWithin old) heads → IsPut old new h → All (IsWithin new) (heads ++ h ∷ [])
within_more old new heads h within p =
    let longer : length old ≤ length new = omega (arith, p.from, p.to) in
    All-push (IsWithin new) heads h (All-weaker (IsWithin old) (IsWithin new) (λ g le. omega (arith, le, longer)) heads within) (omega (arith, p.to))

-- the operands of an instruction by itself
pub made_alone : (pool : List Operand) (h : InstructionSpan) → IsPut [] pool h → made_of pool h ≡ instruction_of h.opcode pool
made_alone pool h p =
    let from : h.from ≡ 0 = p.from in
    let all : drop h.from pool ≡ pool = ap (λ (n : ℕ). drop n pool) from in
    let taken : take h.count (drop h.from pool) ≡ pool = ap (take h.count) all ∙ take_all h.count pool (omega (arith, from, p.to)) in
    ap (λ (os : List Operand). instruction_of h.opcode os) taken

pub standing_is : (t : Tables) (code : List ℕ) (at : ℕ) (o : Opcode) → opcode_at code at ≡ Ok o → standing_at t code at ≡ instruction_after_opcode t.atoms t.imports t.literals code o (at + 1)
unfolding standing_at
standing_is t code at o e = rw e refl
