-- The instruction at each position of a chunk, where each start is the byte at which an instruction begins.
use Rattle.std.proofs.Common.{◌≡◌, ◌≢◌, ℕ, ◌+◌, ◌-◌, ◌<◌, ◌≤◌, Bool, true, false, cond, ltb, List, ◌++◌, length, get_or, take, drop, Ok, refl, sym, ap, subst, ◌∙◌, arith, Some, map, slice_get, unwrap_or, ltb-true, ltb-false, lt-ltb, length-append, length-drop}
use Rattle.std.proofs.lemmas.List.{length-map, get_or_past}
use Rattle.std.proofs.Math.ListN.{get_or-map}
use Rattle.std.proofs.Math.Seq.{take-append_seam}
use Rattle.std.proofs.lemmas.Option.{unwrap_or-slice_get, get_or_from_slice_get}
use Rattle.beam_lemmas.proofs.Steps.{bind_ok}
use Rattle.beam_model.specs.declared.instruction.Operand.{Operand}
use Rattle.beam_model.specs.declared.instruction.Instruction.{Instruction}
use Rattle.beam_model.specs.declared.opcode.Opcode.{Opcode}
use Rattle.beam_model.specs.Prelude.{kinds_of, opcode_of, opcode_in, opcode_at, operands_at, listed_operands, instruction_after_opcode, IsInstruction, end_of_code, Tables}
use Rattle.beam_model.specs.declared.opcode.Opcode.TheVariants as op
use Rattle.beam_code.specs.Prelude.{CodeBytes, standing_at, read_or_end, instructions_in, start_of, end_of, raw_in, Spans, AreStarts, operands_from}
use Rattle.beam_code.proofs.Codes.{done, ok_is, known_is, opcode_in_is, instruction_told}
use Rattle.beam_code.proofs.ReadingLayout.{stands}

-- ---- instructions

-- the instruction of a position, int_code_end after the last
abbrev pub instruction_in : CodeBytes → ℕ → Instruction
instruction_in c at = unwrap_or (slice_get (instructions_in c) at) end_of_code

-- int_code_end has no operands
end_stands : (t : Tables) (code : List ℕ) (at : ℕ) → opcode_at code at ≡ Ok op.IntCodeEnd → standing_at t code at ≡ Ok (end_of_code, at + 1)
unfolding instruction_after_opcode operands_at
end_stands t code at e = stands t code at (at + 1) op.IntCodeEnd end_of_code e refl

instruction_is : (c : CodeBytes) → AreStarts c → (at : ℕ) → instruction_in c at ≡ read_or_end (standing_at c.tables c.code (start_of c at))
unfolding instructions_in
instruction_is c s at =
    let f = λ (start : ℕ). read_or_end (standing_at c.tables c.code start) in
    let last : f c.end ≡ end_of_code = ap read_or_end (end_stands c.tables c.code c.end s.last) in
    unwrap_or-slice_get (map f c.starts) at end_of_code ∙ ap (get_or (map f c.starts) at) (sym last) ∙ get_or-map f c.starts at c.end

record ReadAs (c : CodeBytes) (at : ℕ) : Type 0 where
  instruction : Instruction
  next : ℕ
  is : standing_at c.tables c.code (start_of c at) ≡ Ok (instruction, next)

read_as : (c : CodeBytes) → AreStarts c → (at : ℕ) (b : Bool) → ltb at (length c.starts) ≡ b → ReadAs c at
read_as c s at true lt =
    let p = s.each at (ltb-true _ _ lt) in
    record { instruction = p.instruction; next = start_of c (at + 1); is = stands c.tables c.code (start_of c at) (start_of c (at + 1)) p.opcode p.instruction p.begins p.ends }
read_as c s at false ge =
    let last : start_of c at ≡ c.end = get_or_past c.starts at c.end (ltb-false _ _ ge) in
    record { instruction = end_of_code; next = c.end + 1; is = ap (standing_at c.tables c.code) last ∙ end_stands c.tables c.code c.end s.last }

-- the instruction of a position is read where it begins
pub read_at : (c : CodeBytes) → AreStarts c → (at : ℕ) → (next : ℕ) × (standing_at c.tables c.code (start_of c at) ≡ Ok (instruction_in c at, next))
read_at c s at =
    let r = read_as c s at (ltb at (length c.starts)) refl in
    let same : instruction_in c at ≡ r.instruction = instruction_is c s at ∙ ap read_or_end r.is in
    (r.next, r.is ∙ ap (λ (i : Instruction). Ok (i, r.next)) (sym same))

of_opcode : (t : Tables) (code : List ℕ) (o : Opcode) (at : ℕ) (p : Instruction × ℕ) → instruction_after_opcode t.atoms t.imports t.literals code o at ≡ Ok p → o ≡ p.0.opcode
unfolding instruction_after_opcode
of_opcode t code o at p e =
    let b = bind_ok (operands_at t.atoms t.imports t.literals code (kinds_of o) at) (λ (operands : List Operand × ℕ). done (record { opcode = o; operands = listed_operands o operands.0 }, operands.1)) p e in
    let made : Instruction = record { opcode = o; operands = listed_operands o b.0.0 } in
    ap (λ (q : Instruction × ℕ). q.0.opcode) (ok_is (made, b.0.1) p b.2)

-- the opcode of a position is read where the instruction begins
pub opcode_read_at : (c : CodeBytes) → AreStarts c → (at : ℕ) → opcode_at c.code (start_of c at) ≡ Ok (instruction_in c at).opcode
unfolding standing_at
opcode_read_at c s at =
    let r = read_at c s at in
    let b = bind_ok (opcode_at c.code (start_of c at)) (λ (opcode : Opcode). instruction_after_opcode c.tables.atoms c.tables.imports c.tables.literals c.code opcode (start_of c at + 1)) (instruction_in c at, r.0) r.1 in
    b.1 ∙ ap (λ (o : Opcode). Ok o) (of_opcode c.tables c.code b.0 (start_of c at + 1) (instruction_in c at, r.0) b.2)

-- the operands of a position are read after the opcode
pub operands_are : (c : CodeBytes) → AreStarts c → (at : ℕ)
    → (read : List Operand × ℕ) × (operands_from c (kinds_of (instruction_in c at).opcode) (start_of c at + 1) ≡ Ok read) × (listed_operands (instruction_in c at).opcode read.0 ≡ (instruction_in c at).operands)
unfolding standing_at instruction_after_opcode
operands_are c s at =
    let t = c.tables in
    let r = read_at c s at in
    let i = instruction_in c at in
    let b = bind_ok (opcode_at c.code (start_of c at)) (λ (opcode : Opcode). instruction_after_opcode t.atoms t.imports t.literals c.code opcode (start_of c at + 1)) (i, r.0) r.1 in
    let o = of_opcode t c.code b.0 (start_of c at + 1) (i, r.0) b.2 in
    let d = bind_ok (operands_at t.atoms t.imports t.literals c.code (kinds_of b.0) (start_of c at + 1)) (λ (operands : List Operand × ℕ). done (record { opcode = b.0; operands = listed_operands b.0 operands.0 }, operands.1)) (i, r.0) b.2 in
    let made : Instruction = record { opcode = b.0; operands = listed_operands b.0 d.0.0 } in
    let is : listed_operands b.0 d.0.0 ≡ i.operands = ap (λ (q : Instruction × ℕ). q.0.operands) (ok_is (made, d.0.1) (i, r.0) d.2) in
    (d.0, ap (λ (p : Opcode). operands_from c (kinds_of p) (start_of c at + 1)) (sym o) ∙ d.1, ap (λ (p : Opcode). listed_operands p d.0.0) (sym o) ∙ is)

pub not_line : (o : Opcode) (os : List Operand) → o ≢ op.Line → listed_operands o os ≡ os
not_line op.Line os n = absurd (n refl)
not_line _ os n = refl

-- a reading of an equal chunk reads this one's instruction
pub read_is : (v c : CodeBytes) → v ≡ c → AreStarts v → (at : ℕ) (p : Instruction × ℕ) → standing_at v.tables v.code (start_of c at) ≡ Ok p → p.0 ≡ instruction_in c at
read_is v c same s at p e =
    let r = read_at c (subst AreStarts same s) at in
    let again : standing_at v.tables v.code (start_of c at) ≡ standing_at c.tables c.code (start_of c at) = ap (λ (b : CodeBytes). standing_at b.tables b.code (start_of c at)) same in
    ap (λ (q : Instruction × ℕ). q.0) (ok_is p (instruction_in c at, r.0) (sym e ∙ again ∙ r.1))

-- the byte that begins a position's instruction is its opcode's
pub opcode_byte : (v c : CodeBytes) → v ≡ c → AreStarts v → (at n : ℕ) → n ≡ get_or v.code (start_of c at) n → opcode_of n ≡ Some (instruction_in c at).opcode
unfolding opcode_at
opcode_byte v c same s at n e =
    let o : opcode_in (start_of c at) (slice_get c.code (start_of c at)) ≡ Ok (instruction_in c at).opcode = opcode_read_at c (subst AreStarts same s) at in
    let there = opcode_in_is (start_of c at) (slice_get c.code (start_of c at)) (instruction_in c at).opcode o in
    let byte : n ≡ there.0 = e ∙ ap (λ (b : CodeBytes). get_or b.code (start_of c at) n) same ∙ get_or_from_slice_get c.code (start_of c at) there.0 n there.1 in
    known_is (start_of c at) n (opcode_of n) (instruction_in c at).opcode (ap (λ (m : ℕ). opcode_in (start_of c at) (Some m)) byte ∙ ap (opcode_in (start_of c at)) (sym there.1) ∙ o)

-- ---- bytes

pub how_many : (c : CodeBytes) → length c.starts ≡ length (instructions_in c)
unfolding instructions_in
how_many c = sym (length-map c.starts (λ start. read_or_end (standing_at c.tables c.code start)))

cut : (code front : List ℕ) (at next : ℕ) → drop at code ≡ front ++ drop next code → at < next → next ≤ length code → take (next - at) (drop at code) ≡ front
cut code front at next e order within =
    let long : next - at ≡ length front = omega (arith, ap length e, length-append front (drop next code), length-drop at code, length-drop next code) in
    ap (λ (n : ℕ). take n (drop at code)) long ∙ ap (take (length front)) e ∙ take-append_seam front (drop next code)

spells_at : (c : CodeBytes) (at next : ℕ) → Spans c.tables c.code at next → (i : Instruction) → i ≡ read_or_end (standing_at c.tables c.code at) → IsInstruction c.tables i (take (next - at) (drop at c.code))
spells_at c at next p i e =
    let b = instruction_told c.tables c.code p.opcode at (p.instruction, next) p.begins p.goes_on p.ends in
    let same : i ≡ p.instruction = e ∙ ap read_or_end (stands c.tables c.code at next p.opcode p.instruction p.begins p.ends) in
    rw (same, cut c.code b.front at next b.parts p.order p.within) b.is

-- the bytes of a position spell its instruction
pub spells : (c : CodeBytes) → AreStarts c → (at : ℕ) → at < length (instructions_in c) → IsInstruction c.tables (instruction_in c at) (raw_in c at)
unfolding raw_in
spells c s at lt =
    let inside : at < length c.starts = omega (arith, lt, how_many c) in
    let ends : end_of c at ≡ start_of c (at + 1) = ap (λ (b : Bool). cond b (start_of c (at + 1)) (c.end + 1)) (lt-ltb at (length c.starts) inside) in
    rw ends (spells_at c (start_of c at) (start_of c (at + 1)) (s.each at inside) (instruction_in c at) (instruction_is c s at))
