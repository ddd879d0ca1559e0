-- A Code chunk is read exactly from the bytes that spell it.
use Rattle.std.proofs.Common.{◌≡◌, ◌≢◌, ℕ, zero, suc, ◌+◌, ◌-◌, ◌<◌, ◌≤◌, Bool, true, false, cond, ltb, List, [], ◌∷◌, ◌++◌, length, take, drop, Option, Some, None, Result, Ok, Err, refl, sym, ap, subst, ◌∙◌, append_assoc, arith, ◌==◌, find, slice_get, ltb-false, le-ltb, eqb-true, drop_at, drop-drop, take-append-drop, length-take, length-drop, length-append}
use Rattle.beam_lemmas.proofs.Steps.{bind_ok, guard_true, guard_false}
use Rattle.byteorder.specs.Endian.{big_number}
use Rattle.byteorder.specs.Numbers.{big_from-take, big_from-append}
use Rattle.beam_model.specs.declared.compact.CompactOperand.{CompactOperand}
use Rattle.beam_model.specs.declared.instruction.Operand.{Operand}
use Rattle.beam_model.specs.declared.instruction.Instruction.{Instruction}
use Rattle.beam_model.specs.declared.opcode.Opcode.{Opcode}
use Rattle.beam_model.specs.declared.opcode.Kind.{Kind}
use Rattle.beam_model.specs.Prelude.{number_of, kinds_of, opcode_of, opcodes, OperandFault, operand_at, IsSpelling, CodeParts, CodeFault, bad_operand, meaning_of, position_after, spelled_at, or_bad_operand, meant_at, operands_at, or_unsupported_opcode, opcode_in, opcode_at, listed_operands, instruction_after_opcode, instructions_at, word_at, expected_at, code_of, Tables, InSequence, IsOperand, AreOperands, IsInstruction, IsCode}
use Rattle.beam_model.specs.declared.opcode.Opcode.TheVariants as op
use Rattle.beam_model.specs.Compact.{◌>>=◌}
use Rattle.beam_model.specs.CodeChunk.{truncated, is_end}
use Rattle.beam_operand.proofs.ReadingComplete.{operand_spelled}
use Rattle.beam_operand.proofs.ReadingSound.{operand_sound}
use Rattle.beam_model.specs.ChunkForm.{IsWord}

-- ---- steps of reading

abbrev pub done : {A : Type 0} → A → Result A CodeFault
done x = Ok x

pub ok_is : {A : Type 0} (x y : A) → done x ≡ done y → x ≡ y
ok_is x y e = cc

-- ---- positions

-- the bytes from a position to the next are of this kind
pub record Between (Is : List ℕ → Type 0) (code : List ℕ) (at next : ℕ) : Type 0 where
  pub front : List ℕ
  pub parts : drop at code ≡ front ++ drop next code
  pub is : Is front

-- a rest begins at the code's length minus its own
seam : (code front rest : List ℕ) → code ≡ front ++ rest → drop (length code - length rest) code ≡ rest
seam code front rest e =
    let size : length front ≡ length code - length rest = omega (arith, ap length e, length-append front rest) in
    ap (drop (length code - length rest)) e ∙ drop_at front rest (length code - length rest) size

left : (code front rest : List ℕ) (at : ℕ) → drop at code ≡ front ++ rest → drop (length code - length rest) code ≡ rest
left code front rest at e =
    seam code (take at code ++ front) rest (sym (take-append-drop at code) ∙ ap (λ (t : List ℕ). take at code ++ t) e ∙ sym (append_assoc (take at code) front rest))

first_at : (code : List ℕ) (at n : ℕ) (rest : List ℕ) → drop at code ≡ n ∷ rest → slice_get code at ≡ Some n
first_at [] zero n rest e = absurd cc
first_at [] (suc at) n rest e = absurd cc
first_at (c ∷ code) zero n rest e = let same : c ≡ n = cc in ap (λ (x : ℕ). Some x) same
first_at (c ∷ code) (suc at) n rest e = first_at code at n rest e

at_first : (code : List ℕ) (at n : ℕ) → slice_get code at ≡ Some n → drop at code ≡ n ∷ drop (at + 1) code
at_first [] at n e = absurd cc
at_first (c ∷ code) zero n e = let same : c ≡ n = cc in ap (λ (x : ℕ). x ∷ code) same
at_first (c ∷ code) (suc at) n e =
    let on : suc (at + 1) ≡ suc at + 1 = omega arith in
    at_first code at n e ∙ ap (λ (k : ℕ). n ∷ drop k (c ∷ code)) on

next_rest : (code : List ℕ) (at n : ℕ) (rest : List ℕ) → drop at code ≡ n ∷ rest → drop (at + 1) code ≡ rest
next_rest code at n rest e = sym (drop-drop 1 at code) ∙ ap (drop 1) e

-- ---- operands

pub wanted_is : {A : Type 0} (at : ℕ) (o : Option A) (y : A) → or_bad_operand at o ≡ Ok y → o ≡ Some y
wanted_is at None y e = absurd cc
wanted_is at (Some x) y e = ap (λ z. Some z) (ok_is x y e)

pub behind_is : (code : List ℕ) (at : ℕ) (r : Result (CompactOperand × List ℕ) OperandFault) (p : CompactOperand × ℕ) → position_after code at r ≡ Ok p
    → (rest : List ℕ) × (r ≡ Ok (p.0, rest)) × (p.1 ≡ length code - length rest)
behind_is code at (Ok x) p e =
    let same : (x.0, length code - length x.1) ≡ p = ok_is (x.0, length code - length x.1) p e in
    (x.1, ap (λ (q : CompactOperand × ℕ). Ok (q.0, x.1)) same, sym (ap (λ (q : CompactOperand × ℕ). q.1) same))
behind_is code at (Err f) p e = absurd cc

spelled_told : (code : List ℕ) (at : ℕ) (p : CompactOperand × ℕ) → spelled_at code at ≡ Ok p → Between (IsSpelling p.0) code at p.1
unfolding spelled_at
spelled_told code at p e =
    let b = behind_is code at (operand_at (drop at code)) p e in
    let t = operand_sound (drop at code) (p.0, b.0) b.1 in
    let rest : drop p.1 code ≡ b.0 = ap (λ (k : ℕ). drop k code) b.2 ∙ left code t.text b.0 at t.parts in
    record { front = t.text; parts = t.parts ∙ ap (λ (u : List ℕ). t.text ++ u) (sym rest); is = t.is }

spelled_read : (code front rest : List ℕ) (at : ℕ) (v : CompactOperand) → drop at code ≡ front ++ rest → IsSpelling v front → spelled_at code at ≡ Ok (v, length code - length rest)
unfolding spelled_at
spelled_read code front rest at v e is =
    let read : operand_at (drop at code) ≡ Ok (v, rest) = ap operand_at e ∙ operand_spelled v front rest is in
    ap (position_after code at) read

meant_told : (t : Tables) (code : List ℕ) (kind : Kind) (at : ℕ) (p : Operand × ℕ) → meant_at t.atoms t.imports t.literals code kind at ≡ Ok p → Between (IsOperand t kind p.0) code at p.1
unfolding meant_at
meant_told t code kind at p e =
    let s = bind_ok (spelled_at code at) (λ (spelled : CompactOperand × ℕ). or_bad_operand at (meaning_of kind t.atoms t.imports t.literals spelled.0) >>= λ meant. done (meant, spelled.1)) p e in
    let m = bind_ok (or_bad_operand at (meaning_of kind t.atoms t.imports t.literals s.0.0)) (λ (meant : Operand). done (meant, s.0.1)) p s.2 in
    let b = spelled_told code at s.0 s.1 in
    let front : Between (IsOperand t kind m.0) code at s.0.1 = record {
      front = b.front;
      parts = b.parts;
      is = record { compact = s.0.0; spelled = b.is; meaning = wanted_is at (meaning_of kind t.atoms t.imports t.literals s.0.0) m.0 m.1 };
    } in
    subst (λ (q : Operand × ℕ). Between (IsOperand t kind q.0) code at q.1) (ok_is (m.0, s.0.1) p m.2) front

meant_read : (t : Tables) (code front rest : List ℕ) (kind : Kind) (at : ℕ) (o : Operand) → drop at code ≡ front ++ rest → IsOperand t kind o front
    → meant_at t.atoms t.imports t.literals code kind at ≡ Ok (o, length code - length rest)
unfolding meant_at
meant_read t code front rest kind at o e is =
    let spelled = spelled_read code front rest at is.compact e is.spelled in
    let meaning = is.meaning in
    rw (spelled, meaning) refl

operands_told : (t : Tables) (code : List ℕ) (kinds : List Kind) (at : ℕ) (p : List Operand × ℕ) → operands_at t.atoms t.imports t.literals code kinds at ≡ Ok p → Between (AreOperands t kinds p.0) code at p.1
unfolding operands_at
operands_told t code [] at p e =
    let none : List Operand = [] in
    let front : Between (AreOperands t [] none) code at at = record { front = []; parts = refl; is = refl } in
    subst (λ (q : List Operand × ℕ). Between (AreOperands t [] q.0) code at q.1) (ok_is (none, at) p e) front
operands_told t code (kind ∷ kinds) at p e =
    let f = bind_ok (meant_at t.atoms t.imports t.literals code kind at) (λ (first : Operand × ℕ). operands_at t.atoms t.imports t.literals code kinds first.1 >>= λ others. done (first.0 ∷ others.0, others.1)) p e in
    let g = bind_ok (operands_at t.atoms t.imports t.literals code kinds f.0.1) (λ (others : List Operand × ℕ). done (f.0.0 ∷ others.0, others.1)) p f.2 in
    let first = meant_told t code kind at f.0 f.1 in
    let others = operands_told t code kinds f.0.1 g.0 g.1 in
    let parts : drop at code ≡ (first.front ++ others.front) ++ drop g.0.1 code =
    first.parts ∙ ap (λ (u : List ℕ). first.front ++ u) others.parts ∙ sym (append_assoc first.front others.front (drop g.0.1 code)) in
    let front : Between (AreOperands t (kind ∷ kinds) (f.0.0 ∷ g.0.0)) code at g.0.1 = record {
      front = first.front ++ others.front;
      parts = parts;
      is = (first.front, others.front, refl, first.is, others.is);
    } in
    subst (λ (q : List Operand × ℕ). Between (AreOperands t (kind ∷ kinds) q.0) code at q.1) (ok_is (f.0.0 ∷ g.0.0, g.0.1) p g.2) front

-- the reading gives x, and goes on where the rest begins
record Reads {A : Type 0} (read : Result (A × ℕ) CodeFault) (x : A) (code rest : List ℕ) : Type 0 where
  next : ℕ
  is : read ≡ Ok (x, next)
  stands : drop next code ≡ rest

operands_read : (t : Tables) (code : List ℕ) (kinds : List Kind) (os : List Operand) (front rest : List ℕ) (at : ℕ) → drop at code ≡ front ++ rest → AreOperands t kinds os front
    → Reads (operands_at t.atoms t.imports t.literals code kinds at) os code rest
unfolding operands_at
operands_read t code [] [] front rest at e are = record { next = at; is = refl; stands = e ∙ ap (λ (u : List ℕ). u ++ rest) are }
operands_read t code [] (o ∷ os) front rest at e are = absurd are
operands_read t code (kind ∷ kinds) [] front rest at e are = absurd are
operands_read t code (kind ∷ kinds) (o ∷ os) front rest at e (one, others, parts, is, are) =
    let here : drop at code ≡ one ++ (others ++ rest) = e ∙ ap (λ (u : List ℕ). u ++ rest) parts ∙ append_assoc one others rest in
    let first = meant_read t code one (others ++ rest) kind at o here is in
    let r = operands_read t code kinds os others rest (length code - length (others ++ rest)) (left code one (others ++ rest) at here) are in
    let again = r.is in
    record { next = r.next; is = rw (first, again) refl; stands = r.stands }

-- ---- opcodes

pub opcode_again : (o : Opcode) → opcode_of (number_of o) ≡ Some o
opcode_again op.Label = refl
opcode_again _ = refl

found : (n : ℕ) (os : List Opcode) (o : Opcode) → find (λ p. number_of p == n) os ≡ Some o → number_of o ≡ n
found n [] o e = absurd cc
found n (p ∷ os) o e = by (number_of p == n) refl e (λ f. found n os o f)
  where
    by : (b : Bool) → (number_of p == n) ≡ b → cond b (Some p) (find (λ q. number_of q == n) os) ≡ Some o → (find (λ q. number_of q == n) os ≡ Some o → number_of o ≡ n) → number_of o ≡ n
    by true t f others = let same : p ≡ o = cc (f) in ap number_of (sym same) ∙ eqb-true (number_of p) n t
    by false t f others = others f

pub known_is : (at n : ℕ) (r : Option Opcode) (o : Opcode) → or_unsupported_opcode at n r ≡ Ok o → r ≡ Some o
known_is at n None o e = absurd cc
known_is at n (Some p) o e = ap (λ (q : Opcode). Some q) (ok_is p o e)

pub opcode_in_is : (at : ℕ) (r : Option ℕ) (o : Opcode) → opcode_in at r ≡ Ok o → (n : ℕ) × (r ≡ Some n) × (number_of o ≡ n)
opcode_in_is at None o e = absurd cc
opcode_in_is at (Some n) o e = (n, refl, found n opcodes o (known_is at n (opcode_of n) o e))

opcode_told : (code : List ℕ) (at : ℕ) (o : Opcode) → opcode_at code at ≡ Ok o → drop at code ≡ number_of o ∷ drop (at + 1) code
unfolding opcode_at
opcode_told code at o e =
    let n = opcode_in_is at (slice_get code at) o e in
    at_first code at n.0 n.1 ∙ ap (λ (k : ℕ). k ∷ drop (at + 1) code) (sym n.2)

opcode_read : (code : List ℕ) (at : ℕ) (o : Opcode) (rest : List ℕ) → drop at code ≡ number_of o ∷ rest → opcode_at code at ≡ Ok o
unfolding opcode_at
opcode_read code at o rest e = ap (opcode_in at) (first_at code at (number_of o) rest e) ∙ ap (or_unsupported_opcode at (number_of o)) (opcode_again o)

pub end_is : (o : Opcode) → is_end o ≡ true → o ≡ op.IntCodeEnd
end_is op.IntCodeEnd e = refl
end_is _ e = absurd cc

no_end : (o : Opcode) → is_end o ≡ false → o ≢ op.IntCodeEnd
no_end o e same = let end : is_end o ≡ true = ap is_end same in absurd cc

goes_on : (o : Opcode) → o ≢ op.IntCodeEnd → is_end o ≡ false
goes_on op.IntCodeEnd n = absurd (n refl)
goes_on _ n = refl

-- ---- instructions

pub instruction_told : (t : Tables) (code : List ℕ) (o : Opcode) (at : ℕ) (p : Instruction × ℕ) → opcode_at code at ≡ Ok o → is_end o ≡ false
    → instruction_after_opcode t.atoms t.imports t.literals code o (at + 1) ≡ Ok p → Between (IsInstruction t p.0) code at p.1
unfolding instruction_after_opcode
instruction_told t code o at p e goes f =
    let b = bind_ok (operands_at t.atoms t.imports t.literals code (kinds_of o) (at + 1)) (λ (operands : List Operand × ℕ). done (record { opcode = o; operands = listed_operands o operands.0 }, operands.1)) p f in
    let operands = operands_told t code (kinds_of o) (at + 1) b.0 b.1 in
    let made : Instruction = record { opcode = o; operands = listed_operands o b.0.0 } in
    let front : Between (IsInstruction t made) code at b.0.1 = record {
      front = number_of o ∷ operands.front;
      parts = opcode_told code at o e ∙ ap (λ (u : List ℕ). number_of o ∷ u) operands.parts;
      is = record { rest = operands.front; parts = refl; goes_on = no_end o goes; operands = b.0.0; are_operands = operands.is; in_listing = refl };
    } in
    subst (λ (q : Instruction × ℕ). Between (IsInstruction t q.0) code at q.1) (ok_is (made, b.0.1) p b.2) front

record Ended (t : Tables) (is : List Instruction) (bytes : List ℕ) : Type 0 where
  body : List ℕ
  after : List ℕ
  parts : bytes ≡ body ++ (number_of op.IntCodeEnd ∷ after)
  are : InSequence (IsInstruction t) is body

abbrev Rest : Tables → List ℕ → ℕ → ℕ → Opcode → Result (List Instruction) CodeFault
Rest t code limit at o =
    instruction_after_opcode t.atoms t.imports t.literals code o (at + 1) >>= λ first. instructions_at t.atoms t.imports t.literals code limit first.1 >>= λ others. done (first.0 ∷ others)

ended : (t : Tables) (code : List ℕ) (limit at : ℕ) (is : List Instruction) (o : Opcode) → opcode_at code at ≡ Ok o → (b : Bool) → is_end o ≡ b → cond b (done []) (Rest t code limit at o) ≡ Ok is
    → ((next : ℕ) (js : List Instruction) → instructions_at t.atoms t.imports t.literals code limit next ≡ Ok js → Ended t js (drop next code)) → Ended t is (drop at code)
ended t code limit at is o e true end f others =
    let none : List Instruction = [] in
    subst (λ (js : List Instruction). Ended t js (drop at code)) (ok_is none is f) (record {
      body = [];
      after = drop (at + 1) code;
      parts = opcode_told code at o e ∙ ap (λ (p : Opcode). number_of p ∷ drop (at + 1) code) (end_is o end);
      are = refl;
    })
ended t code limit at is o e false goes f others =
    let a = bind_ok (instruction_after_opcode t.atoms t.imports t.literals code o (at + 1)) (λ (first : Instruction × ℕ). instructions_at t.atoms t.imports t.literals code limit first.1 >>= λ rest. done (first.0 ∷ rest)) is f in
    let b = bind_ok (instructions_at t.atoms t.imports t.literals code limit a.0.1) (λ (rest : List Instruction). done (a.0.0 ∷ rest)) is a.2 in
    let first = instruction_told t code o at a.0 e goes a.1 in
    let rest = others a.0.1 b.0 b.1 in
    subst (λ (js : List Instruction). Ended t js (drop at code)) (ok_is (a.0.0 ∷ b.0) is b.2) (record {
      body = first.front ++ rest.body;
      after = rest.after;
      parts = first.parts ∙ ap (λ (u : List ℕ). first.front ++ u) rest.parts ∙ sym (append_assoc first.front rest.body (number_of op.IntCodeEnd ∷ rest.after));
      are = (first.front, rest.body, refl, first.is, rest.are);
    })

instructions_told : (t : Tables) (code : List ℕ) (limit at : ℕ) (is : List Instruction) → instructions_at t.atoms t.imports t.literals code limit at ≡ Ok is → Ended t is (drop at code)
unfolding instructions_at
instructions_told t code zero at is e = absurd cc
instructions_told t code (suc limit) at is e =
    let o = bind_ok (opcode_at code at) (λ (opcode : Opcode). cond (is_end opcode) (done []) (Rest t code limit at opcode)) is e in
    ended t code limit at is o.0 o.1 (is_end o.0) refl o.2 (λ next js. instructions_told t code limit next js)

instructions_read : (t : Tables) (code : List ℕ) (limit : ℕ) (is : List Instruction) (body rest : List ℕ) (at : ℕ) → drop at code ≡ body ++ (number_of op.IntCodeEnd ∷ rest) → InSequence (IsInstruction t) is body
    → length body < limit → instructions_at t.atoms t.imports t.literals code limit at ≡ Ok is
unfolding instructions_at instruction_after_opcode
instructions_read t code zero is body rest at e are few = absurd (omega arith)
instructions_read t code (suc limit) [] body rest at e are few =
    let end = opcode_read code at op.IntCodeEnd rest (e ∙ ap (λ (u : List ℕ). u ++ (number_of op.IntCodeEnd ∷ rest)) are) in
    rw end refl
instructions_read t code (suc limit) (i ∷ is) body rest at e (front, others, parts, h, are) few =
    let last : List ℕ = others ++ (number_of op.IntCodeEnd ∷ rest) in
    let here : drop at code ≡ number_of i.opcode ∷ (h.rest ++ last) =
    e ∙ ap (λ (u : List ℕ). u ++ (number_of op.IntCodeEnd ∷ rest)) parts ∙ append_assoc front others (number_of op.IntCodeEnd ∷ rest) ∙ ap (λ (u : List ℕ). u ++ last) h.parts in
    let opcode = opcode_read code at i.opcode (h.rest ++ last) here in
    let on = goes_on i.opcode h.goes_on in
    let r = operands_read t code (kinds_of i.opcode) h.operands h.rest last (at + 1) (next_rest code at (number_of i.opcode) (h.rest ++ last) here) h.are_operands in
    let operands = r.is in
    let again = instructions_read t code limit is others rest r.next r.stands are (omega (arith, few, ap length parts, length-append front others, ap length h.parts)) in
    let made : Instruction = record { opcode = i.opcode; operands = listed_operands i.opcode h.operands } in
    let same : made ≡ i = ap (λ (os : List Operand). record { opcode = i.opcode; operands = os }) (sym h.in_listing) in
    rw (opcode, on, operands, again) (ap (λ (j : Instruction). done (j ∷ is)) same)

-- ---- the head

word_told : (code : List ℕ) (at n : ℕ) → word_at code at ≡ Ok n → Between (IsWord n) code at (at + 4)
unfolding word_at
word_told code at n e =
    let g = guard_false (ltb (length code) (at + 4)) truncated _ n e in
    let long : at + 4 ≤ length code = ltb-false _ _ g.0 in
    let is : big_number 4 (drop at code) ≡ n = ok_is (big_number 4 (drop at code)) n g.1 in
    record {
      front = take 4 (drop at code);
      parts = sym (take-append-drop 4 (drop at code)) ∙ ap (λ (u : List ℕ). take 4 (drop at code) ++ u) (drop-drop 4 at code);
      is = record { wide = omega (arith, length-take 4 (drop at code), length-drop at code, long); value = sym is ∙ sym (big_from-take 0 4 4 (drop at code) (omega arith)) };
    }

word_read : (code : List ℕ) (at n : ℕ) (front rest : List ℕ) → drop at code ≡ front ++ rest → IsWord n front → (word_at code at ≡ Ok n) × (drop (at + 4) code ≡ rest)
unfolding word_at
word_read code at n front rest e w =
    let long : ltb (length code) (at + 4) ≡ false = le-ltb _ _ (omega (arith, length-drop at code, ap length e, length-append front rest, w.wide)) in
    let value : big_number 4 (drop at code) ≡ n = ap (big_number 4) e ∙ big_from-append 4 front rest (omega (arith, w.wide)) ∙ sym w.value in
    (rw (long, value) refl, sym (drop-drop 4 at code) ∙ ap (drop 4) e ∙ drop_at front rest 4 w.wide)

expected_told : (code : List ℕ) (at n m : ℕ) → expected_at code at n ≡ Ok m → Between (IsWord n) code at (at + 4)
unfolding expected_at
expected_told code at n m e =
    let w = bind_ok (word_at code at) (λ (word : ℕ). cond (word == n) (done word) (Err (bad_operand at))) m e in
    let g = guard_true (w.0 == n) (bad_operand at) (done w.0) m w.2 in
    subst (λ (k : ℕ). Between (IsWord k) code at (at + 4)) (eqb-true w.0 n g.0) (word_told code at w.0 w.1)

expected_read : (code : List ℕ) (at n : ℕ) (front rest : List ℕ) → drop at code ≡ front ++ rest → IsWord n front → (expected_at code at n ≡ Ok n) × (drop (at + 4) code ≡ rest)
unfolding expected_at
expected_read code at n front rest e w =
    let r = word_read code at n front rest e w in
    let word = r.0 in
    let same : (n == n) ≡ true = grind arith in
    (rw (word, same) refl, r.1)

-- ---- the chunk

-- a code chunk spells the instructions that are read from it
pub code_told : (t : Tables) (bytes : List ℕ) (code : CodeParts) → code_of t.atoms t.imports t.literals bytes ≡ Ok code → IsCode t code bytes
unfolding code_of
code_told t bytes code e =
    let a = bind_ok (expected_at bytes 0 16) (λ (size : ℕ). expected_at bytes 4 0 >>= λ format. word_at bytes 8 >>= λ greatest. word_at bytes 12 >>= λ labels. word_at bytes 16 >>= λ functions. instructions_at t.atoms t.imports t.literals bytes (length bytes) 20 >>= λ is. done (record { label_count = labels; function_count = functions; instructions = is })) code e in
    let b = bind_ok (expected_at bytes 4 0) (λ (format : ℕ). word_at bytes 8 >>= λ greatest. word_at bytes 12 >>= λ labels. word_at bytes 16 >>= λ functions. instructions_at t.atoms t.imports t.literals bytes (length bytes) 20 >>= λ is. done (record { label_count = labels; function_count = functions; instructions = is })) code a.2 in
    let c = bind_ok (word_at bytes 8) (λ (greatest : ℕ). word_at bytes 12 >>= λ labels. word_at bytes 16 >>= λ functions. instructions_at t.atoms t.imports t.literals bytes (length bytes) 20 >>= λ is. done (record { label_count = labels; function_count = functions; instructions = is })) code b.2 in
    let d = bind_ok (word_at bytes 12) (λ (labels : ℕ). word_at bytes 16 >>= λ functions. instructions_at t.atoms t.imports t.literals bytes (length bytes) 20 >>= λ is. done (record { label_count = labels; function_count = functions; instructions = is })) code c.2 in
    let f = bind_ok (word_at bytes 16) (λ (functions : ℕ). instructions_at t.atoms t.imports t.literals bytes (length bytes) 20 >>= λ is. done (record { label_count = d.0; function_count = functions; instructions = is })) code d.2 in
    let g = bind_ok (instructions_at t.atoms t.imports t.literals bytes (length bytes) 20) (λ (is : List Instruction). done (record { label_count = d.0; function_count = f.0; instructions = is })) code f.2 in
    let size = expected_told bytes 0 16 a.0 a.1 in
    let format = expected_told bytes 4 0 b.0 b.1 in
    let greatest = word_told bytes 8 c.0 c.1 in
    let labels = word_told bytes 12 d.0 d.1 in
    let functions = word_told bytes 16 f.0 f.1 in
    let body = instructions_told t bytes (length bytes) 20 g.0 g.1 in
    let made : CodeParts = record { label_count = d.0; function_count = f.0; instructions = g.0 } in
    let parts : bytes ≡ size.front ++ (format.front ++ (greatest.front ++ (labels.front ++ (functions.front ++ (body.body ++ (number_of op.IntCodeEnd ∷ body.after)))))) =
    size.parts ∙ ap (λ (u : List ℕ). size.front ++ u) (format.parts ∙ ap (λ (u : List ℕ). format.front ++ u) (greatest.parts ∙ ap (λ (u : List ℕ). greatest.front ++ u)
    (labels.parts ∙ ap (λ (u : List ℕ). labels.front ++ u) (functions.parts ∙ ap (λ (u : List ℕ). functions.front ++ u) body.parts)))) in
    let is : IsCode t made bytes = record {
      size = size.front;
      format = format.front;
      greatest = greatest.front;
      labels = labels.front;
      functions = functions.front;
      body = body.body;
      after = body.after;
      parts = parts;
      is_size = size.is;
      is_format = format.is;
      is_greatest = greatest.is.wide;
      is_labels = labels.is;
      is_functions = functions.is;
      are_instructions = body.are;
    } in
    subst (λ (k : CodeParts). IsCode t k bytes) (ok_is made code g.2) is

-- the instructions that a code chunk spells are read from it
pub code_read : (t : Tables) (bytes : List ℕ) (code : CodeParts) → IsCode t code bytes → code_of t.atoms t.imports t.literals bytes ≡ Ok code
unfolding code_of
code_read t bytes code is =
    let end : List ℕ = number_of op.IntCodeEnd ∷ is.after in
    let r0 = expected_read bytes 0 16 is.size (is.format ++ (is.greatest ++ (is.labels ++ (is.functions ++ (is.body ++ end))))) is.parts is.is_size in
    let r1 = expected_read bytes 4 0 is.format (is.greatest ++ (is.labels ++ (is.functions ++ (is.body ++ end)))) r0.1 is.is_format in
    let r2 = word_read bytes 8 (big_number 4 is.greatest) is.greatest (is.labels ++ (is.functions ++ (is.body ++ end))) r1.1 (record { wide = is.is_greatest; value = refl }) in
    let r3 = word_read bytes 12 code.label_count is.labels (is.functions ++ (is.body ++ end)) r2.1 is.is_labels in
    let r4 = word_read bytes 16 code.function_count is.functions (is.body ++ end) r3.1 is.is_functions in
    let few : length is.body < length bytes = omega (arith, ap length r4.1, length-drop 20 bytes, length-append is.body end) in
    let r5 = instructions_read t bytes (length bytes) code.instructions is.body is.after 20 r4.1 is.are_instructions few in
    let e0 = r0.0 in
    let e1 = r1.0 in
    let e2 = r2.0 in
    let e3 = r3.0 in
    let e4 = r4.0 in
    rw (e0, e1, e2, e3, e4, r5) refl
