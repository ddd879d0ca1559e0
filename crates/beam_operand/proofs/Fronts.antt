-- Facts of the bytes from the result of a reading.
use Rattle.std.proofs.Common.{◌≡◌, ◌≢◌, ℕ, ◌+◌, ◌-◌, ◌≤◌, List, [], ◌∷◌, ◌++◌, length, take, drop, Result, Ok, Err, refl, sym, ap, subst, ◌∙◌, append_assoc, arith, append-nil, take_at, drop_at, length-append}
use Rattle.std.proofs.lemmas.List.{append_cancel_right}
use Rattle.beam_model.specs.declared.compact.CompactOperand.{CompactOperand}
use Rattle.beam_model.specs.Prelude.{OperandFault, unsupported_operand, bad_sign, operand_at, SpellsOperand}
use Rattle.beam_model.specs.Compact.{truncated, integer_too_large}
use Rattle.beam_operand.specs.declared.error.OperandError.{OperandError}
use Rattle.beam_operand.specs.declared.error.OperandError.TheVariants.{Truncated, UnsupportedOperand, IntegerTooLarge, BadSign, NoMemory}
use Rattle.beam_operand.specs.Faults.{Fails}
use Rattle.beam_operand.proofs.Prefix.{ok_is}
use Rattle.beam_operand.proofs.Reading.{prefix_operand}

-- how many bytes were read, and which
pub record Front (bytes : List ℕ) (v : CompactOperand) (rest : List ℕ) : Type 0 where
  pub shorter : length rest ≤ length bytes
  pub rest_is : drop (length bytes - length rest) bytes ≡ rest
  pub text_is : SpellsOperand (take (length bytes - length rest) bytes) v

pub front : (bytes : List ℕ) (v : CompactOperand) (rest : List ℕ) → operand_at bytes ≡ Ok (v, rest) → Front bytes v rest
front bytes v rest e =
    let t = prefix_operand.took bytes v rest e in
    let len : length bytes ≡ length t.text + length rest = ap length t.parts ∙ length-append t.text rest in
    let n : length t.text ≡ length bytes - length rest = omega arith in
    record {
      shorter = omega arith;
      rest_is = ap (drop (length bytes - length rest)) t.parts ∙ drop_at t.text rest (length bytes - length rest) n;
      text_is = ap operand_at (ap (take (length bytes - length rest)) t.parts ∙ take_at t.text rest (length bytes - length rest) n ∙ sym (append-nil t.text)) ∙ t.again [];
    }

-- a spelling is read, whatever follows
pub reads_text : (text rest : List ℕ) (v : CompactOperand) → SpellsOperand text v → operand_at (text ++ rest) ≡ Ok (v, rest)
reads_text text rest v e =
    let t = prefix_operand.took text v [] e in
    ap (λ (x : List ℕ). operand_at (x ++ rest)) (t.parts ∙ append-nil t.text) ∙ t.again rest

pub is_memory : {X : Type 0} (e : OperandError) (v : X) → Fails e (Ok v) → e ≡ NoMemory
is_memory NoMemory v h = refl
is_memory Truncated v h = absurd cc
is_memory UnsupportedOperand v h = absurd cc
is_memory IntegerTooLarge v h = absurd cc
is_memory BadSign v h = absurd cc

pub only_at_ok : (bytes : List ℕ) (v : CompactOperand) (rest : List ℕ) → operand_at bytes ≡ Ok (v, rest)
    → (text more : List ℕ) (w : CompactOperand) → SpellsOperand text w → bytes ≡ text ++ more → (v ≡ w) × (length bytes - length rest ≡ length text)
only_at_ok bytes v rest e text more w s parts =
    let r : operand_at bytes ≡ Ok (w, more) = ap operand_at parts ∙ reads_text text more w s in
    let same : (v, rest) ≡ (w, more) = ok_is {F = OperandFault} (v, rest) (w, more) (sym e ∙ r) in
    let rests : length rest ≡ length more = ap (λ (p : CompactOperand × List ℕ). length p.1) same in
    (ap (λ (p : CompactOperand × List ℕ). p.0) same, omega (arith, rests, ap length parts, length-append text more))

pub only_at_err : (bytes : List ℕ) (e : OperandError) → Fails e (operand_at bytes)
    → (text more : List ℕ) (w : CompactOperand) → SpellsOperand text w → bytes ≡ text ++ more → e ≡ NoMemory
only_at_err bytes e h text more w s parts =
    let r : operand_at bytes ≡ Ok (w, more) = ap operand_at parts ∙ reads_text text more w s in
    is_memory e (w, more) (subst (λ (read : Result (CompactOperand × List ℕ) OperandFault). Fails e read) r h)

pub no_other : (text other more rest : List ℕ) (v w : CompactOperand) → SpellsOperand text v → SpellsOperand other w → text ++ more ≡ other ++ rest → (text ≡ other) × (v ≡ w)
no_other text other more rest v w s t e =
    let same : (v, more) ≡ (w, rest) = ok_is {F = OperandFault} (v, more) (w, rest) (sym (reads_text text more v s) ∙ ap operand_at e ∙ reads_text other rest w t) in
    let rests : more ≡ rest = ap (λ (p : CompactOperand × List ℕ). p.1) same in
    (append_cancel_right text other rest (ap (λ (x : List ℕ). text ++ x) (sym rests) ∙ e), ap (λ (p : CompactOperand × List ℕ). p.0) same)

pub fault_stays : (bytes more : List ℕ) (e : OperandFault) → e ≢ truncated → operand_at bytes ≡ Err e → operand_at (bytes ++ more) ≡ Err e
fault_stays bytes more e ne h = prefix_operand.stays bytes e h ne more

second_nil : (a b : List ℕ) → a ++ b ≡ [] → b ≡ []
second_nil [] b e = e
second_nil (x ∷ a) b e = absurd cc

at_fault : (text more : List ℕ) (v : CompactOperand) (e : OperandFault) → (e ≢ truncated → ⊥) → e ≡ truncated
at_fault text more v truncated h = refl
at_fault text more v unsupported_operand h = absurd (h (λ p. cc))
at_fault text more v integer_too_large h = absurd (h (λ p. cc))
at_fault text more v bad_sign h = absurd (h (λ p. cc))

cut_by : (text more : List ℕ) (v : CompactOperand) (r : Result (CompactOperand × List ℕ) OperandFault) → operand_at text ≡ r → more ≢ [] → SpellsOperand (text ++ more) v → r ≡ Err truncated
cut_by text more v (Ok x) h ne s =
    let t = prefix_operand.took text x.0 x.1 h in
    let all : operand_at (text ++ more) ≡ Ok (x.0, x.1 ++ more) = ap (λ (y : List ℕ). operand_at (y ++ more)) t.parts ∙ ap operand_at (append_assoc t.text x.1 more) ∙ t.again (x.1 ++ more) in
    let same : (x.0, x.1 ++ more) ≡ (v, []) = ok_is {F = OperandFault} (x.0, x.1 ++ more) (v, []) (sym all ∙ s) in
    absurd (ne (second_nil x.1 more (ap (λ (p : CompactOperand × List ℕ). p.1) same)))
cut_by text more v (Err e) h ne s =
    let is : e ≡ truncated = at_fault text more v e (λ other. let stays : operand_at (text ++ more) ≡ Err e = prefix_operand.stays text e h other more in let both : Err e ≡ Ok (v, []) = sym stays ∙ s in absurd cc) in
    ap (λ (f : OperandFault). Err f) is

-- a spelling that is cut is truncated
pub cut : (text more : List ℕ) (v : CompactOperand) → more ≢ [] → SpellsOperand (text ++ more) v → operand_at text ≡ Err truncated
cut text more v ne s = cut_by text more v (operand_at text) refl ne s
