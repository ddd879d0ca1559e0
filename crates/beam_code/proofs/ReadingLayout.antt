-- Reading instructions and where they stand, as the loop does.
use Rattle.std.proofs.Common.{◌≡◌, ℕ, zero, suc, ◌+◌, ◌<◌, ◌≤◌, true, false, List, [], ◌∷◌, ◌++◌, length, get_or, drop, Ok, inl, inr, refl, sym, ap, ◌∙◌, arith, ◌⊎◌, map, nat_eq, length-append}
use Rattle.std.specs.Map.{lookup}
use Rattle.std.proofs.lemmas.List.{length-map, map-append, get_or_push, get_or_past}
use Rattle.beam_model.specs.declared.instruction.Instruction.{Instruction}
use Rattle.beam_model.specs.declared.opcode.Opcode.{Opcode}
use Rattle.beam_model.specs.Prelude.{opcode_at, instruction_after_opcode, Tables}
use Rattle.beam_model.specs.CodeChunk.{is_end}
use Rattle.beam_code.specs.declared.instruction.ChunkLayout.{ChunkLayout}
use Rattle.beam_code.specs.Prelude.{standing_at, read_or_end, instructions_in, byte_after, AreAscending, Spans, HasLayout}
use Rattle.beam_code.proofs.Codes.{end_is}

-- ---- one more at the end

pub get_or-snoc : (xs : List ℕ) (x d : ℕ) (k : ℕ) → k ≤ length xs → get_or (xs ++ x ∷ []) k d ≡ get_or xs k x
get_or-snoc [] x d zero le = refl
get_or-snoc [] x d (suc k) le = absurd (omega arith)
get_or-snoc (y ∷ xs) x d zero le = refl
get_or-snoc (y ∷ xs) x d (suc k) le = get_or-snoc xs x d k (omega arith)

-- ---- what the loop has read: the instructions before byte at, where they begin, and the labels among them

pub record Placed (t : Tables) (code starts : List ℕ) (at : ℕ) (front : List Instruction) : Type 0 where
  pub first : get_or starts 0 at ≡ 20
  pub each : (k : ℕ) → k < length starts → Spans t code (get_or starts k at) (get_or starts (k + 1) at)
  pub are : map (λ start. read_or_end (standing_at t code start)) starts ≡ front

below_or_at : (k n : ℕ) → k < n + 1 → (k < n) ⊎ (k ≡ n)
below_or_at zero zero lt = inr refl
below_or_at zero (suc n) lt = inl (omega arith)
below_or_at (suc k) zero lt = absurd (omega arith)
below_or_at (suc k) (suc n) lt = elim (below_or_at k n (omega arith)) [ inl less ↦ inl (omega arith) | inr same ↦ inr (ap suc same) ]

-- the instruction at a byte is an opcode and its operands
pub stands : (t : Tables) (code : List ℕ) (at next : ℕ) (o : Opcode) (i : Instruction) → opcode_at code at ≡ Ok o → instruction_after_opcode t.atoms t.imports t.literals code o (at + 1) ≡ Ok (i, next)
    → standing_at t code at ≡ Ok (i, next)
unfolding standing_at
stands t code at next o i e f = rw e f

pub placed_more : (t : Tables) (code starts : List ℕ) (at next : ℕ) (front : List Instruction) (o : Opcode) (i : Instruction) → Placed t code starts at front
    → opcode_at code at ≡ Ok o → is_end o ≡ false → instruction_after_opcode t.atoms t.imports t.literals code o (at + 1) ≡ Ok (i, next) → at + 1 ≤ next → next ≤ length code
    → Placed t code (starts ++ at ∷ []) next (front ++ i ∷ [])
placed_more t code starts at next front o i p e goes f low high =
    let here : Spans t code at next = record { opcode = o; instruction = i; begins = e; goes_on = goes; ends = f; order = omega arith; within = high } in
    let read : read_or_end (standing_at t code at) ≡ i = ap read_or_end (stands t code at next o i e f) in
    record {
      first = get_or-snoc starts at next 0 (omega arith) ∙ p.first;
      each = λ k lt. each_more here k (below_or_at k (length starts) (omega (arith, lt, length-append starts (at ∷ []))));
      are = map-append (λ start. read_or_end (standing_at t code start)) starts (at ∷ []) ∙ ap (λ (j : Instruction). map (λ start. read_or_end (standing_at t code start)) starts ++ j ∷ []) read ∙ ap (λ (is : List Instruction). is ++ i ∷ []) p.are;
    }
  where
    each_more : Spans t code at next → (k : ℕ) → (k < length starts) ⊎ (k ≡ length starts) → Spans t code (get_or (starts ++ at ∷ []) k next) (get_or (starts ++ at ∷ []) (k + 1) next)
    each_more here k (inl less) = rw (get_or-snoc starts at next k (omega arith), get_or-snoc starts at next (k + 1) (omega arith)) (p.each k less)
    each_more here k (inr same) =
        let begin : get_or (starts ++ at ∷ []) k next ≡ at = get_or_push starts at next k (sym same) in
        let behind : get_or (starts ++ at ∷ []) (k + 1) next ≡ next = get_or_past (starts ++ at ∷ []) (k + 1) next (omega (arith, same, length-append starts (at ∷ []))) in
        rw (begin, behind) here

pub placed_all : (t : Tables) (code : List ℕ) (p : ChunkLayout) (front : List Instruction) (o : Opcode) → Placed t code p.starts p.end front
    → opcode_at code p.end ≡ Ok o → is_end o ≡ true → p.end < length code → AreAscending (map (λ l. l.0) p.labels.items)
    → ((label : ℕ) → lookup (nat_eq label) p.labels.items ≡ byte_after label front (drop 1 p.starts ++ p.end ∷ [])) → HasLayout t code front p
unfolding instructions_in
placed_all t code p front o placed e ends lt order bytes = record {
  starts = record { first = placed.first; each = placed.each; last = e ∙ ap (λ (q : Opcode). Ok q) (end_is o ends); within = lt };
  instructions = placed.are;
  labels = record { order = order; bytes = λ label. bytes label ∙ ap (λ (is : List Instruction). byte_after label is (drop 1 p.starts ++ p.end ∷ [])) (sym placed.are) };
}

-- there are as many instructions as starts
pub as_many_placed : (t : Tables) (code starts : List ℕ) (at : ℕ) (front : List Instruction) → Placed t code starts at front → length starts ≡ length front
as_many_placed t code starts at front p = sym (length-map starts (λ start. read_or_end (standing_at t code start))) ∙ ap length p.are
