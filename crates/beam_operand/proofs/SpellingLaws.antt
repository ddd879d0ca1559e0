-- Bytes spell an operand by the format's definition exactly where reading them from the left gives that operand.
use Rattle.std.proofs.Common.{◌≡◌, ◌≢◌, ℕ, ◌^◌, ◌<◌, ◌≤◌, ℤ, pos, List, [], ◌∷◌, ◌++◌, length, inl, inr, Result, Ok, Err, refl, sym, ap, subst, ◌∙◌, arith, append-nil, slice_index, MatchResult}
use Rattle.std.proofs.lemmas.Int.{ints}
use Rattle.beam_model.specs.declared.compact.Compact.TheVariants.{Integer, Literal, X}
use Rattle.beam_model.specs.declared.compact.CompactOperand.{CompactOperand}
use Rattle.beam_model.specs.Prelude.{OperandFault, operand_at, SpellsOperand, HasOperandNumbers, spelling, IsSpelling}
use Rattle.beam_model.specs.declared.compact.CompactOperand.TheVariants as operand
use Rattle.beam_model.specs.Compact.{truncated}
use Rattle.beam_operand.proofs.RoundTrip.{operand_again}
use Rattle.beam_operand.proofs.Fronts.{no_other, cut}
use Rattle.beam_operand.proofs.Shortest.{shortest}
use Rattle.beam_operand.proofs.ReadingComplete.{operand_spelled}
use Rattle.beam_operand.proofs.ReadingSound.{operand_sound}

pub told_whole : (text : List ℕ) (v : CompactOperand) → SpellsOperand text v → IsSpelling v text
told_whole text v e =
    let t = operand_sound text (v, []) e in
    subst (IsSpelling v) (sym (t.parts ∙ append-nil t.text)) t.is

pub spelled_whole : (text : List ℕ) (v : CompactOperand) → IsSpelling v text → SpellsOperand text v
spelled_whole text v h = ap operand_at (sym (append-nil text)) ∙ operand_spelled v text [] h

pub no_other_spelling : (text other more rest : List ℕ) (v w : CompactOperand) → IsSpelling v text → IsSpelling w other → text ++ more ≡ other ++ rest → (text ≡ other) × (v ≡ w)
no_other_spelling text other more rest v w s t e = no_other text other more rest v w (spelled_whole text v s) (spelled_whole other w t) e

pub cut_spelling : (text more : List ℕ) (v : CompactOperand) → more ≢ [] → IsSpelling v (text ++ more) → operand_at text ≡ Err truncated
cut_spelling text more v ne s = cut text more v ne (spelled_whole (text ++ more) v s)

pub written_spells : (v : CompactOperand) (text : List ℕ) → HasOperandNumbers v → spelling v ≡ Ok text → IsSpelling v text
written_spells v text h e = told_whole text v (ap operand_at (sym (append-nil text)) ∙ operand_again v text [] h e)

pub shortest_spelling : (other : List ℕ) (v : CompactOperand) → ((i : ℕ) → slice_index other i < 256) → IsSpelling v other → (text : List ℕ) × (spelling v ≡ Ok text) × (length text ≤ length other)
shortest_spelling other v bytes s = shortest other v bytes (spelled_whole other v s)

-- ---- worked bytes

pub five_short : IsSpelling (operand.One (Integer (pos 5))) (81 ∷ [])
five_short = ((refl, inl (record { bits = refl; alone = refl; value = refl })), (omega (arith, ints), omega (arith, ints)))

pub five_long : IsSpelling (operand.One (Integer (pos 5))) (9 ∷ 5 ∷ [])
five_long = ((refl, inr (inl (record { bits = refl; low = 5; next = refl; value = refl }))), (omega (arith, ints), omega (arith, ints)))

pub literal_3 : IsSpelling (operand.One (Literal 3)) (71 ∷ 48 ∷ [])
literal_3 = record {
  mark = 71 ∷ [];
  index = 48 ∷ [];
  parts = refl;
  is_mark = (refl, inl (record { bits = refl; alone = refl; value = refl }));
  is_index = ((refl, inl (record { bits = refl; alone = refl; value = refl })), omega arith);
}

pub list_of_two : IsSpelling (operand.List (X 0 ∷ X 1 ∷ [])) (23 ∷ 32 ∷ 3 ∷ 19 ∷ [])
list_of_two = record {
  mark = 23 ∷ [];
  count = 32 ∷ [];
  members = 3 ∷ 19 ∷ [];
  parts = refl;
  is_mark = (refl, inl (record { bits = refl; alone = refl; value = refl }));
  is_count = ((refl, inl (record { bits = refl; alone = refl; value = refl })), omega arith);
  are_members = (
    3 ∷ [],
    19 ∷ [],
    refl,
    inl ((refl, inl (record { bits = refl; alone = refl; value = refl })), omega arith),
    (19 ∷ [], [], refl, inl ((refl, inl (record { bits = refl; alone = refl; value = refl })), omega arith), refl),
  );
}
