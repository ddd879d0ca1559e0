-- The bytes after the labels, noted from the last instruction to the first.
use Rattle.std.proofs.Common.{◌≡◌, ℕ, zero, suc, ◌<◌, Bool, true, false, cond, ltb, eqb, List, [], ◌∷◌, ◌++◌, length, get_or, drop, Option, Some, refl, sym, ap, ◌∙◌, arith, nat_eq, ltb-true, ne_eqb}
use Rattle.std.specs.declared.cmp.Ordering.TheVariants.{Less, Equal, Greater}
use Rattle.std.specs.Ordering.{is_eq, nat_cmp}
use Rattle.std.specs.Map.{lookup}
use Rattle.std.specs.BTreeMap.{is_at}
use Rattle.std.specs.List.Sorted.{IsStrictlySortedBy}
use Rattle.std.proofs.lemmas.Map.Keys.{below_from_sorted, sorted_tail}
use Rattle.beam_model.specs.declared.instruction.Instruction.{Instruction}
use Rattle.beam_model.specs.Prelude.{is_this_number, label_of}
use Rattle.beam_code.specs.Prelude.{byte_after, AreAscending}

-- ---- one instruction more in front

pub noted_more : (label : ℕ) (is : List Instruction) (starts : List ℕ) (end k : ℕ) (i : Instruction) → length starts ≡ length is → k < length is → i ≡ get_or is k i
    → byte_after label (drop k is) (drop 1 (drop k starts) ++ end ∷ [])
    ≡ cond (is_this_number label (label_of i)) (Some (get_or starts (suc k) end)) (byte_after label (drop (suc k) is) (drop 1 (drop (suc k) starts) ++ end ∷ []))
noted_more label [] starts end k i same lt e = absurd (omega arith)
noted_more label (j ∷ is) [] end k i same lt e = absurd (omega arith)
noted_more label (j ∷ []) (s ∷ []) end zero i same lt e = ap (λ (p : Instruction). cond (is_this_number label (label_of p)) (Some end) (byte_after label [] [])) (sym e)
noted_more label (j ∷ []) (s ∷ t ∷ starts) end zero i same lt e = absurd (omega arith)
noted_more label (j ∷ p ∷ is) (s ∷ []) end zero i same lt e = absurd (omega arith)
noted_more label (j ∷ p ∷ is) (s ∷ t ∷ starts) end zero i same lt e =
    ap (λ (q : Instruction). cond (is_this_number label (label_of q)) (Some t) (byte_after label (p ∷ is) (starts ++ end ∷ []))) (sym e)
noted_more label (j ∷ is) (s ∷ starts) end (suc k) i same lt e = noted_more label is starts end k i (omega arith) (omega arith) e

-- no label stands after the last instruction
pub noted_none : (label : ℕ) (is : List Instruction) (ends : List ℕ) (n : ℕ) → n ≡ length is → byte_after label (drop n is) ends ≡ byte_after label [] ends
noted_none label is ends n e = ap (λ (js : List Instruction). byte_after label js ends) (none is n e)
  where
    none : (js : List Instruction) (m : ℕ) → m ≡ length js → drop m js ≡ []
    none [] zero f = refl
    none [] (suc m) f = absurd (omega arith)
    none (j ∷ js) zero f = absurd (omega arith)
    none (j ∷ js) (suc m) f = none js m (omega arith)

-- ---- the map

pub same_test : (a b : ℕ) → is_at (nat_cmp a) b ≡ eqb a b
same_test a b = by (ltb a b) (eqb a b) (λ lt. ne_eqb a b (λ same. absurd (omega (arith, ltb-true a b lt, same))))
  where
    by : (x y : Bool) → (x ≡ true → y ≡ false) → is_eq (cond x Less (cond y Equal Greater)) ≡ y
    by true y h = sym (h refl)
    by false true h = refl
    by false false h = refl

pub same_lookup : (label : ℕ) (es : List (ℕ × ℕ)) → lookup (is_at (nat_cmp label)) es ≡ lookup (nat_eq label) es
same_lookup label [] = refl
same_lookup label (e ∷ es) =
    ap (λ (b : Bool). cond b (Some e.1) (lookup (is_at (nat_cmp label)) es)) (same_test label e.0)
    ∙ ap (λ (o : Option ℕ). cond (eqb label e.0) (Some e.1) o) (same_lookup label es)

pub ascending : (ns : List ℕ) → IsStrictlySortedBy nat_cmp ns → AreAscending ns
ascending [] s = tt
ascending (n ∷ []) s = tt
ascending (m ∷ n ∷ ns) s = (below_from_sorted (m ∷ n ∷ ns) 0 1 0 s (omega arith) (omega arith), ascending (n ∷ ns) (sorted_tail nat_cmp m (n ∷ ns) s))
