-- Where labels lead to.
use Rattle.std.proofs.Common.{◌≡◌, ℕ, ◌+◌, ◌≤◌, Bool, true, false, if◌then◌else◌, List, [], ◌∷◌, length, get_or, drop, Option, Some, None, refl, ap, sym, ◌∙◌, ap₂, subst, arith, ◌<◌, ◌==◌, IfSome}
use Rattle.std.proofs.lemmas.List.{at_drop_more}
use Rattle.beam_model.specs.declared.instruction.Instruction.{Instruction}
use Rattle.beam_model.specs.Prelude.{label_of, is_row, is_this_number, gap_before_row, row_of_label}
use Rattle.beam_shapes.specs.declared.label_rows.LabelRows.{LabelRows}
use Rattle.beam_shapes.specs.Prelude.{row_after_label, HasRows}

few : (b : Bool) (n m : ℕ) → n ≤ m → (if b then 0 else n + 1) ≤ m + 1
few true n m h = omega arith
few false n m h = omega (arith, h)

passed_few : (code : List Instruction) → gap_before_row code ≤ length code
passed_few [] = omega arith
passed_few (i ∷ rest) = let h = few (is_row i) (gap_before_row rest) (length rest) (passed_few rest) in omega (arith, h)

one_of : (b : Bool) (x n : ℕ) (o : Option ℕ) → x ≤ n → IfSome o (λ row. row ≤ n) → IfSome (if b then Some x else o) (λ row. row ≤ n)
one_of true x n o h k = h
one_of false x n o h k = k

later : (o : Option ℕ) (m n : ℕ) → m ≡ n → IfSome o (λ row. row ≤ m) → IfSome o (λ row. row ≤ n)
later o m n e h = subst (λ k. IfSome o (λ row. row ≤ k)) e h

pub row_within : (label at : ℕ) (code : List Instruction) → IfSome (row_of_label label at code) (λ row. row ≤ at + length code)
row_within label at [] = tt
row_within label at (i ∷ rest) =
    let p = passed_few rest in
    let n : at + 1 + length rest ≡ at + length (i ∷ rest) = omega arith in
    one_of (is_this_number label (label_of i)) (at + 1 + gap_before_row rest) (at + length (i ∷ rest)) (row_of_label label (at + 1) rest) (omega (arith, p))
    (later (row_of_label label (at + 1) rest) (at + 1 + length rest) (at + length (i ∷ rest)) n (row_within label (at + 1) rest))

pub row_is : (o : Option ℕ) (label : ℕ) (code : List Instruction) → o ≡ row_of_label label 0 code → IfSome o (λ row. row ≤ length code)
row_is o label code e =
    let n : 0 + length code ≡ length code = omega arith in
    subst (λ (r : Option ℕ). IfSome r (λ row. row ≤ length code)) (sym e) (later (row_of_label label 0 code) (0 + length code) (length code) n (row_within label 0 code))

else_of : (b : Bool) (n m : ℕ) → b ≡ false → (if b then n else m) ≡ m
else_of true n m e = absurd (cc e)
else_of false n m e = refl

passed_one : (code : List Instruction) (k row : ℕ) (i : Instruction) → k < length code → i ≡ get_or code k i → is_row i ≡ false
    → row ≡ k + 1 + gap_before_row (drop (k + 1) code) → row ≡ k + gap_before_row (drop k code)
passed_one code k row i few at none is =
    let p : gap_before_row (drop k code) ≡ (if is_row (get_or code k i) then 0 else gap_before_row (drop (k + 1) code) + 1) = at_drop_more gap_before_row code k i few in
    let q : is_row (get_or code k i) ≡ false = sym (ap is_row at) ∙ none in
    let r = else_of (is_row (get_or code k i)) 0 (gap_before_row (drop (k + 1) code) + 1) q in
    omega (arith, p, r, is)

-- an instruction that is no row is passed
pub unpassed : (code : List Instruction) (k n row : ℕ) (i : Instruction) → k + 1 ≡ n → k < length code → i ≡ get_or code k i → is_row i ≡ false
    → row ≡ n + gap_before_row (drop n code) → row ≡ k + gap_before_row (drop k code)
unpassed code k n row i e few at none =
    subst (λ (m : ℕ). row ≡ m + gap_before_row (drop m code) → row ≡ k + gap_before_row (drop k code)) e (passed_one code k row i few at none)

module _ (code : List Instruction) (k : ℕ) (i : Instruction) (few : k < length code) (at : i ≡ get_or code k i) where
  abbrev chosen : ℕ → Option ℕ → Option ℕ
  chosen label o = if is_this_number label o then Some (k + 1 + gap_before_row (drop (k + 1) code)) else row_of_label label (k + 1) (drop (k + 1) code)

  rows_by : (label : ℕ) (o : Option ℕ) → label_of i ≡ o → row_of_label label k (drop k code) ≡ chosen label o
  rows_by label o is =
      at_drop_more (row_of_label label k) code k i few ∙ ap (λ (j : Instruction). chosen label (label_of j)) (sym at) ∙ ap (chosen label) is

  kept_one : (rows : LabelRows) → label_of i ≡ None → HasRows (k + 1) (drop (k + 1) code) rows → HasRows k (drop k code) rows
  kept_one rows none has label = has label ∙ sym (rows_by label None none)

  put_one : (l row : ℕ) (old new : LabelRows) → label_of i ≡ Some l
      → ((other : ℕ) → row_after_label new other ≡ (if l == other then Some row else row_after_label old other))
      → row ≡ k + 1 + gap_before_row (drop (k + 1) code) → HasRows (k + 1) (drop (k + 1) code) old → HasRows k (drop k code) new
  put_one l row old new is put row_is has label =
      put label ∙ ap₂ (λ (o p : Option ℕ). if l == label then o else p) (ap Some row_is) (has label) ∙ sym (rows_by label (Some l) is)

  -- an instruction that isn't a label leaves the rows of labels as they are
  pub kept_rows : (n : ℕ) (rows : LabelRows) → k + 1 ≡ n → label_of i ≡ None → HasRows n (drop n code) rows → HasRows k (drop k code) rows
  kept_rows n rows e none = subst (λ (m : ℕ). HasRows m (drop m code) rows → HasRows k (drop k code) rows) e (kept_one rows none)

  -- a label puts its row
  pub put_rows : (n l row : ℕ) (old new : LabelRows) → k + 1 ≡ n → label_of i ≡ Some l
      → ((other : ℕ) → row_after_label new other ≡ (if l == other then Some row else row_after_label old other))
      → row ≡ n + gap_before_row (drop n code) → HasRows n (drop n code) old → HasRows k (drop k code) new
  put_rows n l row old new e is put =
      subst (λ (m : ℕ). row ≡ m + gap_before_row (drop m code) → HasRows m (drop m code) old → HasRows k (drop k code) new) e (put_one l row old new is put)
