-- Writing one after the other, as loops do.
use Rattle.std.proofs.Common.{◌≡◌, ℕ, List, [], ◌∷◌, ◌++◌, refl, sym, ap, ◌∙◌, append_assoc, Option, Some, None, option_map, append-nil, Result, Ok, Err}
use Rattle.std.specs.Result.{result_ok}
use Rattle.beam_model.specs.declared.compact.Compact.{Compact}
use Rattle.beam_model.specs.Prelude.{both, compact_before, OperandFault}
use Rattle.beam_operand.specs.Faults.{Appends}
use Rattle.beam_code.specs.declared.error.CodeError.{CodeError}
use Rattle.beam_code.specs.declared.error.CodeError.TheVariants.{UnsupportedOpcode, BadOperand, Truncated, NoMemory}
use Rattle.beam_code.specs.Prelude.{with_before, Refuses}

abbrev some : {A : Type 0} → A → Option A
some x = Some x

-- one more element is written, and the rest stands after it
pub added : (old mid : List ℕ) (first rest : Option (List ℕ)) → with_before old first ≡ Some mid → with_before old (both first rest) ≡ with_before mid rest
added old mid (Some f) (Some r) e = ap (λ (x : List ℕ). some x) (sym (append_assoc old f r) ∙ ap (λ (x : List ℕ). x ++ r) (let same : old ++ f ≡ mid = cc in same))
added old mid (Some f) None e = refl
added old mid None rest e = absurd cc

-- one round of a loop: the first element is written, the rest is still to be written
pub goes_on : (old mid start : List ℕ) (first rest left total : Option (List ℕ)) → left ≡ both first rest → with_before old first ≡ Some mid
    → with_before old left ≡ with_before start total → with_before mid rest ≡ with_before start total
goes_on old mid start first rest left total is e so_far = sym (added old mid first rest e) ∙ ap (with_before old) (sym is) ∙ so_far

none_before : (old : List ℕ) (written : Option (List ℕ)) → with_before old written ≡ None → written ≡ None
none_before old (Some w) e = absurd cc
none_before old None e = refl

none_first : (old start : List ℕ) (first rest left total : Option (List ℕ)) → left ≡ both first rest → first ≡ None → with_before old left ≡ with_before start total → total ≡ None
none_first old start (Some f) rest left total is e so_far = absurd cc
none_first old start None rest left total is e so_far = none_before start total (sym so_far ∙ ap (with_before old) is)

-- the whole can't be written where its first element can't
pub stops : (e : CodeError) (old start : List ℕ) (first rest left total : Option (List ℕ)) → left ≡ both first rest → Refuses e first
    → with_before old left ≡ with_before start total → Refuses e total
stops (UnsupportedOpcode n at) old start first rest left total is h so_far = absurd h
stops (BadOperand at) old start first rest left total is h so_far = none_first old start first rest left total is h so_far
stops Truncated old start first rest left total is h so_far = absurd h
stops NoMemory old start first rest left total is h so_far = tt

pub finishes : (new start : List ℕ) (left total : Option (List ℕ)) → left ≡ Some [] → with_before new left ≡ with_before start total → with_before start total ≡ Some new
finishes new start left total is so_far = sym so_far ∙ ap (with_before new) is ∙ ap (λ (x : List ℕ). some x) (append-nil new)

pub appended_is : (old new : List ℕ) (r : Result (List ℕ) OperandFault) → Appends old new r → with_before old (result_ok r) ≡ Some new
appended_is old new (Ok text) h = ap (λ (x : List ℕ). some x) (sym h)
appended_is old new (Err e) h = absurd h

pub failed_is : (r : Result (List ℕ) OperandFault) (e : OperandFault) → r ≡ Err e → result_ok r ≡ None
failed_is r e h = ap result_ok h

-- the members so far, and then those of the rest
abbrev pub with_front : List Compact → Option (List Compact) → Option (List Compact)
with_front front left = option_map (λ xs. front ++ xs) left

regroup : (front : List Compact) (x : Compact) (rest : Option (List Compact)) → with_front front (compact_before (Some x) rest) ≡ with_front (front ++ x ∷ []) rest
regroup front x (Some xs) = ap (λ (ys : List Compact). some ys) (sym (append_assoc front (x ∷ []) xs))
regroup front x None = refl

pub members_start : (o : Option (List Compact)) → with_front [] o ≡ o
members_start (Some xs) = refl
members_start None = refl

pub member_more : (front : List Compact) (x : Compact) (first : Option Compact) (rest left total : Option (List Compact)) → left ≡ compact_before first rest → Some x ≡ first
    → with_front front left ≡ total → with_front (front ++ x ∷ []) rest ≡ total
member_more front x first rest left total is e so_far =
    sym (regroup front x rest) ∙ ap (λ (o : Option Compact). with_front front (compact_before o rest)) e ∙ ap (with_front front) (sym is) ∙ so_far

pub member_none : (front : List Compact) (first : Option Compact) (rest left total : Option (List Compact)) → left ≡ compact_before first rest → None ≡ first
    → with_front front left ≡ total → None ≡ total
member_none front first rest left total is e so_far =
    ap (λ (o : Option Compact). with_front front (compact_before o rest)) e ∙ ap (with_front front) (sym is) ∙ so_far

pub members_done : (front : List Compact) (left total : Option (List Compact)) → left ≡ Some [] → with_front front left ≡ total → Some front ≡ total
members_done front left total is so_far = ap (λ (xs : List Compact). some xs) (sym (append-nil front)) ∙ ap (with_front front) (sym is) ∙ so_far
