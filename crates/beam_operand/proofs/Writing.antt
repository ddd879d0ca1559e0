-- Writing members one after the other, as a loop does.
use Rattle.std.proofs.Common.{◌≡◌, ℕ, ◌+◌, ◌<◌, ◌≤◌, List, [], ◌∷◌, ◌++◌, length, get_or, drop, Result, Ok, Err, refl, sym, ap, subst, ◌∙◌, append_assoc, add-one, drop-cons, append-nil}
use Rattle.std.proofs.lemmas.List.{drop_all}
use Rattle.beam_model.specs.declared.compact.Compact.{Compact}
use Rattle.beam_model.specs.Prelude.{OperandFault, single_spelling, members_spelling}
use Rattle.beam_model.specs.Compact.{◌>>=◌}
use Rattle.beam_operand.specs.declared.error.OperandError.{OperandError}
use Rattle.beam_operand.specs.declared.error.OperandError.TheVariants.{Truncated, UnsupportedOperand, IntegerTooLarge, BadSign, NoMemory}
use Rattle.beam_operand.specs.Faults.{Fails, Appends, Begins}

-- the output so far, and then the bytes of the rest
abbrev pub prefixed : List ℕ → Result (List ℕ) OperandFault → Result (List ℕ) OperandFault
prefixed text spelled = spelled >>= λ rest. Ok (text ++ rest)

-- the output of a loop over the members so far
pub record Written (old new : List ℕ) (rest all : List Compact) : Type 0 where
  pub text : List ℕ
  pub more : new ≡ old ++ text
  pub is : prefixed text (members_spelling rest) ≡ members_spelling all

pub appended : (old new : List ℕ) (r : Result (List ℕ) OperandFault) → Appends old new r → (text : List ℕ) × (r ≡ Ok text) × (new ≡ old ++ text)
appended old new (Ok text) h = (text, refl, h)
appended old new (Err e) h = absurd h

regroup : (text first : List ℕ) (r : Result (List ℕ) OperandFault) → prefixed text (r >>= λ rest. Ok (first ++ rest)) ≡ prefixed (text ++ first) r
regroup text first (Ok rest) = ap (λ (t : List ℕ). Ok t) (sym (append_assoc text first rest))
regroup text first (Err e) = refl

pub starts : (old : List ℕ) (all : List Compact) → Written old old all all
starts old all = record { text = []; more = sym (append-nil old); is = same (members_spelling all) }
  where
    same : (r : Result (List ℕ) OperandFault) → prefixed [] r ≡ r
    same (Ok t) = refl
    same (Err e) = refl

writes_text : (old mid new : List ℕ) (x : Compact) (xs all : List Compact) (bytes : List ℕ) → Written old mid (x ∷ xs) all → single_spelling x ≡ Ok bytes → new ≡ mid ++ bytes → Written old new xs all
unfolding members_spelling
writes_text old mid new x xs all bytes w spelled added =
    let one : prefixed w.text (members_spelling (x ∷ xs)) ≡ prefixed (w.text ++ bytes) (members_spelling xs) = rw spelled (regroup w.text bytes (members_spelling xs)) in
    record {
      text = w.text ++ bytes;
      more = added ∙ ap (λ (t : List ℕ). t ++ bytes) w.more ∙ append_assoc old w.text bytes;
      is = sym one ∙ w.is;
    }

pub writes_on : (old mid new : List ℕ) (x : Compact) (xs all : List Compact) → Written old mid (x ∷ xs) all → Appends mid new (single_spelling x) → Written old new xs all
writes_on old mid new x xs all w h =
    let a = appended mid new (single_spelling x) h in
    writes_text old mid new x xs all a.0 w a.1 a.2

fault_ends : (f : OperandFault) (old mid : List ℕ) (x : Compact) (xs all : List Compact) → Written old mid (x ∷ xs) all → single_spelling x ≡ Err f → members_spelling all ≡ Err f
unfolding members_spelling
fault_ends f old mid x xs all w h =
    let one : prefixed w.text (members_spelling (x ∷ xs)) ≡ Err f = rw h refl in
    sym w.is ∙ one

pub ends : (e : OperandError) (old mid : List ℕ) (x : Compact) (xs all : List Compact) → Written old mid (x ∷ xs) all → Fails e (single_spelling x) → Fails e (members_spelling all)
ends NoMemory old mid x xs all w h = tt
ends Truncated old mid x xs all w h = fault_ends _ old mid x xs all w h
ends UnsupportedOperand old mid x xs all w h = fault_ends _ old mid x xs all w h
ends IntegerTooLarge old mid x xs all w h = fault_ends _ old mid x xs all w h
ends BadSign old mid x xs all w h = fault_ends _ old mid x xs all w h

pub is_written : (old new : List ℕ) (all : List Compact) → Written old new [] all → Appends old new (members_spelling all)
unfolding members_spelling
is_written old new all w = rw (← w.is) (w.more ∙ ap (λ (t : List ℕ). old ++ t) (sym (append-nil w.text)))

next_member : (all : List Compact) (i : ℕ) (d : Compact) → i < length all → drop i all ≡ get_or all i d ∷ drop (i + 1) all
next_member all i d lt = rw (add-one, drop-cons all i d) refl

pub goes_on : (old mid new : List ℕ) (all : List Compact) (i : ℕ) (d : Compact) → i < length all → Written old mid (drop i all) all
    → Appends mid new (single_spelling (get_or all i d)) → Written old new (drop (i + 1) all) all
goes_on old mid new all i d lt w h =
    writes_on old mid new (get_or all i d) (drop (i + 1) all) all (subst (λ (xs : List Compact). Written old mid xs all) (next_member all i d lt) w) h

pub fails : (e : OperandError) (old mid : List ℕ) (all : List Compact) (i : ℕ) (d : Compact) → i < length all → Written old mid (drop i all) all
    → Fails e (single_spelling (get_or all i d)) → Fails e (members_spelling all)
fails e old mid all i d lt w h =
    ends e old mid (get_or all i d) (drop (i + 1) all) all (subst (λ (xs : List Compact). Written old mid xs all) (next_member all i d lt) w) h

pub finishes : (old new : List ℕ) (all : List Compact) (i : ℕ) → length all ≤ i → Written old new (drop i all) all → Appends old new (members_spelling all)
finishes old new all i le w = is_written old new all (subst (λ (xs : List Compact). Written old new xs all) (drop_all i all le) w)

pub begins : (old mid new : List ℕ) (xs all : List Compact) → Written old mid xs all → Begins mid new → Begins old new
begins old mid new xs all w h = (w.text ++ h.0, h.1 ∙ ap (λ (t : List ℕ). t ++ h.0) w.more ∙ append_assoc old w.text h.0)
