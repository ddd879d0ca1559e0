-- The results of the readers of bodies, by the terms that the bodies spell.
use Rattle.std.proofs.Common.{◌≡◌, ◌≢◌, ℕ, ◌<◌, ◌≤◌, Bool, true, false, List, [], ◌∷◌, ◌++◌, length, drop, Result, Ok, Err, Option, Some, None, refl, sym, ap, ◌∙◌, arith, append_assoc, length-drop, le-ltb}
use Rattle.std.specs.Option.{option_map}
use Rattle.std.specs.Str.{is_utf8, chars, IsUtf8}
use Rattle.std.proofs.lemmas.Str.{IsUtf8-from_is_utf8, is_utf8-from_IsUtf8}
use Rattle.beam_machine.specs.Prelude.{only_term, term_read, term_in, fields_of, spawn_of, send_of, spot_of, atom_in_body}
use Rattle.beam_model.specs.Prelude.{ExternalFault, external_at, elements_in, put_before}
use Rattle.beam_term.specs.Prelude.{TermValue, int_term, atom_term, reference_term, pid_term, nil_term, pair_term, tuple_term, rank_of}

empty_rest : (t : TermValue) (rest : List ℕ) → length rest ≡ 0 → only_term t rest ≡ Some t
empty_rest t [] e = refl
empty_rest t (b ∷ rest) e = absurd (omega arith)

more_rest : (t : TermValue) (rest : List ℕ) → 0 < length rest → only_term t rest ≡ None
more_rest t [] e = absurd (omega arith)
more_rest t (b ∷ rest) e = refl

pub whole_term : (body : List ℕ) (t : TermValue) (n : ℕ) → length body ≤ n → external_at body ≡ Ok (t, drop n body) → term_in body ≡ Some t
unfolding term_in
whole_term body t n h e = ap term_read e ∙ empty_rest t (drop n body) (omega (arith, length-drop n body))

pub cut_term : (body : List ℕ) (t : TermValue) (n : ℕ) → n < length body → external_at body ≡ Ok (t, drop n body) → term_in body ≡ None
unfolding term_in
cut_term body t n h e = ap term_read e ∙ more_rest t (drop n body) (omega (arith, length-drop n body))

pub no_term : (body : List ℕ) (f : ExternalFault) → external_at body ≡ Err f → term_in body ≡ None
unfolding term_in
no_term body f e = ap term_read e

pub no_fields : (t : TermValue) → rank_of t ≢ 4 → fields_of t ≡ None
no_fields (int_term n) h = refl
no_fields (atom_term a) h = refl
no_fields (reference_term n c w) h = refl
no_fields (pid_term n i s c) h = refl
no_fields nil_term h = refl
no_fields (pair_term a b) h = refl
no_fields (tuple_term xs) h = absurd (h refl)

-- fields of another count
pub no_spawn : (xs : List TermValue) → length xs ≢ 3 → spawn_of xs ≡ None
no_spawn (atom_term a ∷ atom_term b ∷ c ∷ []) h = absurd (h refl)
no_spawn _ h = refl

pub no_send : (xs : List TermValue) → length xs ≢ 2 → send_of xs ≡ None
no_send (a ∷ b ∷ []) h = absurd (h refl)
no_send _ h = refl

pub no_spot : (xs : List TermValue) → length xs ≢ 4 → spot_of xs ≡ None
no_spot (atom_term a ∷ atom_term b ∷ int_term c ∷ int_term d ∷ []) h = absurd (h refl)
no_spot _ h = refl

-- fields of another kind
pub no_module : (m f a : TermValue) → rank_of m ≢ 1 → spawn_of (m ∷ f ∷ a ∷ []) ≡ None
no_module (atom_term x) f a h = absurd (h refl)
no_module _ f a h = refl

pub no_function : (m f a : TermValue) → rank_of f ≢ 1 → spawn_of (m ∷ f ∷ a ∷ []) ≡ None
no_function (atom_term x) (atom_term y) a h = absurd (h refl)
no_function _ _ a h = refl

pub no_receiver : (to m : TermValue) → rank_of to ≢ 1 → rank_of to ≢ 3 → send_of (to ∷ m ∷ []) ≡ None
no_receiver (atom_term x) m h k = absurd (h refl)
no_receiver (pid_term n i s c) m h k = absurd (k refl)
no_receiver _ m h k = refl

pub no_version : (v m l r : TermValue) → rank_of v ≢ 1 → spot_of (v ∷ m ∷ l ∷ r ∷ []) ≡ None
no_version (atom_term x) m l r h = absurd (h refl)
no_version _ m l r h = refl

pub no_name : (v m l r : TermValue) → rank_of m ≢ 1 → spot_of (v ∷ m ∷ l ∷ r ∷ []) ≡ None
no_name (atom_term x) (atom_term y) l r h = absurd (h refl)
no_name _ _ l r h = refl

pub no_label : (v m l r : TermValue) → rank_of l ≢ 0 → spot_of (v ∷ m ∷ l ∷ r ∷ []) ≡ None
no_label (atom_term x) (atom_term y) (int_term z) r h = absurd (h refl)
no_label _ _ _ r h = refl

pub no_rows : (v m l r : TermValue) → rank_of r ≢ 0 → spot_of (v ∷ m ∷ l ∷ r ∷ []) ≡ None
no_rows (atom_term x) (atom_term y) (int_term z) (int_term w) h = absurd (h refl)
no_rows _ _ _ _ h = refl

pub ruleset others = (no_spawn, no_send, no_spot, no_module, no_function, no_version, no_name, no_label, no_rows)

pub no_elements : (t : TermValue) → rank_of t ≢ 6 → t ≢ nil_term → elements_in t ≡ None
no_elements (int_term n) h k = refl
no_elements (atom_term a) h k = refl
no_elements (reference_term n c w) h k = refl
no_elements (pid_term n i s c) h k = refl
no_elements nil_term h k = absurd (k refl)
no_elements (pair_term a b) h k = absurd (h refl)
no_elements (tuple_term xs) h k = refl

pub put_before-append : (xs : List TermValue) (x : TermValue) (o : Option (List TermValue))
    → option_map (λ ys. (xs ++ x ∷ []) ++ ys) o ≡ option_map (λ ys. xs ++ ys) (put_before x o)
put_before-append xs x (Some ys) = ap Some (append_assoc xs (x ∷ []) ys)
put_before-append xs x None = refl

pub none_before : (o : Option (List TermValue)) → option_map (λ ys. [] ++ ys) o ≡ o
none_before (Some ys) = refl
none_before None = refl

pub ruleset elements = (no_elements, put_before-append, none_before)

pub atom_there : (body text atom : List ℕ) → text ≡ body → IsUtf8 body → (255 < length (chars text) → ⊥) → atom ≡ text → atom_in_body body ≡ Some atom
unfolding atom_in_body
atom_there body text atom same utf8 few is =
    let short : length (chars text) ≤ 255 = omega (arith, few) in
    let short_body : length (chars body) ≤ 255 = rw same at short in
    rw (is_utf8-from_IsUtf8 body utf8, le-ltb 255 (length (chars body)) short_body) (ap Some (sym (is ∙ same)))

pub no_text : (body : List ℕ) → (IsUtf8 body → ⊥) → atom_in_body body ≡ None
unfolding atom_in_body
no_text body h = no_text_by (is_utf8 body) refl
  where
    no_text_by : (b : Bool) → is_utf8 body ≡ b → atom_in_body body ≡ None
    no_text_by true e = absurd (h (IsUtf8-from_is_utf8 body e))
    no_text_by false e = rw e refl

pub not_error : {A E : Type 0} (x : A) (e : E) → ◌≡◌ {A = Result A E} (Ok x) (Err e) → ⊥
not_error x e h = cc
