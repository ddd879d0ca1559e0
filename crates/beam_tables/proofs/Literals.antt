-- A literal, by the result of reading its bytes.
use Rattle.std.proofs.Common.{◌≡◌, ℕ, ◌<◌, ◌≤◌, List, [], ◌∷◌, length, drop, Ok, Err, refl, ap, ◌∙◌, arith, length-drop}
use Rattle.std.proofs.lemmas.List.{drop_all}
use Rattle.beam_model.specs.Prelude.{ExternalFault, external_at, literal_alone, literal_of, bad_literal}
use Rattle.beam_term.specs.Prelude.{TermValue}

-- nothing stands after the term
pub fills : (bytes : List ℕ) (t : TermValue) (n : ℕ) → external_at bytes ≡ Ok (t, drop n bytes) → length bytes ≤ n → literal_of bytes ≡ Ok t
unfolding literal_of
fills bytes t n e le = ap literal_alone (e ∙ ap (λ (rest : List ℕ). Ok (t, rest)) (drop_all n bytes le))

followed : (t : TermValue) (rest : List ℕ) → 0 < length rest → literal_alone (Ok (t, rest)) ≡ Err bad_literal
followed t [] some = absurd (omega arith)
followed t (byte ∷ rest) some = refl

-- bytes stand after the term
pub is_followed : (bytes : List ℕ) (t : TermValue) (n : ℕ) → external_at bytes ≡ Ok (t, drop n bytes) → n < length bytes → literal_of bytes ≡ Err bad_literal
unfolding literal_of
is_followed bytes t n e lt = ap literal_alone e ∙ followed t (drop n bytes) (omega (arith, length-drop n bytes))

-- no term stands there
pub is_none : (bytes : List ℕ) (f : ExternalFault) → external_at bytes ≡ Err f → literal_of bytes ≡ Err bad_literal
unfolding literal_of
is_none bytes f e = ap literal_alone e

pub ruleset literals = (fills, is_followed, is_none)
