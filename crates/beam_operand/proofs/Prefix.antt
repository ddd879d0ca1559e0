-- Readers that take a front of the bytes: what was read is read again, whatever follows, and a fault other than
-- truncated stays.
use Rattle.std.proofs.Common.{◌≡◌, ◌≢◌, ℕ, Bool, true, false, cond, List, [], ◌∷◌, ◌++◌, Result, Ok, Err, refl, sym, ap, ◌∙◌, append_assoc, inl, inr, ◌⊎◌}
use Rattle.beam_lemmas.proofs.Steps.{bind_ok}
use Rattle.beam_model.specs.Prelude.{OperandFault}
use Rattle.beam_model.specs.Compact.{truncated, ◌>>=◌}

abbrev pub Reader : Type 0 → Type 0
Reader X = List ℕ → Result (X × List ℕ) OperandFault

-- the bytes that a reader took from the front
pub record Took {X : Type 0} (read : List ℕ → Result (X × List ℕ) OperandFault) (bytes : List ℕ) (x : X) (rest : List ℕ) : Type 0 where
  pub text : List ℕ
  pub parts : bytes ≡ text ++ rest
  pub again : (more : List ℕ) → read (text ++ more) ≡ Ok (x, more)

pub record IsPrefix {X : Type 0} (read : List ℕ → Result (X × List ℕ) OperandFault) : Type 0 where
  pub took : (bytes : List ℕ) (x : X) (rest : List ℕ) → read bytes ≡ Ok (x, rest) → Took read bytes x rest
  pub stays : (bytes : List ℕ) (e : OperandFault) → read bytes ≡ Err e → e ≢ truncated → (more : List ℕ) → read (bytes ++ more) ≡ Err e

-- which step failed
pub bind_err : {A B F : Type 0} (r : Result A F) (f : A → Result B F) (d : F) → (r >>= f) ≡ Err d → (r ≡ Err d) ⊎ ((x : A) × (r ≡ Ok x) × (f x ≡ Err d))
bind_err (Ok x) f d e = inr (x, refl, e)
bind_err (Err c) f d e = inl (cc)

abbrev done : {A F : Type 0} → A → Result A F
done x = Ok x

pub ok_is : {A F : Type 0} (x y : A) → done {F = F} x ≡ done y → x ≡ y
ok_is x y e = cc

pub prefix_ok : {X : Type 0} (x : X) → IsPrefix (λ bytes. Ok (x, bytes))
prefix_ok {X} x = record {
  took = λ bytes y rest e.
      let same : (x, bytes) ≡ (y, rest) = ok_is {F = OperandFault} (x, bytes) (y, rest) e in
      record {
        text = [];
        parts = ap (λ (p : X × List ℕ). p.1) same;
        again = λ more. ap (λ (p : X × List ℕ). Ok (p.0, more)) same;
      };
  stays = λ bytes f e ne more. absurd cc;
}

pub prefix_err : {X : Type 0} (f : OperandFault) → IsPrefix {X = X} (λ bytes. Err f)
prefix_err f = record {
  took = λ bytes y rest e. absurd cc;
  stays = λ bytes d e ne more. e;
}

pub prefix_if : {X : Type 0} (b : Bool) (r s : Reader X) → IsPrefix r → IsPrefix s → IsPrefix (λ bytes. cond b (r bytes) (s bytes))
prefix_if true r s hr hs = hr
prefix_if false r s hr hs = hs

pub prefix_bind : {A B : Type 0} (r : Reader A) (s : A → Reader B) → IsPrefix r → ((a : A) → IsPrefix (s a)) → IsPrefix (λ bytes. r bytes >>= λ p. s p.0 p.1)
prefix_bind {A} {B} r s hr hs = record {
  took = λ bytes x rest e.
      let b = bind_ok (r bytes) (λ p. s p.0 p.1) (x, rest) e in
      let first = hr.took bytes b.0.0 b.0.1 b.1 in
      let second = (hs b.0.0).took b.0.1 x rest b.2 in
      record {
        text = first.text ++ second.text;
        parts = first.parts ∙ ap (λ (t : List ℕ). first.text ++ t) second.parts ∙ sym (append_assoc first.text second.text rest);
        again = λ more.
            ap (λ (t : List ℕ). r t >>= λ p. s p.0 p.1) (append_assoc first.text second.text more)
            ∙ ap (λ (q : Result (A × List ℕ) OperandFault). q >>= λ p. s p.0 p.1) (first.again (second.text ++ more))
            ∙ second.again more;
      };
  stays = λ bytes f e ne more.
      elim (bind_err (r bytes) (λ p. s p.0 p.1) f e) [
        | inl at_first ↦ ap (λ (q : Result (A × List ℕ) OperandFault). q >>= λ p. s p.0 p.1) (hr.stays bytes f at_first ne more)
        | inr b ↦
            let first = hr.took bytes b.0.0 b.0.1 b.1 in
            ap (λ (t : List ℕ). r (t ++ more) >>= λ p. s p.0 p.1) first.parts
            ∙ ap (λ (t : List ℕ). r t >>= λ p. s p.0 p.1) (append_assoc first.text b.0.1 more)
            ∙ ap (λ (q : Result (A × List ℕ) OperandFault). q >>= λ p. s p.0 p.1) (first.again (b.0.1 ++ more))
            ∙ (hs b.0.0).stays b.0.1 f b.2 ne more
      ];
}

-- a reader that looks at a first byte
abbrev pub behind : {X : Type 0} → (ℕ → Reader X) → Reader X
behind r [] = Err truncated
behind r (first ∷ bytes) = r first bytes

pub prefix_behind : {X : Type 0} (r : ℕ → Reader X) → ((first : ℕ) → IsPrefix (r first)) → IsPrefix (behind r)
prefix_behind {X} r h = record {
  took = took;
  stays = stays;
}
  where
    took : (bytes : List ℕ) (x : X) (rest : List ℕ) → behind r bytes ≡ Ok (x, rest) → Took (behind r) bytes x rest
    took [] x rest e = absurd cc
    took (first ∷ bytes) x rest e =
        let t = (h first).took bytes x rest e in
        record { text = first ∷ t.text; parts = ap (λ (bs : List ℕ). first ∷ bs) t.parts; again = t.again }

    stays : (bytes : List ℕ) (e : OperandFault) → behind r bytes ≡ Err e → e ≢ truncated → (more : List ℕ) → behind r (bytes ++ more) ≡ Err e
    stays [] e p ne more = absurd (ne (cc))
    stays (first ∷ bytes) e p ne more = (h first).stays bytes e p ne more
