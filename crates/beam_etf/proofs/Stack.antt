-- The stack of the terms that were read, split where a list's or a tuple's parts begin.
use Rattle.std.proofs.Common.{◌≡◌, ◌≢◌, ℕ, List, [], ◌∷◌, ◌++◌, Result, Ok, Err, length, take, drop, refl, sym, ap, ◌∙◌, append_assoc, length-append, arith, MatchResult, take_at, drop_at}
use Rattle.std.specs.Result.{IsErrAnd}
use Rattle.beam_term.specs.Prelude.{TermValue}
use Rattle.beam_term.specs.declared.error.TermError.{TermError}
use Rattle.beam_term.specs.declared.error.TermError.TheVariants as terms
use Rattle.beam_model.specs.Prelude.{ExternalFault}
use Rattle.beam_etf.specs.declared.error.EtfError.{EtfError}
use Rattle.beam_etf.specs.declared.error.EtfError.TheVariants.{NoMemory}
use Rattle.beam_etf.specs.Faults.{from_term_error, fault_of}
use Rattle.beam_etf.specs.Puts.{Puts}

pub below_start : (all front items : List TermValue) (start : ℕ) → all ≡ front ++ items → length front ≡ start → take start all ≡ front
below_start all front items start e n = ap (take start) e ∙ take_at front items start n

pub from_start : (all front items : List TermValue) (start : ℕ) → all ≡ front ++ items → length front ≡ start → drop start all ≡ items
from_start all front items start e n = ap (drop start) e ∙ drop_at front items start n

pub ruleset stack = (below_start, from_start)

-- the last element and those before it
pub last_apart : (xs ys : List TermValue) (x y : TermValue) → xs ++ x ∷ [] ≡ ys ++ y ∷ [] → (xs ≡ ys) × (x ≡ y)
last_apart [] [] x y e = (refl, cc)
last_apart [] (b ∷ ys) x y e = absurd (omega (arith, ap length e, length-append ys (y ∷ [])))
last_apart (a ∷ xs) [] x y e = absurd (omega (arith, ap length e, length-append xs (x ∷ [])))
last_apart (a ∷ xs) (b ∷ ys) x y e =
    let first : a ≡ b = cc in
    let others : xs ++ x ∷ [] ≡ ys ++ y ∷ [] = cc in
    let k = last_apart xs ys x y others in
    (cc, k.1)

pub popped : (old new front items : List TermValue) (last tail : TermValue) → old ≡ new ++ last ∷ [] → old ≡ front ++ (items ++ tail ∷ []) → (new ≡ front ++ items) × (last ≡ tail)
popped old new front items last tail e f = last_apart new (front ++ items) last tail (sym e ∙ f ∙ sym (append_assoc front items (tail ∷ [])))

-- an error of a term that a `?` passes on
pub exit_deep : (result : Result Unit TermError) (P : Unit → Type 0) (e : TermError) (D : Type 0) → IsErrAnd result (λ y. y ≡ e) → (e ≡ terms.TooDeep → D) → MatchResult result P (λ y. y ≡ terms.TooDeep → D)
exit_deep (Ok x) P e D h k = absurd h
exit_deep (Err y) P e D h k = rw h k

-- an error that is passed on unchanged
pub puts_err : (read : Result (TermValue × List ℕ) ExternalFault) (rest : List ℕ) (old new : List TermValue) (result : Result Unit EtfError) (e : EtfError)
    → IsErrAnd result (λ y. y ≡ e) → (e ≢ NoMemory → read ≡ Err (fault_of e)) → Puts read rest old new result
puts_err read rest old new (Ok x) e h k = absurd h
puts_err read rest old new (Err y) e h k = rw h k

-- the error of a term that has room
pub puts_term_err : (read : Result (TermValue × List ℕ) ExternalFault) (rest : List ℕ) (old new : List TermValue) (result : Result Unit EtfError) (t : TermError)
    → IsErrAnd result (λ y. y ≡ from_term_error t) → (t ≡ terms.TooDeep → ⊥) → Puts read rest old new result
puts_term_err read rest old new result terms.NoMemory h k = puts_err read rest old new result NoMemory h (λ n. absurd (n refl))
puts_term_err read rest old new result terms.TooDeep h k = absurd (k refl)

-- one more term on the stack
pub one_more : (old front now new : List TermValue) (t : TermValue) → now ≡ old ++ front → new ≡ now ++ t ∷ [] → new ≡ old ++ (front ++ t ∷ [])
one_more old front now new t e f = f ∙ ap (λ (d : List TermValue). d ++ t ∷ []) e ∙ append_assoc old front (t ∷ [])
