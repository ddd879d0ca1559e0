-- Lemmas on the elements of a list that a loop goes down.
use Rattle.std.proofs.Common.{◌≡◌, ℕ, ◌+◌, List, [], ◌∷◌, ◌++◌, length, Option, Some, None, refl, ap, append_assoc, arith}
use Rattle.std.specs.Option.{option_map}
use Rattle.beam_model.specs.Prelude.{put_before}
use Rattle.beam_term.specs.Prelude.{TermValue}

pub put_before-append : (xs : List TermValue) (x : TermValue) (o : Option (List TermValue))
    → option_map (λ ys. (xs ++ x ∷ []) ++ ys) o ≡ option_map (λ ys. xs ++ ys) (put_before x o)
put_before-append xs x (Some ys) = ap Some (append_assoc xs (x ∷ []) ys)
put_before-append xs x None = refl

pub put_before-length : (n : ℕ) (x : TermValue) (o : Option (List TermValue))
    → option_map (λ ys. n + 1 + length ys) o ≡ option_map (λ ys. n + length ys) (put_before x o)
put_before-length n x (Some ys) = ap Some (omega arith)
put_before-length n x None = refl

pub none_before : (o : Option (List TermValue)) → option_map (λ ys. [] ++ ys) o ≡ o
none_before (Some ys) = refl
none_before None = refl

pub none_counted : (o : Option (List TermValue)) → option_map (λ ys. 0 + length ys) o ≡ option_map length o
none_counted (Some ys) = ap Some (omega arith)
none_counted None = refl

pub ruleset steps = (put_before-append, put_before-length, none_before, none_counted)
