-- How deep a list is, by its parts.
use Rattle.std.specs.Prelude.{◌≡◌, ◌≤◌, List, [], ◌∷◌, ◌++◌, refl}
use Rattle.std.proofs.Common.{ap, arith}
use Rattle.beam_term.specs.TermValue.{TermValue, pair_term, list_before, depth_of}

-- a list of two parts: the first part before the list of the second
pub list_before-append : (xs ys : List TermValue) (tail : TermValue) → list_before (xs ++ ys) tail ≡ list_before xs (list_before ys tail)
list_before-append [] ys tail = refl
list_before-append (x ∷ xs) ys tail = ap (pair_term x) (list_before-append xs ys tail)

-- the end of a list is no deeper than the list
pub tail_depth : (xs : List TermValue) (tail : TermValue) → depth_of tail ≤ depth_of (list_before xs tail)
tail_depth [] tail = omega arith
tail_depth (x ∷ xs) tail = omega (arith, tail_depth xs tail)

pub ruleset list_depth = (list_before-append, tail_depth)
