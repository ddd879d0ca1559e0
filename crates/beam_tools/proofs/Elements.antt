-- A list, taken apart from its beginning.
use Rattle.std.proofs.Common.{arith, ◌<◌, ◌≡◌, ◌∙◌, ◌⊎◌, ap, Bor, List, [], ◌∷◌, ◌++◌, inl, inr, length, refl}
use Rattle.beam_term.specs.Prelude.{TermValue, list_before, list_of, nil_term, pair_term, shown}
use Rattle.beam_term.specs.declared.term.TermView.{TermView}
use Rattle.beam_term.specs.declared.term.TermView.TheVariants.{Atom, Integer, Nil, Pair, Reference, Tuple, Pid}

-- the elements before a pair, and then its head, are the elements before its tail
pub list_before-push : (xs : List TermValue) (x tail : TermValue) → list_before (xs ++ x ∷ []) tail ≡ list_before xs (pair_term x tail)
list_before-push [] x tail = refl
list_before-push (y ∷ ys) x tail = ap (pair_term y) (list_before-push ys x tail)

-- a list in which a pair follows some elements has more than these
pub longer : (ys xs : List TermValue) (head tail : TermValue) → list_before ys (pair_term head tail) ≡ list_of xs → length ys < length xs
longer [] [] head tail e = cc
longer [] (x ∷ xs) head tail e = omega arith
longer (y ∷ ys) [] head tail e = cc
longer (y ∷ ys) (x ∷ xs) head tail e =
    let rest : list_before ys (pair_term head tail) ≡ list_of xs = cc in
    let less = longer ys xs head tail rest in
    omega arith

-- after some elements of a list comes nil or a pair
list_after : (ys xs : List TermValue) (tail : TermValue) → list_before ys tail ≡ list_of xs
    → (tail ≡ nil_term) ⊎ ((head : TermValue) × (rest : TermValue) × (tail ≡ pair_term head rest))
list_after [] [] tail e = inl e
list_after [] (x ∷ xs) tail e = inr (x, list_of xs, e)
list_after (y ∷ ys) [] tail e = cc
list_after (y ∷ ys) (x ∷ xs) tail e =
    let rest : list_before ys tail ≡ list_of xs = cc in
    list_after ys xs tail rest

-- a view that shows nil is `Nil`
shown_nil : (v : TermView) → shown v ≡ nil_term → v ≡ Nil
shown_nil (Integer n) e = cc
shown_nil (Atom a) e = cc
shown_nil (Reference r) e = cc
shown_nil (Pid p) e = cc
shown_nil Nil e = refl
shown_nil (Pair head tail) e = cc
shown_nil (Tuple items) e = cc

-- a view that shows a pair is `Pair`
shown_pair : (v : TermView) (x y : TermValue) → shown v ≡ pair_term x y
    → ((head tail : Bor TermValue) → v ≡ Pair head tail → ⊥) → ⊥
shown_pair (Integer n) x y e never = cc
shown_pair (Atom a) x y e never = cc
shown_pair (Reference r) x y e never = cc
shown_pair (Pid p) x y e never = cc
shown_pair Nil x y e never = cc
shown_pair (Pair head tail) x y e never = never head tail refl
shown_pair (Tuple items) x y e never = cc

-- a term that is neither nil nor a pair doesn't follow elements of a list
pub no_list : (ys xs : List TermValue) (tail : TermValue) (v : TermView) → shown v ≡ tail → list_before ys tail ≡ list_of xs
    → (v ≡ Nil → ⊥) → ((head rest : Bor TermValue) → v ≡ Pair head rest → ⊥) → ⊥
no_list ys xs tail v is e not_nil not_pair = elim (list_after ys xs tail e) [
  | inl nil ↦ not_nil (shown_nil v (is ∙ nil))
  | inr pair ↦ shown_pair v pair.0 pair.1 (is ∙ pair.2) not_pair
]
