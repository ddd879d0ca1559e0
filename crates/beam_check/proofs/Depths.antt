-- An element of a tuple is at most as deep as the deepest.
use Rattle.std.proofs.Common.{◌≡◌, ℕ, zero, suc, ◌≤◌, ◌<◌, List, [], ◌∷◌, length, get_or, ap, arith}
use Rattle.beam_term.specs.Prelude.{TermValue, terms_of, depth_of, items_depth}

pub item_depth : (xs : List TermValue) (i : ℕ) (x : TermValue) → i < length xs → x ≡ get_or xs i x → depth_of x ≤ items_depth (terms_of xs)
item_depth [] i x h e = absurd (omega arith)
item_depth (y ∷ xs) zero x h e = omega (arith, ap depth_of e)
item_depth (y ∷ xs) (suc i) x h e = omega (arith, item_depth xs i x (omega arith) e)
