-- Bytes that a device takes and gives, piece by piece.
use Rattle.std.proofs.Common.{◌≡◌, ℕ, ◌∙◌, ◌-◌, List, [], ◌∷◌, ◌++◌, Option, Some, None, refl, ap, subst, sym, length, take, drop, append_assoc, append-nil, arith, take-append-drop, length-drop}
use Rattle.std.proofs.Math.Seq.{take-append_seam, take-length}
use Rattle.beam_block_file.specs.Shelves.{appended}

appended_twice : (known : Option (List ℕ)) (xs ys : List ℕ) → appended (appended known xs) ys ≡ appended known (xs ++ ys)
appended_twice None xs ys = refl
appended_twice (Some zs) xs ys = ap Some (append_assoc zs xs ys)

pub appended_none : (known : Option (List ℕ)) → known ≡ appended known []
appended_none None = refl
appended_none (Some zs) = ap Some (sym (append-nil zs))

-- the bytes so far with one more piece
pub joined : (known then now : Option (List ℕ)) (xs ys : List ℕ) → then ≡ appended known xs → now ≡ appended then ys → now ≡ appended known (xs ++ ys)
joined known then now xs ys first second = second ∙ ap (λ (w : Option (List ℕ)). appended w ys) first ∙ appended_twice known xs ys

-- as many elements as are left after the first n are all that are left
pub all_left : (xs : List ℕ) (n : ℕ) → take (length xs - n) (drop n xs) ≡ drop n xs
all_left xs n = ap (λ (k : ℕ). take k (drop n xs)) (sym (length-drop n xs)) ∙ take-length (drop n xs)

-- a piece is moved from the rest to the bytes that are begun
pub split_on : (begun rest bytes : List ℕ) (n : ℕ) → begun ++ rest ≡ bytes → (begun ++ take n rest) ++ take (length rest - n) (drop n rest) ≡ bytes
split_on begun rest bytes n is =
    ap (λ (w : List ℕ). (begun ++ take n rest) ++ w) (all_left rest n)
    ∙ append_assoc begun (take n rest) (drop n rest) ∙ ap (λ (w : List ℕ). begun ++ w) (take-append-drop n rest) ∙ is

-- bytes are all begun where nothing of them is left
pub all_begun : (begun rest bytes : List ℕ) → length rest ≡ 0 → begun ++ rest ≡ bytes → begun ≡ bytes
all_begun begun [] bytes none is = sym (append-nil begun) ∙ is
all_begun begun (x ∷ rest) bytes none is = absurd (omega (arith, none))

-- a piece's length taken from the front of a list that begins with the piece
pub front : (piece rest : List ℕ) (n : ℕ) → length piece ≡ n → take n (piece ++ rest) ≡ piece
front piece rest n is = subst (λ k. take k (piece ++ rest) ≡ piece) is (take-append_seam piece rest)
