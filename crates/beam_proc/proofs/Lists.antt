-- Lists of registers.
use Rattle.std.proofs.Common.{◌≡◌, ℕ, ◌+◌, List, [], ◌∷◌, ◌++◌, replicate, ap, ◌∙◌, append_assoc}
use Rattle.std.proofs.lemmas.List.{replicate-append-replicate}

pub padded_more : {A : Type 0} (a b : List A) (n : ℕ) (v : A) → b ≡ a ++ replicate n v → b ++ v ∷ [] ≡ a ++ replicate (n + 1) v
padded_more a b n v e = ap (λ l. l ++ v ∷ []) e ∙ (append_assoc a (replicate n v) (v ∷ []) ∙ ap (λ l. a ++ l) (replicate-append-replicate n 1 v))
