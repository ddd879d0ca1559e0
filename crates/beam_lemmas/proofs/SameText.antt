-- Texts that compare as the same are one, since the comparison of their bytes decides it.
use Rattle.std.proofs.Common.{◌≡◌, ℕ, true, List}
use Rattle.std.proofs.lemmas.Slice.Eq.{bytes_eq-Decides}
use Rattle.beam_model.specs.Prelude.{same_text}

pub text_is : (s t : List ℕ) → same_text s t ≡ true → s ≡ t
text_is s t e = (bytes_eq-Decides s t).0 e
