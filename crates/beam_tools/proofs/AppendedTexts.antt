-- Texts that are written to the error output one after another.
use Rattle.std.proofs.Common.{◌≡◌, ap, refl, ℕ, List, [], ◌++◌, append-nil, Option, Some, None, append_assoc}
use Rattle.std.specs.Io.KnownBytes.{append_known}

pub two : (told : Option (List ℕ)) (a b : List ℕ) → append_known (append_known told a) b ≡ append_known told (a ++ b)
two None a b = refl
two (Some xs) a b =
    let same : (xs ++ a) ++ b ≡ xs ++ (a ++ b) = simp append_assoc in
    ap Some same

pub three : (told : Option (List ℕ)) (a b c : List ℕ) → append_known (append_known (append_known told a) b) c ≡ append_known told (a ++ b ++ c)
three None a b c = refl
three (Some xs) a b c =
    let same : ((xs ++ a) ++ b) ++ c ≡ xs ++ ((a ++ b) ++ c) = simp append_assoc in
    ap Some same

-- an empty text adds nothing
pub none : (told : Option (List ℕ)) → append_known told [] ≡ told
none None = refl
none (Some xs) = ap Some (append-nil xs)

-- one text, and then three more
pub one_three : (told : Option (List ℕ)) (a b c d : List ℕ) → append_known (append_known told a) (b ++ c ++ d) ≡ append_known told (a ++ b ++ c ++ d)
one_three None a b c d = refl
one_three (Some xs) a b c d =
    let same : (xs ++ a) ++ (b ++ c ++ d) ≡ xs ++ (a ++ b ++ c ++ d) = simp append_assoc in
    ap Some same
