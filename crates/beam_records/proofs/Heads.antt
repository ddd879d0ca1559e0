-- What follows the version of a head: sixteen bytes and a number that is zero.
use Rattle.std.proofs.Common.{◌≡◌, ◌≢◌, ℕ, ◌^◌, ◌<◌, List, [], ◌∷◌, ◌++◌, length, refl, sym, ap, ◌∙◌, arith, length-append, append-nil}
use Rattle.byteorder.specs.Endian.{big_bytes}
use Rattle.byteorder.specs.Numbers.{length-bytes_high_first}
use Rattle.beam_records.specs.JournalFile.{IsOtherVersion, head_of, signature}
use Rattle.beam_records.proofs.Fronts.{same_front, same_number}

no_more : (l : List ℕ) → length l ≡ 0 → l ≡ []
no_more [] e = refl
no_more (x ∷ l) e = absurd (omega (arith, e))

pub id_stands : (bytes front back rest : List ℕ) (n : ℕ) → bytes ≡ front ++ back → length back ≡ 8 → back ≡ big_bytes 8 n ++ rest → n ≡ 0 → bytes ≡ front ++ big_bytes 8 0
id_stands bytes front back rest n e long f zero =
    let none : rest ≡ [] = no_more rest (omega (arith, long, ap length f, length-append (big_bytes 8 n) rest, length-bytes_high_first 8 n)) in
    e ∙ ap (λ (l : List ℕ). front ++ l) (f ∙ (λ i. big_bytes 8 (zero i) ++ none i) ∙ append-nil (big_bytes 8 0))

pub other_number : (bytes front back rest : List ℕ) (n : ℕ) → bytes ≡ front ++ back → length front ≡ 16 → back ≡ big_bytes 8 n ++ rest → n < 2 ^ 64 → n ≢ 0
    → (id : List ℕ) → length id ≡ 16 → bytes ≡ id ++ big_bytes 8 0 → ⊥
other_number bytes front back rest n e long f nlt other id wide g =
    let same = same_front front id back (big_bytes 8 0) (long ∙ sym wide) (sym e ∙ g) in
    let number = same_number 8 n 0 rest [] (omega (arith, nlt)) (omega arith) (sym f ∙ same.1 ∙ sym (append-nil (big_bytes 8 0))) in
    other number.0

pub other_length : (bytes : List ℕ) → length bytes ≢ 24 → (id : List ℕ) → length id ≡ 16 → bytes ≡ id ++ big_bytes 8 0 → ⊥
other_length bytes other id wide g = other (omega (arith, wide, ap length g, length-append id (big_bytes 8 0), length-bytes_high_first 8 0))

-- ---- the signature

pub same_signature : (a b : List ℕ) → signature ++ a ≡ signature ++ b → a ≡ b
same_signature a b e = cc

pub not_head : (bytes : List ℕ) → ((rest : List ℕ) → bytes ≡ signature ++ rest → ⊥) → (id : List ℕ) → length id ≡ 16 → bytes ≡ head_of id → ⊥
not_head bytes none id wide e = none _ e

pub not_other : (bytes : List ℕ) → ((rest : List ℕ) → bytes ≡ signature ++ rest → ⊥) → IsOtherVersion bytes → ⊥
not_other bytes none o = none _ o.2

-- nothing after the signature
pub ends_head : (bytes after : List ℕ) → bytes ≡ signature ++ after → after ≡ [] → (id : List ℕ) → length id ≡ 16 → bytes ≡ head_of id → ⊥
ends_head bytes after e empty id wide f = let h : [] ≡ 1 ∷ (id ++ big_bytes 8 0) = sym empty ∙ same_signature after _ (sym e ∙ f) in absurd cc

pub ends_other : (bytes after : List ℕ) → bytes ≡ signature ++ after → after ≡ [] → IsOtherVersion bytes → ⊥
ends_other bytes after e empty o = let h : [] ≡ o.0 ∷ o.1 = sym empty ∙ same_signature after (o.0 ∷ o.1) (sym e ∙ o.2) in absurd cc

-- a version after the signature
pub other_version : (bytes after : List ℕ) (version : ℕ) (rest : List ℕ) → bytes ≡ signature ++ after → after ≡ version ∷ rest → version ≢ 1 → IsOtherVersion bytes
other_version bytes after version rest e f other = (version, rest, e ∙ ap (λ (l : List ℕ). signature ++ l) f, other)

pub this_version : (bytes after : List ℕ) (version : ℕ) (rest : List ℕ) → bytes ≡ signature ++ after → after ≡ version ∷ rest → version ≡ 1 → IsOtherVersion bytes → ⊥
this_version bytes after version rest e f one o =
    let h : version ∷ rest ≡ o.0 ∷ o.1 = sym f ∙ same_signature after (o.0 ∷ o.1) (sym e ∙ o.2) in
    let same : version ≡ o.0 = cc in
    o.3 (sym same ∙ one)

pub head_stands : (bytes after : List ℕ) (version : ℕ) (rest id : List ℕ) → bytes ≡ signature ++ after → after ≡ version ∷ rest → version ≡ 1 → rest ≡ id ++ big_bytes 8 0
    → bytes ≡ head_of id
head_stands bytes after version rest id e f one g = e ∙ ap (λ (l : List ℕ). signature ++ l) (f ∙ (λ i. one i ∷ g i))

pub no_head : (bytes after : List ℕ) (version : ℕ) (rest : List ℕ) → bytes ≡ signature ++ after → after ≡ version ∷ rest
    → ((id : List ℕ) → length id ≡ 16 → rest ≡ id ++ big_bytes 8 0 → ⊥) → (id : List ℕ) → length id ≡ 16 → bytes ≡ head_of id → ⊥
no_head bytes after version rest e f none id wide g =
    let h : version ∷ rest ≡ 1 ∷ (id ++ big_bytes 8 0) = sym f ∙ same_signature after _ (sym e ∙ g) in
    let same : rest ≡ id ++ big_bytes 8 0 = cc in
    none id wide same
