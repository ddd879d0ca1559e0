-- Reading between quotes, a byte or an escape at a time.
use Rattle.std.proofs.Common.{◌≡◌, ℕ, suc, ◌-◌, ◌+◌, ◌<◌, length, List, [], ◌∷◌, ◌++◌, Ok, Err, refl, sym, ap, ◌∙◌, append_assoc, arith, encode_utf8, append-nil, eq-eqb}
use Rattle.std.proofs.lemmas.List.{nil_from_length}
use Rattle.beam_erltext.proofs.Texts.{differ}
use Rattle.beam_erltext.specs.declared.read_fault.ReadFault.{ReadFault}
use Rattle.beam_erltext.specs.declared.read_fault.ReadFault.TheVariants as faults
use Rattle.beam_erltext.specs.Gives.{Fails}
use Rattle.beam_model.specs.Prelude.{Reading, with_front, escape_at, quoted_within}

pub with_front-with_front : {A : Type 0} (front more : List A) (read : Reading (List A)) → with_front front (with_front more read) ≡ with_front (front ++ more) read
with_front-with_front front more (Ok x) = ap (λ (bs : List _). Ok (bs, x.1)) (sym (append_assoc front more x.0))
with_front-with_front front more (Err e) = refl

pub ends_short : (front : List ℕ) (len i quote : ℕ) (rest : List ℕ) (total : Reading (List ℕ)) → i < len → length rest ≡ 0 → with_front front (quoted_within (len - i) quote rest) ≡ total → total ≡ Err 0
unfolding quoted_within
ends_short front len i quote rest total lt e so_far =
    let k : len - i ≡ suc (len - (i + 1)) = omega arith in
    let one : with_front front (quoted_within (len - i) quote rest) ≡ Err 0 = rw (k, nil_from_length rest e) refl in
    sym so_far ∙ one

pub closes : (front : List ℕ) (len i quote : ℕ) (rest : List ℕ) (first : ℕ) (others : List ℕ) (total : Reading (List ℕ)) → i < len → rest ≡ first ∷ others → first ≡ quote → with_front front (quoted_within (len - i) quote rest) ≡ total → total ≡ Ok (front, others)
unfolding quoted_within
closes front len i quote rest first others total lt e t so_far =
    let k : len - i ≡ suc (len - (i + 1)) = omega arith in
    let one : with_front front (quoted_within (len - i) quote rest) ≡ Ok (front, others) = rw (k, e, eq-eqb first quote t) (ap (λ (bs : List ℕ). Ok (bs, others)) (append-nil front)) in
    sym so_far ∙ one

pub faults_in_escape : (f : ReadFault) (front : List ℕ) (len i quote : ℕ) (rest : List ℕ) (first : ℕ) (others : List ℕ) (total : Reading (List ℕ)) → i < len → rest ≡ first ∷ others → (first ≡ quote → ⊥) → first ≡ 92 → Fails f (escape_at others) → with_front front (quoted_within (len - i) quote rest) ≡ total → Fails f total
unfolding quoted_within
faults_in_escape faults.NoMemory front len i quote rest first others total lt e t u h so_far = tt
faults_in_escape (faults.At left) front len i quote rest first others total lt e t u h so_far =
    let k : len - i ≡ suc (len - (i + 1)) = omega arith in
    let one : with_front front (quoted_within (len - i) quote rest) ≡ Err left = rw (k, e, differ first quote t, eq-eqb first 92 u, h) refl in
    sym so_far ∙ one

pub takes_escape : (front : List ℕ) (len i quote : ℕ) (rest : List ℕ) (first : ℕ) (others : List ℕ) (c : ℕ) (behind : List ℕ) (total : Reading (List ℕ)) → i < len → rest ≡ first ∷ others → (first ≡ quote → ⊥) → first ≡ 92 → escape_at others ≡ Ok (c, behind) → with_front front (quoted_within (len - i) quote rest) ≡ total → with_front (front ++ encode_utf8 c) (quoted_within (len - (i + 1)) quote behind) ≡ total
unfolding quoted_within
takes_escape front len i quote rest first others c behind total lt e t u h so_far =
    let k : len - i ≡ suc (len - (i + 1)) = omega arith in
    let one : with_front front (quoted_within (len - i) quote rest) ≡ with_front (front ++ encode_utf8 c) (quoted_within (len - (i + 1)) quote behind) = rw (k, e, differ first quote t, eq-eqb first 92 u, h) (with_front-with_front front (encode_utf8 c) (quoted_within (len - (i + 1)) quote behind)) in
    sym one ∙ so_far

pub takes_byte : (front : List ℕ) (len i quote : ℕ) (rest : List ℕ) (first : ℕ) (others : List ℕ) (total : Reading (List ℕ)) → i < len → rest ≡ first ∷ others → (first ≡ quote → ⊥) → (first ≡ 92 → ⊥) → with_front front (quoted_within (len - i) quote rest) ≡ total → with_front (front ++ first ∷ []) (quoted_within (len - (i + 1)) quote others) ≡ total
unfolding quoted_within
takes_byte front len i quote rest first others total lt e t u so_far =
    let k : len - i ≡ suc (len - (i + 1)) = omega arith in
    let one : with_front front (quoted_within (len - i) quote rest) ≡ with_front (front ++ first ∷ []) (quoted_within (len - (i + 1)) quote others) = rw (k, e, differ first quote t, differ first 92 u) (with_front-with_front front (first ∷ []) (quoted_within (len - (i + 1)) quote others)) in
    sym one ∙ so_far
