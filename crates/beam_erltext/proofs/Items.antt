-- Reading the elements of a tuple, one at a time.
use Rattle.std.proofs.Common.{◌≡◌, ℕ, zero, suc, get_or, ◌-◌, ◌+◌, ◌<◌, ◌≤◌, length, List, [], ◌∷◌, ◌++◌, Ok, Err, refl, sym, ap, ◌∙◌, arith, append-nil, eq-eqb}
use Rattle.std.proofs.lemmas.List.{nil_from_length}
use Rattle.beam_term.specs.Prelude.{TermValue, terms_of, depth_of, items_depth}
use Rattle.beam_erltext.specs.declared.read_fault.ReadFault.{ReadFault}
use Rattle.beam_erltext.specs.declared.read_fault.ReadFault.TheVariants as faults
use Rattle.beam_erltext.specs.Gives.{Fails}
use Rattle.beam_erltext.proofs.Texts.{differ}
use Rattle.beam_erltext.proofs.Quoted.{with_front-with_front}
use Rattle.beam_model.specs.Prelude.{Reading, with_front, after_blanks, items_after, items_by}
use Rattle.beam_model.specs.TextReading.{◌>>=◌}

-- the loop's state: `front` is read, and with the rest it is `total`
pub record IsLeft (term : List ℕ → Reading TermValue) (front : List TermValue) (len i : ℕ) (text : List ℕ) (total : Reading (List TermValue)) : Type 0 where
  pub more : i < len
  pub completes : with_front front (items_by term (len - i) text) ≡ total

step : (term : List ℕ → Reading TermValue) (front : List TermValue) (len i : ℕ) (text : List ℕ) (total : Reading (List TermValue)) → IsLeft term front len i text total
    → with_front front (term text >>= λ item. with_front (item.0 ∷ []) (items_after (items_by term (len - (i + 1))) item.1)) ≡ total
unfolding items_by
step term front len i text total left =
    let lt : i < len = left.more in
    let k : len - i ≡ suc (len - (i + 1)) = omega arith in
    let same : with_front front (items_by term (len - i) text) ≡ with_front front (items_by term (suc (len - (i + 1))) text) = ap (λ (n : ℕ). with_front front (items_by term n text)) k in
    sym same ∙ left.completes

pub item_faults : (f : ReadFault) (term : List ℕ → Reading TermValue) (front : List TermValue) (len i : ℕ) (text : List ℕ) (total : Reading (List TermValue)) → IsLeft term front len i text total → Fails f (term text) → Fails f total
item_faults faults.NoMemory term front len i text total left h = tt
item_faults (faults.At n) term front len i text total left h = sym (step term front len i text total left) ∙ rw h refl

-- after the element
pub after : (term : List ℕ → Reading TermValue) (front : List TermValue) (len i : ℕ) (text : List ℕ) (total : Reading (List TermValue)) (x : TermValue) (behind : List ℕ) → IsLeft term front len i text total → term text ≡ Ok (x, behind)
    → with_front (front ++ x ∷ []) (items_after (items_by term (len - (i + 1))) behind) ≡ total
after term front len i text total x behind left h =
    sym (with_front-with_front front (x ∷ []) (items_after (items_by term (len - (i + 1))) behind))
    ∙ sym (ap (λ (r : Reading TermValue). with_front front (r >>= λ item. with_front (item.0 ∷ []) (items_after (items_by term (len - (i + 1))) item.1))) h)
    ∙ step term front len i text total left

pub items_end : (term : List ℕ → Reading TermValue) (front : List TermValue) (len i : ℕ) (text : List ℕ) (total : Reading (List TermValue)) (x : TermValue) (behind : List ℕ) (mark : ℕ) (others : List ℕ) → IsLeft term front len i text total → term text ≡ Ok (x, behind)
    → behind ≡ mark ∷ others → mark ≡ 125 → total ≡ Ok (front ++ x ∷ [], after_blanks others)
items_end term front len i text total x behind mark others left h e t =
    let one : with_front (front ++ x ∷ []) (items_after (items_by term (len - (i + 1))) behind) ≡ Ok (front ++ x ∷ [], after_blanks others) = rw (e, eq-eqb mark 125 t) (ap (λ (xs : List TermValue). Ok (xs, after_blanks others)) (append-nil (front ++ x ∷ []))) in
    sym (after term front len i text total x behind left h) ∙ one

pub items_go_on : (term : List ℕ → Reading TermValue) (front : List TermValue) (len i : ℕ) (text : List ℕ) (total : Reading (List TermValue)) (x : TermValue) (behind : List ℕ) (mark : ℕ) (others : List ℕ) → IsLeft term front len i text total → term text ≡ Ok (x, behind)
    → behind ≡ mark ∷ others → (mark ≡ 125 → ⊥) → mark ≡ 44 → with_front (front ++ x ∷ []) (items_by term (len - (i + 1)) (after_blanks others)) ≡ total
items_go_on term front len i text total x behind mark others left h e n t =
    let one : with_front (front ++ x ∷ []) (items_after (items_by term (len - (i + 1))) behind) ≡ with_front (front ++ x ∷ []) (items_by term (len - (i + 1)) (after_blanks others)) = rw (e, differ mark 125 n, eq-eqb mark 44 t) refl in
    sym one ∙ after term front len i text total x behind left h

pub items_fault : (term : List ℕ → Reading TermValue) (front : List TermValue) (len i : ℕ) (text : List ℕ) (total : Reading (List TermValue)) (x : TermValue) (behind : List ℕ) (mark : ℕ) (others : List ℕ) → IsLeft term front len i text total → term text ≡ Ok (x, behind)
    → behind ≡ mark ∷ others → (mark ≡ 125 → ⊥) → (mark ≡ 44 → ⊥) → total ≡ Err (length behind)
items_fault term front len i text total x behind mark others left h e n m =
    let one : with_front (front ++ x ∷ []) (items_after (items_by term (len - (i + 1))) behind) ≡ Err (length behind) = rw (e, differ mark 125 n, differ mark 44 m) refl in
    sym (after term front len i text total x behind left h) ∙ one

pub items_cut : (term : List ℕ → Reading TermValue) (front : List TermValue) (len i : ℕ) (text : List ℕ) (total : Reading (List TermValue)) (x : TermValue) (behind : List ℕ) → IsLeft term front len i text total → term text ≡ Ok (x, behind)
    → length behind ≡ 0 → total ≡ Err 0
items_cut term front len i text total x behind left h e =
    let one : with_front (front ++ x ∷ []) (items_after (items_by term (len - (i + 1))) behind) ≡ Err 0 = rw (nil_from_length behind e) refl in
    sym (after term front len i text total x behind left h) ∙ one

pub items_spent : (term : List ℕ → Reading TermValue) (front : List TermValue) (len i : ℕ) (text : List ℕ) (total : Reading (List TermValue)) → len ≤ i → with_front front (items_by term (len - i) text) ≡ total → total ≡ Err (length text)
unfolding items_by
items_spent term front len i text total le so_far =
    let k : len - i ≡ 0 = omega arith in
    let one : with_front front (items_by term (len - i) text) ≡ Err (length text) = rw k refl in
    sym so_far ∙ one

-- no element is deeper than the deepest of them
pub item_depth : (xs : List TermValue) (i : ℕ) (x : TermValue) → i < length xs → x ≡ get_or xs i x → depth_of x ≤ items_depth (terms_of xs)
item_depth [] i x h e = absurd (omega arith)
item_depth (y ∷ xs) zero x h e = omega (arith, ap depth_of e)
item_depth (y ∷ xs) (suc i) x h e = omega (arith, item_depth xs i x (omega arith) e)
