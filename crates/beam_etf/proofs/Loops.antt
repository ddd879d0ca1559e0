-- Reading terms one after the other, as the loops do.
use Rattle.std.proofs.Common.{◌≡◌, ℕ, suc, ◌-◌, ◌+◌, ◌≤◌, ◌<◌, List, [], ◌∷◌, ◌++◌, Result, Ok, Err, refl, sym, ap, ◌∙◌, append_assoc, arith, append-nil}
use Rattle.beam_model.specs.Prelude.{ExternalFault, read_at, items_at, pair_at}
use Rattle.beam_term.specs.Prelude.{TermValue, pair_term, list_before, list_before-append}
use Rattle.beam_model.specs.ExternalReading.{◌>>=◌}

-- the elements of a tuple that were read, and then those of the rest
abbrev pub before_rest : List TermValue → Result (List TermValue × List ℕ) ExternalFault → Result (List TermValue × List ℕ) ExternalFault
before_rest front read = read >>= λ x. Ok (front ++ x.0, x.1)

-- the elements of a list that were read, and then those of the rest and the tail
abbrev pub before_list : List TermValue → Result (TermValue × List ℕ) ExternalFault → Result (TermValue × List ℕ) ExternalFault
before_list front read = read >>= λ x. Ok (list_before front x.0, x.1)

-- ---- tuples

regroup : (front : List TermValue) (t : TermValue) (read : Result (List TermValue × List ℕ) ExternalFault) → before_rest front (read >>= λ x. Ok (t ∷ x.0, x.1)) ≡ before_rest (front ++ t ∷ []) read
regroup front t (Ok x) = ap (λ (ts : List TermValue). Ok (ts, x.1)) (simp append_assoc)
regroup front t (Err e) = refl

pub items_go_on : (item : List ℕ → Result (TermValue × List ℕ) ExternalFault) (front : List TermValue) (count i : ℕ) (bytes : List ℕ) (t : TermValue) (after : List ℕ) (total : Result (List TermValue × List ℕ) ExternalFault)
    → i < count → item bytes ≡ Ok (t, after) → before_rest front (items_at item (count - i) bytes) ≡ total → before_rest (front ++ t ∷ []) (items_at item (count - (i + 1)) after) ≡ total
unfolding items_at
items_go_on item front count i bytes t after total lt h so_far =
    let k : count - i ≡ suc (count - (i + 1)) = omega arith in
    let one : before_rest front (items_at item (count - i) bytes) ≡ before_rest (front ++ t ∷ []) (items_at item (count - (i + 1)) after) = rw (k, h) (regroup front t (items_at item (count - (i + 1)) after)) in
    sym one ∙ so_far

pub items_end : (item : List ℕ → Result (TermValue × List ℕ) ExternalFault) (e : ExternalFault) (front : List TermValue) (count i : ℕ) (bytes : List ℕ) (total : Result (List TermValue × List ℕ) ExternalFault)
    → i < count → item bytes ≡ Err e → before_rest front (items_at item (count - i) bytes) ≡ total → total ≡ Err e
unfolding items_at
items_end item e front count i bytes total lt h so_far =
    let k : count - i ≡ suc (count - (i + 1)) = omega arith in
    let one : before_rest front (items_at item (count - i) bytes) ≡ Err e = rw (k, h) refl in
    sym so_far ∙ one

pub items_done : (item : List ℕ → Result (TermValue × List ℕ) ExternalFault) (front : List TermValue) (count i : ℕ) (bytes : List ℕ) (total : Result (List TermValue × List ℕ) ExternalFault)
    → count ≤ i → before_rest front (items_at item (count - i) bytes) ≡ total → total ≡ Ok (front, bytes)
unfolding items_at
items_done item front count i bytes total le so_far =
    let k : count - i ≡ 0 = omega arith in
    let one : before_rest front (items_at item (count - i) bytes) ≡ Ok (front, bytes) = rw k (ap (λ (ts : List TermValue). Ok (ts, bytes)) (append-nil front)) in
    sym so_far ∙ one

-- ---- lists

regroup_list : (front : List TermValue) (t : TermValue) (read : Result (TermValue × List ℕ) ExternalFault) → before_list front (read >>= λ x. Ok (pair_term t x.0, x.1)) ≡ before_list (front ++ t ∷ []) read
regroup_list front t (Ok x) = ap (λ (u : TermValue). Ok (u, x.1)) (sym (list_before-append front (t ∷ []) x.0))
regroup_list front t (Err e) = refl

pub list_go_on : (front : List TermValue) (depth_left left count i : ℕ) (bytes : List ℕ) (t : TermValue) (after : List ℕ) (total : Result (TermValue × List ℕ) ExternalFault)
    → i < count → depth_left ≡ suc left → read_at left 0 bytes ≡ Ok (t, after) → before_list front (read_at depth_left (count - i) bytes) ≡ total → before_list (front ++ t ∷ []) (read_at left (count - (i + 1)) after) ≡ total
unfolding read_at pair_at
list_go_on front depth_left left count i bytes t after total lt r h so_far =
    let k : count - i ≡ suc (count - (i + 1)) = omega arith in
    let one : before_list front (read_at depth_left (count - i) bytes) ≡ before_list (front ++ t ∷ []) (read_at left (count - (i + 1)) after) = rw (k, r, h) (regroup_list front t (read_at left (count - (i + 1)) after)) in
    sym one ∙ so_far

pub list_ends : (e : ExternalFault) (front : List TermValue) (depth_left left count i : ℕ) (bytes : List ℕ) (total : Result (TermValue × List ℕ) ExternalFault)
    → i < count → depth_left ≡ suc left → read_at left 0 bytes ≡ Err e → before_list front (read_at depth_left (count - i) bytes) ≡ total → total ≡ Err e
unfolding read_at pair_at
list_ends e front depth_left left count i bytes total lt r h so_far =
    let k : count - i ≡ suc (count - (i + 1)) = omega arith in
    let one : before_list front (read_at depth_left (count - i) bytes) ≡ Err e = rw (k, r, h) refl in
    sym so_far ∙ one

-- the tail, where all elements were read
pub list_tail : (front : List TermValue) (depth_left count i : ℕ) (bytes : List ℕ) (total : Result (TermValue × List ℕ) ExternalFault)
    → count ≤ i → before_list front (read_at depth_left (count - i) bytes) ≡ total → total ≡ before_list front (read_at depth_left 0 bytes)
list_tail front depth_left count i bytes total le so_far =
    let k : count - i ≡ 0 = omega arith in
    let one : before_list front (read_at depth_left (count - i) bytes) ≡ before_list front (read_at depth_left 0 bytes) = rw k refl in
    sym so_far ∙ one
