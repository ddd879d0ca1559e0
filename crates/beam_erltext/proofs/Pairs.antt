-- Reading the elements of a list, one at a time.
use Rattle.std.proofs.Common.{le-ltb, lt-ltb, ◌≡◌, ◌≤◌, ◌<◌, ◌^◌, arith, ℕ, suc, List, [], ◌∷◌, ◌++◌, Ok, Err, length, refl, sym, ap, ◌∙◌, nat_lt, if◌then◌else◌}
use Rattle.beam_term.specs.Prelude.{TermValue, pair_term, list_before, tuple_of, depth_of, list_before-append}
use Rattle.beam_erltext.proofs.Rooms.{term_at_is}
use Rattle.beam_model.specs.Prelude.{Reading, fault_at, after_blanks, closed_by, tail_by, list_by, term_at, pairs_at}
use Rattle.beam_model.specs.TextReading.{◌>>=◌}

-- the elements that were read, before those that are still read and the tail
abbrev pub before_list : List TermValue → Reading TermValue → Reading TermValue
before_list front read = read >>= λ x. Ok (list_before front x.0, x.1)

regroup : (front : List TermValue) (t : TermValue) (read : Reading TermValue) → before_list front (read >>= λ x. Ok (pair_term t x.0, x.1)) ≡ before_list (front ++ t ∷ []) read
regroup front t (Ok x) = ap (λ (u : TermValue). Ok (u, x.1)) (sym (list_before-append front (t ∷ []) x.0))
regroup front t (Err e) = refl

-- an element was read
pub pairs_item : (front : List TermValue) (left d : ℕ) (text : List ℕ) (x : TermValue) (after : List ℕ) (total : Reading TermValue) → left ≡ suc d → term_at d text ≡ Ok (x, after)
    → before_list front (pairs_at left text) ≡ total → before_list (front ++ x ∷ []) (tail_by (term_at d) (pairs_at d) after) ≡ total
unfolding pairs_at
pairs_item front left d text x after total r h so_far =
    let one : before_list front (pairs_at left text) ≡ before_list (front ++ x ∷ []) (tail_by (term_at d) (pairs_at d) after) = rw (r, h) (regroup front x (tail_by (term_at d) (pairs_at d) after)) in
    sym one ∙ so_far

-- an element has a fault
pub pairs_end : (e : ℕ) (front : List TermValue) (left d : ℕ) (text : List ℕ) (total : Reading TermValue) → left ≡ suc d → term_at d text ≡ Err e → before_list front (pairs_at left text) ≡ total → total ≡ Err e
unfolding pairs_at
pairs_end e front left d text total r h so_far =
    let one : before_list front (pairs_at left text) ≡ Err e = rw (r, h) refl in
    sym so_far ∙ one

-- an element would be too deep
pub pairs_none : (front : List TermValue) (left : ℕ) (text : List ℕ) (total : Reading TermValue) → left ≡ 0 → before_list front (pairs_at left text) ≡ total → total ≡ Err (length text)
unfolding pairs_at
pairs_none front left text total r so_far =
    let one : before_list front (pairs_at left text) ≡ Err (length text) = rw r refl in
    sym so_far ∙ one

-- a list with a further element is still not too deep
pub fits_more : (front : List TermValue) (x : TermValue) (left d depth_left : ℕ) → ((t : TermValue) → depth_of t ≤ left → depth_of (list_before front t) ≤ depth_left) → left ≡ suc d → depth_of x ≤ d
    → (u : TermValue) → depth_of u ≤ d → depth_of (list_before (front ++ x ∷ []) u) ≤ depth_left
fits_more front x left d depth_left fits r h u k = rw (list_before-append front (x ∷ []) u) (fits (pair_term x u) (omega (arith, r, h, k)))

-- the tail and the bracket after it
abbrev pub then_closed : Reading TermValue → Reading TermValue
then_closed read = read >>= λ tail. closed_by 93 tail.0 tail.1

-- the tuple of the elements that were read after its brace
abbrev pub as_tuple : List ℕ → Reading (List TermValue) → Reading TermValue
as_tuple text read = read >>= λ items. if nat_lt (length items.0) (2 ^ 32) then Ok (tuple_of items.0, items.1) else fault_at text

-- a text that begins with a bracket
pub term_list : (depth_left : ℕ) (text : List ℕ) (first : ℕ) (others : List ℕ) → text ≡ first ∷ others → first ≡ 91 → term_at depth_left text ≡ list_by (pairs_at depth_left) (after_blanks others)
term_list depth_left text first others e f = term_at_is depth_left text ∙ rw (e, f) refl

-- a tuple of too many elements
pub tuple_long : (text : List ℕ) (xs : List TermValue) (rest : List ℕ) → 2 ^ 32 ≤ length xs → as_tuple text (Ok (xs, rest)) ≡ Err (length text)
tuple_long text xs rest h = rw (le-ltb (length xs) (2 ^ 32) h) refl

pub tuple_short : (text : List ℕ) (xs : List TermValue) (rest : List ℕ) → length xs < 2 ^ 32 → as_tuple text (Ok (xs, rest)) ≡ Ok (tuple_of xs, rest)
tuple_short text xs rest h = rw (lt-ltb (length xs) (2 ^ 32) h) refl
