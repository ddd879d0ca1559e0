-- How a term's room passes to its parts.
use Rattle.std.proofs.Common.{◌≡◌, ℕ, zero, suc, ◌≤◌, Bool, true, false, eqb, List, Result, Ok, refl, ap, arith, le-ltb, eqb-true}
use Rattle.beam_model.specs.Prelude.{read_at, below, external_list_at, whole_at, pair_at, external_tuple_at, items_at, ExternalFault}
use Rattle.beam_model.specs.ExternalReading.{◌>>=◌}
use Rattle.beam_term.specs.Prelude.{TermValue, tuple_of}

pub read_at-whole : (depth_left : ℕ) (bytes : List ℕ) → read_at depth_left 0 bytes ≡ whole_at (below depth_left) depth_left bytes
unfolding read_at below
read_at-whole zero bytes = refl
read_at-whole (suc depth_left) bytes = refl

abbrev pub as_tuple : Result (List TermValue × List ℕ) ExternalFault → Result (TermValue × List ℕ) ExternalFault
as_tuple read = read >>= λ items. Ok (tuple_of items.0, items.1)

not_zero : (depth_left : ℕ) → eqb (suc depth_left) 0 ≡ false
not_zero depth_left = by (eqb (suc depth_left) 0) refl
  where
    by : (b : Bool) → eqb (suc depth_left) 0 ≡ b → b ≡ false
    by true e = absurd (omega (arith, eqb-true (suc depth_left) 0 e))
    by false e = refl

-- the elements of a tuple have one level of room less
pub tuple_at-items : (depth_left part count : ℕ) (bytes : List ℕ) → depth_left ≡ suc part → external_tuple_at (below depth_left) depth_left count bytes ≡ as_tuple (items_at (read_at part 0) count bytes)
unfolding below external_tuple_at
tuple_at-items zero part count bytes e = absurd (omega arith)
tuple_at-items (suc depth_left) part count bytes e =
    let same : depth_left ≡ part = omega arith in
    rw (not_zero depth_left) (ap (λ (r : ℕ). as_tuple (items_at (read_at r 0) count bytes)) same)

-- a list that has room for its elements
pub list_at-read : (depth_left count : ℕ) (bytes : List ℕ) → 1 ≤ count → count ≤ depth_left → external_list_at (below depth_left) depth_left count bytes ≡ read_at depth_left count bytes
unfolding external_list_at read_at below pair_at
list_at-read depth_left zero bytes h k = absurd (omega arith)
list_at-read zero (suc n) bytes h k = absurd (omega arith)
list_at-read (suc depth_left) (suc n) bytes h k = rw (le-ltb (suc depth_left) (suc n) k) refl

pub ruleset rooms = (read_at-whole, list_at-read)
