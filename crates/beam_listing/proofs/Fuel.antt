-- Readers of at most n elements, after m of them were read.
use Rattle.std.proofs.Common.{◌≡◌, ℕ, zero, suc, ◌<◌, ◌-◌, ◌+◌, List, length, Ok, Err, if◌then◌else◌, refl, arith, ◌==◌, ◌||◌}
use Rattle.beam_model.specs.Prelude.{element_by, elements_from, list_parts, headed_of, syntax, is_term, is_partial_tuple, is_partial_list, is_partial_term, ListingBody, body_by, body_from}

pub elements_from_is : (n m close : ℕ) (elements : List (List ℕ)) (text : List ℕ) → m < n → elements_from (n - m) close elements text ≡ element_by (elements_from (n - (m + 1)) close) close elements text
unfolding elements_from
elements_from_is n m close elements text h = let e : n - m ≡ suc (n - (m + 1)) = omega arith in rw e refl

pub is_partial_term_is : (n : ℕ) (text : List ℕ) → 0 < n → is_partial_term n text ≡ (is_term text || (is_partial_tuple (is_partial_term (n - 1)) (headed_of text) || is_partial_list (is_partial_term (n - 1)) (list_parts text)))
unfolding is_partial_term
is_partial_term_is zero text h = absurd (omega arith)
is_partial_term_is (suc n) text h = let e : suc n - 1 ≡ n = omega arith in rw e refl

pub is_partial_term_none : (n : ℕ) (text : List ℕ) → n ≡ 0 → is_partial_term n text ≡ is_term text
unfolding is_partial_term
is_partial_term_none n text e = rw e refl

pub body_from_is : (n m : ℕ) (body : ListingBody) (text : List ℕ) → m < n → body_from (n - m) body text ≡ (if length text == 0 then Ok body else body_by (body_from (n - (m + 1))) body text)
unfolding body_from
body_from_is n m body text h = let e : n - m ≡ suc (n - (m + 1)) = omega arith in rw e refl

pub body_from_none : (n m : ℕ) (body : ListingBody) (text : List ℕ) → n ≡ m → body_from (n - m) body text ≡ (if length text == 0 then Ok body else Err (syntax (length text)))
unfolding body_from
body_from_none n m body text h = let e : n - m ≡ 0 = omega arith in rw e refl
