-- The order of terms compares texts by their code points.
-- Source: Erlang Reference Manual, "Term Comparisons".
use Rattle.std.specs.Prelude.{◌≡◌, ℕ, suc, List, refl}
use Rattle.std.specs.Str.{chars}
use Rattle.std.proofs.Common.{ap}
use Rattle.std.specs.Ordering.{nat_cmp}
use Rattle.std.specs.Cmp.Lexicographic.{slice_cmp}
use Rattle.beam_term.specs.Atom.{IsAtomText}
use Rattle.beam_term.specs.CodePoints.{texts_by_chars}
use Rattle.beam_term.specs.TermValue.{TermValue, Terms, int_term, atom_term, reference_term, pid_term, nil_term, pair_term, tuple_term, no_terms, more_terms, count_of, IsInRange, AreInRange}
use Rattle.beam_term.specs.Order.{term_cmp, terms_cmp}

abbrev mutual
  -- the term with each text in code points in place of UTF-8 bytes
  pub in_code_points : TermValue → TermValue
  in_code_points (int_term n) = int_term n
  in_code_points (atom_term text) = atom_term (chars text)
  in_code_points (reference_term node creation words) = reference_term (chars node) creation words
  in_code_points (pid_term node id serial creation) = pid_term (chars node) id serial creation
  in_code_points nil_term = nil_term
  in_code_points (pair_term head tail) = pair_term (in_code_points head) (in_code_points tail)
  in_code_points (tuple_term items) = tuple_term (all_in_code_points items)

  pub all_in_code_points : Terms → Terms
  all_in_code_points no_terms = no_terms
  all_in_code_points (more_terms x xs) = more_terms (in_code_points x) (all_in_code_points xs)

same_count : (xs : Terms) → count_of (all_in_code_points xs) ≡ count_of xs
same_count no_terms = refl
same_count (more_terms x xs) = ap suc (same_count xs)

by_text : (s t : List ℕ) → IsAtomText s → IsAtomText t → slice_cmp nat_cmp s t ≡ slice_cmp nat_cmp (chars s) (chars t)
by_text s t h k = texts_by_chars s t h.utf8 k.utf8

mutual
  -- the order of two terms is that of the same terms in code points
  pub by_code_points : (s t : TermValue) → IsInRange s → IsInRange t → term_cmp s t ≡ term_cmp (in_code_points s) (in_code_points t)
  by_code_points (int_term m) (int_term n) h k = refl
  by_code_points (atom_term s) (atom_term t) h k = by_text s t h k
  by_code_points (reference_term node creation words) (reference_term node' creation' words') h k =
      rw (by_text node node' h.0 k.0) refl
  by_code_points (pid_term node id serial creation) (pid_term node' id' serial' creation') h k =
      rw (by_text node node' h.0 k.0) refl
  by_code_points nil_term nil_term h k = refl
  by_code_points (pair_term a b) (pair_term c d) h k =
      rw (by_code_points a c h.0 k.0, by_code_points b d h.1 k.1) refl
  by_code_points (tuple_term xs) (tuple_term ys) h k =
      rw (same_count xs, same_count ys, all_by_code_points xs ys h.1 k.1) refl
  by_code_points s t h k = refl

  all_by_code_points : (xs ys : Terms) → AreInRange xs → AreInRange ys → terms_cmp xs ys ≡ terms_cmp (all_in_code_points xs) (all_in_code_points ys)
  all_by_code_points no_terms no_terms h k = refl
  all_by_code_points no_terms (more_terms y ys) h k = refl
  all_by_code_points (more_terms x xs) no_terms h k = refl
  all_by_code_points (more_terms x xs) (more_terms y ys) h k =
      rw (by_code_points x y h.0 k.0, all_by_code_points xs ys h.1 k.1) refl
