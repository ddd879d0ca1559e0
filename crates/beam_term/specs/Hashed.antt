-- What a term feeds a hash: its kind, and then its number, its text or its parts, one after the other, with a tuple's size before
-- its elements. So different terms feed differently.
use Rattle.std.specs.Prelude.{◌≡◌, ℕ, List, [], ◌++◌, IsTrue, fold}
use Rattle.std.proofs.Common.{ap}
use Rattle.std.specs.Hash as fed
use Rattle.std.specs.Hash.DefaultHasher as sip
use Rattle.beam_term.specs.TermValue.{TermValue, Terms, int_term, atom_term, reference_term, pid_term, nil_term, pair_term, tuple_term, no_terms, more_terms, count_of}
use Rattle.beam_term.specs.Order.{term_eq}
use Rattle.beam_term.specs.OrderLaws.{term_eq_decides}

abbrev pub reference_fed : List ℕ → ℕ → List ℕ → List (List ℕ)
reference_fed node creation words = fed.u8 2 ++ (fed.str node ++ (fed.u32 creation ++ fed.slice fed.u32 words))

abbrev pub pid_fed : List ℕ → ℕ → ℕ → ℕ → List (List ℕ)
pid_fed node id serial creation = fed.u8 3 ++ (fed.str node ++ (fed.u32 id ++ (fed.u32 serial ++ fed.u32 creation)))

abbrev mutual
  pub term_fed : TermValue → List (List ℕ)
  term_fed (int_term n) = fed.u8 0 ++ fed.i64 n
  term_fed (atom_term text) = fed.u8 1 ++ fed.str text
  term_fed (reference_term node creation words) = reference_fed node creation words
  term_fed (pid_term node id serial creation) = pid_fed node id serial creation
  term_fed (tuple_term items) = (fed.u8 4 ++ fed.usize (count_of items)) ++ terms_fed items
  term_fed nil_term = fed.u8 5
  term_fed (pair_term head tail) = fed.u8 6 ++ (term_fed head ++ term_fed tail)

  pub terms_fed : Terms → List (List ℕ)
  terms_fed no_terms = []
  terms_fed (more_terms x xs) = term_fed x ++ terms_fed xs

-- what a hasher is fed of a term: the hash of all that the term feeds
abbrev pub hash_fed : TermValue → List (List ℕ)
hash_fed t = fed.u64 (sip.finish (fold sip.write sip.initial (term_fed t)))

-- equal terms feed alike
pub equal_fed : (s t : TermValue) → IsTrue (term_eq s t) → hash_fed s ≡ hash_fed t
equal_fed s t e = ap hash_fed ((term_eq_decides s t).0 e)
