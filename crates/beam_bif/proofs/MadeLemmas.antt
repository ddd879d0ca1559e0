-- Terms that are made, by their depth and size.
use Rattle.std.proofs.Common.{◌≡◌, ◌^◌, ◌<◌, ◌≤◌, ◌⊎◌, true, List, length, Ok, Err, refl, arith}
use Rattle.std.proofs.lemmas.Bool.Decides.{nat_tests}
use Rattle.beam_model.specs.Prelude.{has_lawful_size, limited_term}
use Rattle.beam_model.specs.declared.exception.Fault.TheVariants.{SystemLimit}
use Rattle.beam_term.specs.Prelude.{TermValue, int_term, atom_term, reference_term, pid_term, nil_term, pair_term, tuple_term, tuple_of, depth_of, IsTerm, count_of-terms_of}

lawful_size : (t : TermValue) → IsTerm t → has_lawful_size t ≡ true
lawful_size (tuple_term items) h = grind (arith, nat_tests, h.in_range.0)
lawful_size (int_term n) h = refl
lawful_size (atom_term text) h = refl
lawful_size (reference_term node creation words) h = refl
lawful_size (pid_term node id serial creation) h = refl
lawful_size nil_term h = refl
lawful_size (pair_term head tail) h = refl

pub lawful_made : (t : TermValue) → IsTerm t → limited_term t ≡ Ok t
lawful_made t h = grind (arith, nat_tests, h.shallow, lawful_size t h)

pub deep_refused : (t : TermValue) → 4096 < depth_of t → limited_term t ≡ Err SystemLimit
deep_refused t h = grind (arith, nat_tests)

pub tuple_refused : (xs : List TermValue) → (4096 < depth_of (tuple_of xs)) ⊎ (2 ^ 32 ≤ length xs) → limited_term (tuple_of xs) ≡ Err SystemLimit
tuple_refused xs h = grind (arith, nat_tests, count_of-terms_of xs)

pub ruleset made_terms = (lawful_made, deep_refused, tuple_refused)
