-- The definitions of this crate that specs and proofs above cite, passed on from one place. Declares nothing.
pub use Rattle.beam_term.specs.Atom.{IsAtomText}
pub use Rattle.beam_term.specs.CodePointOrder.{by_code_points}
pub use Rattle.beam_term.specs.CodePoints.{texts_by_chars}
pub use Rattle.beam_term.specs.Depth.{list_before-append}
pub use Rattle.beam_term.specs.Elements.{AreInRange-push, count_of-terms_of, elements_of-terms_of, items_depth-push, terms_of-elements_of}
pub use Rattle.beam_term.specs.Hashed.{term_fed, terms_fed}
pub use Rattle.beam_term.specs.Order.{rank_of, term_cmp, term_eq, terms_cmp}
pub use Rattle.beam_term.specs.OrderLaws.{nat_same, sizes_cmp, term_eq_decides, term_eq_equiv, tuples_cmp}
pub use Rattle.beam_term.specs.Reference.{AreReferenceWords}
pub use Rattle.beam_term.specs.TermFalls.{most_size-le}
pub use Rattle.beam_term.specs.TermValue.{AreInRange, IsInRange, IsSmall, IsTerm, TermValue, Terms, atom_term, count_of, depth_of, elements_of, int_term, items_depth, list_before, list_of, more_terms, nil_term, no_terms, pair_term, pid_term, reference_term, terms_of, tuple_of, tuple_term}
pub use Rattle.beam_term.specs.TermView.{shown}
