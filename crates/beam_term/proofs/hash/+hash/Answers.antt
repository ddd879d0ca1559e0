use Rattle.std.proofs.Common.{◌++◌, ℕ, ap, sym, ◌∙◌, arith, fold}
use Rattle.std.specs.Hash as fed
use Rattle.std.specs.Hash.DefaultHasher as sip
use Rattle.beam_term.specs.Prelude.{TermValue, terms_of, depth_of, most_size-le, count_of-terms_of, term_fed, terms_fed}
use Rattle.beam_term.proofs.hash.+hash.Goals as goal

pub hash_term-hash_items-requires : goal.hash_term-hash_items-requires
hash_term-hash_items-requires t c =
    (omega (arith, most_size-le c.in-Some-as_tuple.items.now, ap depth_of c.in-Some-as_tuple.ensures, c.loop-head.invariant.1, c.decreases), tt)

pub hash_term-returns-in-Some-as_tuple : goal.hash_term-returns-in-Some-as_tuple
hash_term-returns-in-Some-as_tuple t c =
    let xs = c.in-Some-as_tuple.items.now in
    c.hash_items.ensures
    ∙ ap (λ s. fold sip.write s (terms_fed (terms_of xs))) c.hash_size.ensures
    ∙ ap (λ (n : ℕ). fold sip.write c.loop-head.state ((fed.u8 4 ++ fed.usize n) ++ terms_fed (terms_of xs))) (sym (count_of-terms_of xs))
    ∙ ap (λ (u : TermValue). fold sip.write c.loop-head.state (term_fed u)) (sym c.in-Some-as_tuple.ensures)
    ∙ c.loop-head.invariant.0
