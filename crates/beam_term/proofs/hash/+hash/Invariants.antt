use Rattle.std.proofs.Common.{◌≡◌, ◌≤◌, drop, fold}
use Rattle.std.specs.Hash.DefaultHasher as sip
use Rattle.beam_term.specs.Prelude.{terms_of, depth_of, term_fed, terms_fed}
use Rattle.beam_term.proofs.hash.+hash.Given as goal

-- the hash so far, fed with the rest, is that of the whole
abbrev pub invariant-hash_term-loop-head : goal.invariant-hash_term-loop-head
invariant-hash_term-loop-head l = (fold sip.write l.state (term_fed l.rest) ≡ fold sip.write l.fn.state (term_fed l.fn.term)) × (depth_of l.rest ≤ depth_of l.fn.term)

abbrev pub invariant-hash_items-loop-item : goal.invariant-hash_items-loop-item
invariant-hash_items-loop-item l = fold sip.write l.state (terms_fed (terms_of (drop l.item-index l.items))) ≡ fold sip.write l.fn.state (terms_fed (terms_of l.items))
