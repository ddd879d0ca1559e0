use Rattle.std.proofs.Common.{◌≡◌, take, map}
use Rattle.beam_term.specs.Prelude.{atom_term}
use Rattle.beam_code.proofs.share.atom_terms.Given as goal

abbrev pub invariant-loop-atom : goal.invariant-loop-atom
invariant-loop-atom l = l.terms.items ≡ map (λ text. atom_term text) (take l.atom-index l.atoms)
