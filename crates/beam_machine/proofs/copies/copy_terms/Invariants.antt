use Rattle.std.proofs.Common.{◌≡◌, ◌++◌, drop}
use Rattle.beam_machine.proofs.copies.copy_terms.Given as goal

abbrev pub invariant-loop-term : goal.invariant-loop-term
invariant-loop-term l = l.copies.items ++ drop l.term-index l.terms ≡ l.terms
