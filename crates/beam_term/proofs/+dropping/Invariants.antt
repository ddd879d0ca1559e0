use Rattle.std.proofs.Common.{◌≤◌}
use Rattle.beam_term.specs.declared.term.Term.TheDeep.{size-Node}
use Rattle.beam_term.proofs.+dropping.Given as goal

abbrev pub invariant-term::Node::drop-loop-self : goal.invariant-term::Node::drop-loop-self
invariant-term::Node::drop-loop-self l = size-Node l.self ≤ size-Node l.fn.self
