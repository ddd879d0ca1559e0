use Rattle.std.proofs.Common.{subst}
use Rattle.beam_shape_laws.specs.Shaped.{IsFramedNode}
use Rattle.beam_core.proofs.node.Core.recall_invariant.Goals as goal

pub returns-clause-framed : goal.returns-clause-framed
returns-clause-framed c = subst IsFramedNode c.self.view_is c.self.invariant.2
