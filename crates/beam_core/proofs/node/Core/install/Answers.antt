use Rattle.std.proofs.Common.{sym, subst, IfOk}
use Rattle.beam_machine.specs.declared.event.Event.TheVariants.{Steps}
use Rattle.beam_machine.specs.Prelude.{AreHome, State}
use Rattle.beam_laws.proofs.Homes.{next_home}
use Rattle.beam_laws.proofs.Numbering.{Ordered, ordered_next}
use Rattle.beam_shape_laws.specs.Shaped.{IsFramedNode}
use Rattle.beam_shape_laws.proofs.Nodes.{next_framed}
use Rattle.beam_state.specs.Prelude.{node}
use Rattle.beam_core.specs.Installing.{AreRowsOf, Installed}
use Rattle.beam_core.proofs.Effects.{install_keeps}
use Rattle.beam_core.proofs.node.Core.install.Goals as goal

pub invariant_of-self : goal.invariant_of-self
invariant_of-self c =
    let old = c.self.inside.state in
    let new = c.install.new.state in
    let rows = subst (λ (s : State). AreRowsOf s c.args.pid c.args.rows) (sym c.self.view_is) c.requires in (
      install_keeps (λ s. AreHome s.code s.processes) (λ s pid n. next_home s (Steps pid n)) c.self.inside.code old new c.args.pid c.args.rows rows c.install.result c.install.ensures.ok c.install.ensures.err c.self.invariant.0,
      install_keeps (λ s. Ordered s.code s.instances) (λ s pid n. ordered_next s (Steps pid n)) c.self.inside.code old new c.args.pid c.args.rows rows c.install.result c.install.ensures.ok c.install.ensures.err c.self.invariant.1,
      install_keeps IsFramedNode (λ s pid n. next_framed s (Steps pid n) tt) c.self.inside.code old new c.args.pid c.args.rows rows c.install.result c.install.ensures.ok c.install.ensures.err c.self.invariant.2,
    )

pub returns-clause-ok : goal.returns-clause-ok
returns-clause-ok c =
    subst (λ (s : State). IfOk c.install.result (λ after. Installed s c.args.pid c.args.rows after (node c.self.inside.code c.install.new.state))) c.self.view_is c.install.ensures.ok
