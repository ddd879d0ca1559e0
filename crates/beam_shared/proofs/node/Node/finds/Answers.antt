use Rattle.std.proofs.Common.{◌≡◌, Some, sym, subst}
use Rattle.beam_machine.specs.Prelude.{live_process}
use Rattle.beam_laws.specs.Prelude.{Origin}
use Rattle.beam_shape_laws.specs.Shaped.{IsFramedNode}
use Rattle.beam_shared.specs.Prelude.{origin_by, origin, origin_in}
use Rattle.beam_shared.proofs.HandedOut.{origin_finds}
use Rattle.beam_shared.proofs.node.Node.finds.Goals as goal

pub returns : goal.returns
returns g c =
    let d = c.self.inside.debugger.state in
    let pid = c.args.pid in
    let o : Origin = origin_by pid c.args.work.now c.args.context.now in
    let is : origin_in d pid (live_process d.node.processes pid) ≡ Some o = subst (λ n. origin n pid ≡ Some o) (sym c.self.view_is) c.requires in
    origin_finds d pid o is (subst IsFramedNode c.core.ensures c.recall_invariant.ensures.framed)
