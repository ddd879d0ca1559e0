use Rattle.std.proofs.Common.{[], ◌∷◌, ◌++◌, refl, sym, ap, subst, ◌∙◌}
use Rattle.beam_receipts.specs.Receipts.{History, moved_in}
use Rattle.beam_shared.specs.Prelude.{AreThoseOut, HasCapacityFor, NodeInvariant, node_of, checked_in}
use Rattle.beam_shared.proofs.Drains.{drained_as}
use Rattle.beam_shared.proofs.Returning.{kept_without, taken}
use Rattle.beam_shared.proofs.ThoseOut.{those_in}
use Rattle.beam_shared.proofs.Capacities.{capacity_without}
use Rattle.beam_shared.proofs.node.Node.check_in.Goals as goal

pub invariant_of-self : goal.invariant_of-self
invariant_of-self g c =
    let i = c.self.inside in (
      subst (λ checked_out. NodeInvariant i.debugger.state i.journal c.check_in.new.keeper checked_out i.changes i.context) (sym c.check_in.ensures.checked_out)
          (kept_without i.debugger.state i.journal i.keeper c.check_in.new.keeper i.checked_out.items i.changes i.context c.args.pid c.self.invariant.0 c.check_in.ensures.keeper),
      subst (λ checked_out. HasCapacityFor i.debugger checked_out) (sym c.check_in.ensures.checked_out) (capacity_without i.debugger c.args.pid i.checked_out.items c.self.invariant.1),
      c.self.invariant.2,
      subst (λ moves. AreThoseOut moves c.check_in.new.checked_out.items) (sym (ap (λ (k : History). k.moves) c.check_in.ensures.keeper))
          (subst (AreThoseOut (i.keeper.moves ++ moved_in c.args.pid ∷ [])) (sym c.check_in.ensures.checked_out) (those_in i.keeper.moves c.args.pid i.checked_out.items c.self.invariant.3)),
      drained_as i.keeper.drains c.check_in.new.keeper.drains i.journal i.journal c.self.invariant.4 (ap (λ (k : History). k.drains) c.check_in.ensures.keeper) refl refl,
    )

pub returns : goal.returns
returns g c =
    let i = c.self.inside in
    ap (node_of i.debugger.state i.journal c.check_in.new.keeper) c.check_in.ensures.checked_out
    ∙ (taken i.debugger.state i.debugger.state i.journal i.keeper c.check_in.new.keeper i.checked_out.items c.args.pid refl c.check_in.ensures.keeper
    ∙ ap (λ n. checked_in n c.args.pid) c.self.view_is)
