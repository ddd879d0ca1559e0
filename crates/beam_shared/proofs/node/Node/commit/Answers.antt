use Rattle.std.proofs.Common.{ap, ◌∙◌, slice_get}
use Rattle.beam_step.specs.Slices.{Slice}
use Rattle.beam_shared.specs.Prelude.{finished_slice, Node}
use Rattle.beam_shared.proofs.CommittedRows.{comes_of_slice}
use Rattle.beam_shared.proofs.node.Node.commit.Goals as goal

pub end_checkout-requires-clause-back : goal.end_checkout-requires-clause-back
end_checkout-requires-clause-back g c =
    let f = c.finished.inside in
    let redeem = c.redeem-serial in
    let comes = comes_of_slice (finished_slice f.ticket f.slice) c.finished.invariant.2 in
    record {
      origin = f.ticket.origin;
      handed = ap (λ (n : Node). slice_get n.handed redeem.result) redeem.ensures.same ∙ (ap (slice_get c.args.self.now.handed) redeem.ensures.serial ∙ redeem.ensures.redeem);
      own = c.finished.invariant.0;
      over = c.finished.invariant.1;
      limit = comes.0;
      few = comes.1;
      done = ap (λ (s : Slice). s.rows) c.slice.view_is ∙ comes.2;
    }
