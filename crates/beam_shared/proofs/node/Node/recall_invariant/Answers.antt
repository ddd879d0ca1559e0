use Rattle.std.proofs.Common.{subst}
use Rattle.beam_receipts.proofs.Counts.{counts}
use Rattle.beam_shared.specs.Prelude.{AreOfSeats}
use Rattle.beam_shared.proofs.node.Node.recall_invariant.Goals as goal

pub returns-clause-of_seats : goal.returns-clause-of_seats
returns-clause-of_seats g c = subst AreOfSeats c.self.view_is c.self.invariant.0.of_given

pub returns-clause-add_up : goal.returns-clause-add_up
returns-clause-add_up g c =
    let of_seats : AreOfSeats c.args.self.now = subst AreOfSeats c.self.view_is c.self.invariant.0.of_given in
    counts c.args.self.now.seats c.args.self.now.journal of_seats
