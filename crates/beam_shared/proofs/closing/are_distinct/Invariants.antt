use Rattle.std.proofs.Common.{◌≡◌, ◌<◌, ℕ, Some, slice_get}
use Rattle.beam_receipts.specs.Receipts.{SeatHistory}
use Rattle.beam_receipts.specs.Refused.{AreFullAt, WereRefused}
use Rattle.beam_shared.proofs.Seating.{AreNoted}
use Rattle.beam_shared.proofs.closing.are_distinct.Given as goal

abbrev pub invariant-loop-at : goal.invariant-loop-at
invariant-loop-at g l = record {
  keeper : l.keeper ≡ l.fn.keeper;
  seats : l.seats.items ≡ l.fn.seats.items;
  refused : (i : ℕ) (s : SeatHistory) → i < l.at → slice_get l.fn.seats.items i ≡ Some s
      → WereRefused l.fn.keeper.journal l.fn.keeper.moves l.fn.keeper.drains s.number s.refused × AreFullAt g.B.NodeBrand.limit s.refused;
  noted : AreNoted l.fn.keeper.given l.fn.keeper.journal l.fn.seats.items l.seen l.at;
}
