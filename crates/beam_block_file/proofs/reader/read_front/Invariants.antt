use Rattle.std.proofs.Common.{◌≡◌, ◌+◌, ◌-◌, ◌<◌, ◌^◌, IfSome, length}
use Rattle.beam_block_file.specs.Shelves.{StandAt}
use Rattle.beam_block_file.proofs.reader.read_front.Given as goal

abbrev pub invariant-loop-front : goal.invariant-loop-front
invariant-loop-front g l = record {
  stands : IfSome (g.S.Shelf.bytes l.fn.shelf) (StandAt l.fn.at l.pending.items);
  place : l.fn.at + length l.pending.items < 2 ^ 64;
  same : g.S.Shelf.bytes l.shelf ≡ g.S.Shelf.bytes l.fn.shelf;
  failed : g.S.Shelf.failed l.shelf ≡ g.S.Shelf.failed l.fn.shelf;
}

abbrev pub decreases-loop-front : goal.decreases-loop-front
decreases-loop-front g l = 2 ^ 33 - length l.pending.items
