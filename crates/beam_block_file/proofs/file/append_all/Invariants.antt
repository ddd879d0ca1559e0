use Rattle.std.proofs.Common.{◌≡◌, List, ℕ, ◌++◌, length}
use Rattle.beam_block_file.specs.Shelves.{appended}
use Rattle.beam_block_file.proofs.file.append_all.Given as goal

abbrev pub invariant-loop-rest : goal.invariant-loop-rest
invariant-loop-rest g l = record {
  begun : (begun : List ℕ) × (begun ++ l.rest ≡ l.fn.bytes) × (g.S.Shelf.bytes l.shelf ≡ appended (g.S.Shelf.bytes l.fn.shelf) begun);
  failed : g.S.Shelf.failed l.shelf ≡ g.S.Shelf.failed l.fn.shelf;
}

abbrev pub decreases-loop-rest : goal.decreases-loop-rest
decreases-loop-rest g l = length l.rest
