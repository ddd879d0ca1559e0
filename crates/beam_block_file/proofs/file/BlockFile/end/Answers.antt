use Rattle.std.proofs.Common.{◌≡◌, IfSome, length, subst}
use Rattle.beam_blocks.specs.Blocks.{blocks_of}
use Rattle.beam_block_file.specs.StoredBlocks.{StoredBlocks}
use Rattle.beam_block_file.proofs.KnownFiles.{size_known}
use Rattle.beam_block_file.proofs.file.BlockFile.end.Goals as goal

pub returns-clause-size : goal.returns-clause-size
returns-clause-size g c =
    subst (λ (s : StoredBlocks). IfSome s.known (λ k. c.self.inside.end ≡ length (blocks_of k.contents))) c.self.view_is
    (size_known (g.S.Shelf.bytes c.self.inside.shelf) c.self.inside.end c.self.invariant.0)
