use Rattle.std.proofs.Common.{◌∙◌, IfSome, ap, option_map, subst}
use Rattle.beam_blocks.specs.Blocks.{AreShort}
use Rattle.beam_block_file.specs.StoredBlocks.{StoredBlocks, all_bytes}
use Rattle.beam_block_file.proofs.KnownFiles.{all_known, short_known}
use Rattle.beam_block_file.proofs.file.BlockFile.shelf.Goals as goal

pub returns-clause-bytes : goal.returns-clause-bytes
returns-clause-bytes g c =
    all_known (g.S.Shelf.bytes c.self.inside.shelf) c.self.inside.end c.self.invariant.0 ∙ ap (λ (s : StoredBlocks). option_map all_bytes s.known) c.self.view_is

pub returns-clause-short : goal.returns-clause-short
returns-clause-short g c =
    subst (λ (s : StoredBlocks). IfSome s.known (λ k. AreShort k.contents)) c.self.view_is
    (short_known (g.S.Shelf.bytes c.self.inside.shelf) c.self.inside.end c.self.invariant.0)
