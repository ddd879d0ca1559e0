use Rattle.std.proofs.Common.{◌∙◌, ap, option_map}
use Rattle.beam_block_file.specs.StoredBlocks.{StoredBlocks, all_bytes}
use Rattle.beam_block_file.proofs.KnownFiles.{all_known}
use Rattle.beam_block_file.proofs.file.BlockFile.into_shelf.Goals as goal

pub returns-clause-bytes : goal.returns-clause-bytes
returns-clause-bytes g c =
    all_known (g.S.Shelf.bytes c.self.inside.shelf) c.self.inside.end c.self.invariant.0 ∙ ap (λ (s : StoredBlocks). option_map all_bytes s.known) c.self.view_is
