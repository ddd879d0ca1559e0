use Rattle.std.proofs.Common.{◌∙◌, ap, option_map}
use Rattle.beam_block_file.specs.StoredBlocks.{BlocksRead, all_bytes}
use Rattle.beam_block_file.proofs.KnownFiles.{all_known}
use Rattle.beam_block_file.proofs.reader.BlockReader.into_shelf.Goals as goal

pub returns-clause-bytes : goal.returns-clause-bytes
returns-clause-bytes g c =
    all_known (g.S.Shelf.bytes c.self.inside.shelf) c.self.inside.at c.self.invariant.3 ∙ ap (λ (s : BlocksRead). option_map all_bytes s.known) c.self.view_is
