use Rattle.std.proofs.Common.{◌∙◌}
use Rattle.beam_block_file.proofs.KnownFiles.{empty_known}
use Rattle.beam_block_file.proofs.file.BlockFile.create.Goals as goal

pub returns-clause-known : goal.returns-clause-known
returns-clause-known g c = c.in_ok-put.ensures.put ∙ empty_known (g.S.Shelf.bytes c.args.shelf) c.args.head.now c.requires.empty
