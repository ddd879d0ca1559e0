use Rattle.beam_block_file.proofs.KnownFiles.{new_known}
use Rattle.beam_block_file.proofs.reader.BlockReader.new.Goals as goal

pub returns-clause-known : goal.returns-clause-known
returns-clause-known g c = new_known (g.S.Shelf.bytes c.args.shelf)
