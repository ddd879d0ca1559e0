use Rattle.beam_blocks.proofs.Stands.{block_stands}
use Rattle.beam_blocks.proofs.laws.read_stands.Goals as goal

pub returns-clause-one : goal.returns-clause-one
returns-clause-one c = block_stands
