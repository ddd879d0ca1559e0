use Rattle.std.proofs.Common.{rules}
use Rattle.beam_mailbox.proofs.Chosen.{chosen_first}
use Rattle.beam_mailbox.proofs.chunk.Chunk.take_first.Goals as goal

pub returns-clause-all : goal.returns-clause-all
returns-clause-all c = chosen_first _ _ _ _ c.in_ok-left.ensures (search rules) (search rules)
