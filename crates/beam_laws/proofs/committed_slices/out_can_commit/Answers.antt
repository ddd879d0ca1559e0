use Rattle.beam_laws.proofs.CanCommit.{can_commit}
use Rattle.beam_laws.proofs.committed_slices.out_can_commit.Goals as goal

pub returns : goal.returns
returns c = can_commit
