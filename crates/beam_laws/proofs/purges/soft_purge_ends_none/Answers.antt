use Rattle.beam_laws.proofs.Purging.{soft_keeps, soft_removes}
use Rattle.beam_laws.proofs.purges.soft_purge_ends_none.Goals as goal

pub returns-clause-kept : goal.returns-clause-kept
returns-clause-kept c = soft_keeps

pub returns-clause-removed : goal.returns-clause-removed
returns-clause-removed c = soft_removes
