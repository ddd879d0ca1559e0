use Rattle.beam_laws.proofs.Purging.{purge_ends, purge_spares, purge_idle, purge_count}
use Rattle.beam_laws.proofs.purges.purge_ends_what_lingers.Goals as goal

pub returns-clause-ends : goal.returns-clause-ends
returns-clause-ends c = purge_ends

pub returns-clause-spares : goal.returns-clause-spares
returns-clause-spares c = purge_spares

pub returns-clause-idle : goal.returns-clause-idle
returns-clause-idle c = purge_idle

pub returns-clause-count : goal.returns-clause-count
returns-clause-count c = purge_count
