use Rattle.beam_laws.proofs.Spots.{spot_later, spot_keeps, spot_pid, spot_cut, spot_none}
use Rattle.beam_laws.proofs.committed_slices.rows_to_a_spot.Goals as goal

pub returns-clause-later : goal.returns-clause-later
returns-clause-later c = spot_later

pub returns-clause-given : goal.returns-clause-given
returns-clause-given c = spot_keeps

pub returns-clause-pid : goal.returns-clause-pid
returns-clause-pid c = spot_pid

pub returns-clause-cut : goal.returns-clause-cut
returns-clause-cut c = spot_cut

pub returns-clause-none : goal.returns-clause-none
returns-clause-none c = spot_none
