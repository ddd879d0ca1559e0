use Rattle.beam_laws.proofs.Private.{rows_unread}
use Rattle.beam_laws.proofs.isolation.private_rows_read_the_process_alone.Goals as goal

pub returns : goal.returns
returns c = rows_unread
