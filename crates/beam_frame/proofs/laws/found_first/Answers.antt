use Rattle.beam_frame.proofs.Streams.{frame_more, stream_none, stream_one, stream_fault}
use Rattle.beam_frame.proofs.laws.found_first.Goals as goal

pub returns-clause-stays : goal.returns-clause-stays
returns-clause-stays c = frame_more

pub returns-clause-none : goal.returns-clause-none
returns-clause-none c = stream_none

pub returns-clause-one : goal.returns-clause-one
returns-clause-one c = stream_one

pub returns-clause-fault : goal.returns-clause-fault
returns-clause-fault c = stream_fault
