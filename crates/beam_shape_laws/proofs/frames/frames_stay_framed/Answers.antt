use Rattle.beam_shape_laws.proofs.Nodes.{next_framed, reached_framed, answered_framed, debug_framed, debug_answered_framed}
use Rattle.beam_shape_laws.proofs.frames.frames_stay_framed.Goals as goal

pub returns-clause-event : goal.returns-clause-event
returns-clause-event c = next_framed

pub returns-clause-events : goal.returns-clause-events
returns-clause-events c = reached_framed

pub returns-clause-debugger : goal.returns-clause-debugger
returns-clause-debugger c = debug_framed

pub returns-clause-answered : goal.returns-clause-answered
returns-clause-answered c = answered_framed

pub returns-clause-debugger_answered : goal.returns-clause-debugger_answered
returns-clause-debugger_answered c = debug_answered_framed
