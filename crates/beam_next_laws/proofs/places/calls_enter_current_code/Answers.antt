use Rattle.beam_next_laws.proofs.Entering.{call_enters, only_enters, last_enters, apply_enters, apply_last_enters, first_enters, none_raises, one_row}
use Rattle.beam_next_laws.proofs.places.calls_enter_current_code.Goals as goal

pub returns-clause-call : goal.returns-clause-call
returns-clause-call c = call_enters

pub returns-clause-only : goal.returns-clause-only
returns-clause-only c = only_enters

pub returns-clause-last : goal.returns-clause-last
returns-clause-last c = last_enters

pub returns-clause-apply : goal.returns-clause-apply
returns-clause-apply c = apply_enters

pub returns-clause-apply_last : goal.returns-clause-apply_last
returns-clause-apply_last c = apply_last_enters

pub returns-clause-first : goal.returns-clause-first
returns-clause-first c = first_enters

pub returns-clause-none : goal.returns-clause-none
returns-clause-none c = none_raises

pub returns-clause-event : goal.returns-clause-event
returns-clause-event c = one_row
