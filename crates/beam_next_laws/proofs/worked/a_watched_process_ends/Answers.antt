use Rattle.std.proofs.Common.{◌≡◌, Option, true, refl, [], is_some, unwrap_or}
use Rattle.beam_term.specs.Prelude.{nil_term}
use Rattle.beam_model.specs.NativeNames.{built_in_of}
use Rattle.beam_machine.specs.declared.event.Event.TheVariants.{Steps}
use Rattle.beam_machine.specs.Prelude.{Process, started, process_of, live_process, next, step_of, entry_of, callee_named}
use Rattle.beam_laws.specs.Story.{after}
use Rattle.beam_next_laws.specs.Worked.{watched}
use Rattle.beam_next_laws.proofs.Present.{present}
use Rattle.beam_next_laws.proofs.worked.a_watched_process_ends.Goals as goal

abbrev nobody : Process
nobody = started 0 [] [] []

abbrev first : Option Process
first = live_process (after watched).processes 2

abbrev then : Option Process
then = process_of (next (after watched) (Steps 2 100)).state.processes 2

lives : is_some first ≡ true
unfolding step_of entry_of callee_named built_in_of
lives = refl

is_there : is_some then ≡ true
unfolding step_of entry_of callee_named built_in_of
is_there = refl

pub returns-clause-ends : goal.returns-clause-ends
unfolding step_of entry_of callee_named built_in_of
returns-clause-ends c = (unwrap_or first nobody, unwrap_or then nobody, nil_term, present first nobody lives, present then nobody is_there, refl)
