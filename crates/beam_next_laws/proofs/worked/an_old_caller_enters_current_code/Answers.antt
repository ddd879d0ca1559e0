use Rattle.std.proofs.Common.{◌≡◌, Option, true, refl, [], is_some, unwrap_or}
use Rattle.beam_model.specs.NativeNames.{built_in_of}
use Rattle.beam_model.specs.Prelude.{Place}
use Rattle.beam_machine.specs.declared.action.Action.TheVariants.{Control}
use Rattle.beam_machine.specs.declared.action.Control.TheVariants.{Return}
use Rattle.beam_machine.specs.declared.action.Step.{Step}
use Rattle.beam_machine.specs.Prelude.{Process, started, process_of, step_of, entry_of, callee_named}
use Rattle.beam_laws.specs.Listings.{h}
use Rattle.beam_laws.specs.Story.{after}
use Rattle.beam_next_laws.specs.Worked.{in_old_code}
use Rattle.beam_next_laws.proofs.Present.{present}
use Rattle.beam_next_laws.proofs.worked.an_old_caller_enters_current_code.Goals as goal

abbrev nobody : Process
nobody = started 0 [] [] []

abbrev caller : Option Process
caller = process_of (after in_old_code).processes 1

abbrev here : Place
here = record { instance = 1; at = 4 }

abbrev no_step : Step
no_step = record { action = Control Return; next = 0 }

abbrev call : Option Step
call = step_of (after in_old_code).code here

is_there : is_some caller ≡ true
unfolding step_of entry_of callee_named built_in_of
is_there = refl

is_row : is_some call ≡ true
unfolding step_of entry_of callee_named built_in_of
is_row = refl

pub returns-clause-stands : goal.returns-clause-stands
unfolding step_of entry_of callee_named built_in_of
returns-clause-stands c = (
  unwrap_or caller nobody,
  record { instance = 1; at = (unwrap_or call no_step).next },
  present caller nobody is_there,
  (here, unwrap_or call no_step, refl, present call no_step is_row, refl, refl),
  refl,
)

pub returns-clause-entry : goal.returns-clause-entry
unfolding step_of entry_of callee_named built_in_of
returns-clause-entry c = (record { instance = 2; at = 11 }, (record { number = 2; listing = h 2 }, refl, refl, refl), refl)
