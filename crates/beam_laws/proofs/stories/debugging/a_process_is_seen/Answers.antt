use Rattle.std.proofs.Common.{refl}
use Rattle.std.specs.Fmt.{digits}
use Rattle.beam_model.specs.Prelude.{built_in_of, is_reserved}
use Rattle.beam_machine.specs.Prelude.{step_of, entry_of, callee_named}
use Rattle.beam_laws.proofs.stories.debugging.a_process_is_seen.Goals as goal

pub returns-clause-running : goal.returns-clause-running
unfolding step_of entry_of callee_named built_in_of digits is_reserved
returns-clause-running c = refl

pub returns-clause-held : goal.returns-clause-held
unfolding step_of entry_of callee_named built_in_of digits is_reserved
returns-clause-held c = refl
