use Rattle.beam_laws.proofs.Debugging.{run_erased}
use Rattle.beam_laws.proofs.debugger.debugger_changes_nothing_else.Goals as goal

pub returns : goal.returns
returns c = run_erased
