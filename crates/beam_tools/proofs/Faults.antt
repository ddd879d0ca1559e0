-- What each fault of a run implies for its command line and its call.
use Rattle.std.proofs.Common.{arith, subst, Some, ◌≡◌, ◌≢◌, ℕ, List}
use Rattle.clap.specs.Words.{Text}
use Rattle.beam_term.specs.Prelude.{TermValue}
use Rattle.beam_tools.specs.Assembler.{FaultSays as AsSays}
use Rattle.beam_tools.specs.Prelude.{as_app, HasExit, dis_app, status_of, Contents, LineFault, WrongSays, CallSays, EntrySays, OutcomeSays, RunSays, TellsNoEnd, CallLine, call, line_of, node_app, ComesTo, CallIsWrong}
use Rattle.beam_tools.specs.Dis.{FaultSays as DisSays}
use Rattle.beam_tools.specs.Node.{FaultSays}
use Rattle.beam_tools.specs.declared.fault.RunFault.{RunFault}
use Rattle.beam_tools.specs.declared.fault.RunFault.TheVariants.{Exit, File, NoMemory, Spent, Stuck, Unwritten, Wrong}
use Rattle.beam_tools.specs.declared.rounds.CallOutcome.{CallOutcome}
use Rattle.beam_tools.specs.declared.early_exit.Wrong.{Wrong as WrongLine}
use Rattle.beam_tools.specs.declared.early_exit.Wrong.TheVariants as wrong

-- ---- command lines that give nothing to do

pub as_line_says : (files : Contents) (words : List Text) (text : List ℕ) (f : RunFault) → LineFault as_app words f → AsSays files words text f
as_line_says files words text (Wrong w) h = h
as_line_says files words text NoMemory h = tt
as_line_says files words text Unwritten h = tt
as_line_says files words text (File f) h = absurd h
as_line_says files words text (Exit t) h = absurd h
as_line_says files words text Stuck h = absurd h
as_line_says files words text Spent h = absurd h

pub dis_line_says : (files : Contents) (words : List Text) (f : RunFault) → LineFault dis_app words f → DisSays files words f
dis_line_says files words (Wrong w) h = h
dis_line_says files words NoMemory h = tt
dis_line_says files words Unwritten h = tt
dis_line_says files words (File f) h = absurd h
dis_line_says files words (Exit text) h = absurd h
dis_line_says files words Stuck h = absurd h
dis_line_says files words Spent h = absurd h

pub node_line_says : (files : Contents) (words : List Text) (f : RunFault) → LineFault node_app words f → FaultSays files words f
node_line_says files words (Wrong w) h = h
node_line_says files words NoMemory h = tt
node_line_says files words Unwritten h = tt
node_line_says files words (File f) h = absurd h
node_line_says files words (Exit text) h = absurd h
node_line_says files words Stuck h = absurd h
node_line_says files words Spent h = absurd h

-- ---- a call

pub entry_says : (files : Contents) (line : CallLine) (f : RunFault) → EntrySays line f → CallSays files line f
entry_says files line (Wrong w) h = h
entry_says files line NoMemory h = tt
entry_says files line Unwritten h = absurd h
entry_says files line (File f) h = absurd h
entry_says files line (Exit text) h = absurd h
entry_says files line Stuck h = absurd h
entry_says files line Spent h = absurd h

pub call_runs : (files : Contents) (line : CallLine) (f : RunFault) → CallSays files line f → RunSays files line f
call_runs files line (Wrong w) h = h
call_runs files line (File f) h = h
call_runs files line NoMemory h = tt
call_runs files line Unwritten h = absurd h
call_runs files line (Exit text) h = absurd h
call_runs files line Stuck h = absurd h
call_runs files line Spent h = absurd h

pub outcome_runs : (files : Contents) (line : CallLine) (o : CallOutcome) (f : RunFault) → ComesTo files line o → OutcomeSays o f → RunSays files line f
outcome_runs files line o (Exit text) comes h = (h.0, h.1, h.2, subst (ComesTo files line) h.3 comes, h.4)
outcome_runs files line o Stuck comes h = subst (ComesTo files line) h comes
outcome_runs files line o Spent comes h = subst (ComesTo files line) h comes
outcome_runs files line o (Wrong w) comes h = absurd h
outcome_runs files line o (File f) comes h = absurd h
outcome_runs files line o NoMemory comes h = tt
outcome_runs files line o Unwritten comes h = absurd h

pub no_end_runs : (files : Contents) (line : CallLine) (f : RunFault) → TellsNoEnd f → RunSays files line f
no_end_runs files line (Exit text) h = absurd h
no_end_runs files line Stuck h = absurd h
no_end_runs files line Spent h = absurd h
no_end_runs files line (Wrong w) h = absurd h
no_end_runs files line (File f) h = absurd h
no_end_runs files line NoMemory h = tt
no_end_runs files line Unwritten h = tt

-- a fault that comes before the value is printed isn't a failed write
pub call_unprinted : (files : Contents) (line : CallLine) (f : RunFault) → CallSays files line f → f ≢ Unwritten
call_unprinted files line (Exit text) h = λ e. cc
call_unprinted files line Stuck h = λ e. cc
call_unprinted files line Spent h = λ e. cc
call_unprinted files line (Wrong w) h = λ e. cc
call_unprinted files line (File f) h = λ e. cc
call_unprinted files line NoMemory h = λ e. cc
call_unprinted files line Unwritten h = absurd h

wrong_call : (words : List Text) (line : CallLine) (w : WrongLine) → line_of words ≡ Some (call line) → CallIsWrong line w → WrongSays node_app words w
wrong_call words line (wrong.Words text) is h = absurd h
wrong_call words line wrong.NoText is h = absurd h
wrong_call words line wrong.NoCommand is h = absurd h
wrong_call words line wrong.NoFile is h = absurd h
wrong_call words line (wrong.Same name) is h = absurd h
wrong_call words line (wrong.LongModule name) is h = (line, is, h)
wrong_call words line (wrong.LongFunction name) is h = (line, is, h)
wrong_call words line (wrong.NoList text) is h = (line, is, h)
wrong_call words line (wrong.NoLevel text) is h = absurd h
wrong_call words line (wrong.NoStart text) is h = absurd h
wrong_call words line (wrong.NoSync text) is h = absurd h
wrong_call words line wrong.StopsWithJournal is h = absurd h
wrong_call words line (wrong.NoMode text) is h = absurd h
wrong_call words line (wrong.LongSocket path) is h = absurd h
wrong_call words line wrong.NoAddress is h = absurd h
wrong_call words line wrong.TokenAlone is h = absurd h
wrong_call words line (wrong.NoRange text) is h = absurd h
wrong_call words line wrong.PipesAndPrints is h = absurd h

-- a fault that holds of the call of a run holds of the words that ask for that call
pub run_says : (files : Contents) (words : List Text) (line : CallLine) (f : RunFault) → line_of words ≡ Some (call line)
    → RunSays files line f → FaultSays files words f
run_says files words line (Wrong w) is h = wrong_call words line w is h
run_says files words line (File f) is h = (line, is, h)
run_says files words line (Exit text) is h = (h.0, (h.2, (h.1, (line, is, h.3))), h.4)
run_says files words line Stuck is h = (line, is, h)
run_says files words line Spent is h = (line, is, h)
run_says files words line NoMemory is h = tt
run_says files words line Unwritten is h = tt

-- ---- statuses

-- status 3 stands for an exit of process 1 alone
pub exit_said : (files : Contents) (words : List Text) (f : RunFault) (status : ℕ) → FaultSays files words f → status ≡ status_of f → status ≡ 3
    → (reason : TermValue) × HasExit files words reason
exit_said files words (Exit text) status h e three = (h.0, h.1)
exit_said files words Stuck status h e three = absurd (omega arith)
exit_said files words Spent status h e three = absurd (omega arith)
exit_said files words (Wrong w) status h e three = absurd (omega arith)
exit_said files words (File f) status h e three = absurd (omega arith)
exit_said files words NoMemory status h e three = absurd (omega arith)
exit_said files words Unwritten status h e three = absurd (omega arith)
