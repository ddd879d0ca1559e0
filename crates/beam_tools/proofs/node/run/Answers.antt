use Rattle.std.proofs.lemmas.Result.{IfErr-weaker}
use Rattle.beam_tools.specs.Prelude.{Contents, OutcomeSays, RunSays, call_line}
use Rattle.beam_tools.proofs.Faults.{call_unprinted, outcome_runs}
use Rattle.beam_tools.proofs.node.run.Goals as goal

pub returns-after-verbose-clause-fault : goal.returns-after-verbose-clause-fault
returns-after-verbose-clause-fault g c =
    let files : Contents = g.F.Files.contents c.args.files.now in
    let line = call_line c.args.line.now in
    IfErr-weaker c.value_of.result (OutcomeSays c.in-Ok.outcome) (RunSays files line)
    (λ f says. outcome_runs files line c.in-Ok.outcome f c.in-Ok.ensures.comes says) c.value_of.ensures.fault

pub returns-in-Err-clause-unprinted : goal.returns-in-Err-clause-unprinted
returns-in-Err-clause-unprinted g c =
    call_unprinted (g.F.Files.contents c.args.files.now) (call_line c.args.line.now) c.in-Err.fault c.in-Err.ensures.fault
