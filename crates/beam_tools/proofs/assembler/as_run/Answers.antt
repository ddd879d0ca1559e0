use Rattle.std.proofs.Common.{subst, List, ℕ}
use Rattle.clap.specs.Walk.{texts}
use Rattle.beam_tools.specs.Prelude.{IsReportedBeside, as_app, IsAnswer}
use Rattle.beam_tools.specs.declared.program.Program.TheVariants.{Assembler}
use Rattle.beam_tools.proofs.Left.{same_above}
use Rattle.beam_tools.proofs.assembler.as_run.Goals as goal

pub returns-clause-fault : goal.returns-clause-fault
returns-clause-fault g c = λ failed.
    let P : List ℕ → Type 0 =
    λ text. IsReportedBeside (texts c.args.words.now) text c.in-Err.fault (g.E.Errors.told c.args.errors.now) (g.E.Errors.told c.report_beside.new.errors) in
    (c.in-Err.fault, c.give.new.text.items, c.report_beside.ensures.status, c.in-Err.ensures.fault, subst P c.deref.ensures.value c.report_beside.ensures.told, c.in-Err.ensures.left)

pub returns-clause-untouched : goal.returns-clause-untouched
returns-clause-untouched g c = λ above.
    same_above g.O.Write.contents (IsAnswer Assembler as_app (texts c.args.words.now)) c.in-Err.fault c.args.output.now c.give.new.output
    c.report_beside.result c.in-Err.ensures.left c.report_beside.ensures.status above
