use Rattle.std.proofs.Common.{inr, refl}
use Rattle.std.proofs.lemmas.Result.{IfErr-weaker}
use Rattle.clap.specs.Walk.{texts}
use Rattle.beam_tools.specs.Assembler.{FaultSays}
use Rattle.beam_tools.specs.Prelude.{as_app, Contents, IsAnswer, LineFault}
use Rattle.beam_tools.specs.declared.program.Program.TheVariants.{Assembler}
use Rattle.beam_tools.proofs.Faults.{as_line_says}
use Rattle.beam_tools.proofs.Left.{left_by_name}
use Rattle.beam_tools.proofs.Stops.{done_more}
use Rattle.beam_tools.proofs.assembler.give.Goals as goal

pub returns-in-Ok-clause-left : goal.returns-in-Ok-clause-left
returns-in-Ok-clause-left g c =
    left_by_name g.O.Write.contents (IsAnswer Assembler as_app (texts c.args.words.now)) (g.F.Files.contents c.args.files.now) c.in-Ok.names.0.now c.in-Ok.names.1.now
    c.assemble_file.new.text.items c.assemble_file.result c.args.output.now c.assemble_file.ensures.fault

pub returns-in-Err-clause-done : goal.returns-in-Err-clause-done
returns-in-Err-clause-done g c =
    done_more c.answer.result _ _ (λ h. inr (refl, h)) (c.answer.ensures.shown as_app (texts c.args.words.now) c.in-Err.ensures.stop)

pub returns-in-Err-clause-fault : goal.returns-in-Err-clause-fault
returns-in-Err-clause-fault g c =
    let files : Contents = g.F.Files.contents c.args.files.now in
    let words = texts c.args.words.now in
    IfErr-weaker c.answer.result (LineFault as_app words) (FaultSays files words c.args.text.now.items)
    (λ f says. as_line_says files words c.args.text.now.items f says) (c.answer.ensures.fault as_app words c.in-Err.ensures.stop)
