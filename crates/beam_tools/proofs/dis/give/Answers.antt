use Rattle.std.proofs.Common.{inl, inr}
use Rattle.std.proofs.lemmas.Result.{IfErr-weaker}
use Rattle.clap.specs.Walk.{texts}
use Rattle.beam_tools.specs.Dis.{FaultSays, Prints}
use Rattle.beam_tools.specs.Prelude.{IsListingTextOf, dis_app, Contents, IsAnswer, LineFault}
use Rattle.beam_tools.specs.declared.program.Program.TheVariants.{Disassembler}
use Rattle.beam_tools.proofs.Faults.{dis_line_says}
use Rattle.beam_tools.proofs.Left.{dis_left_more, dis_line_left}
use Rattle.beam_tools.proofs.Stops.{done_more}
use Rattle.beam_tools.proofs.dis.give.Goals as goal

pub returns-in-Ok-clause-done : goal.returns-in-Ok-clause-done
returns-in-Ok-clause-done g c =
    done_more c.print_file.result _ _ (λ h. (h.0, inl (c.in-Ok.name.now, c.in-Ok.ensures.told, h.1), h.2)) c.print_file.ensures.printed

pub returns-in-Ok-clause-left : goal.returns-in-Ok-clause-left
returns-in-Ok-clause-left g c =
    let files : Contents = g.F.Files.contents c.args.files.now in
    let words = texts c.args.words.now in
    dis_left_more g.O.Write.contents (IsListingTextOf files c.in-Ok.name.now) (Prints files words) c.print_file.result c.args.output.now c.print_file.new.output
    (λ t h. inl (c.in-Ok.name.now, c.in-Ok.ensures.told, h)) c.print_file.ensures.left

pub returns-in-Err-clause-done : goal.returns-in-Err-clause-done
returns-in-Err-clause-done g c =
    done_more c.answer.result _ _ (λ h. (h.0, inr h.1, h.2)) (c.answer.ensures.shown dis_app (texts c.args.words.now) c.in-Err.ensures.stop)

pub returns-in-Err-clause-fault : goal.returns-in-Err-clause-fault
returns-in-Err-clause-fault g c =
    let files : Contents = g.F.Files.contents c.args.files.now in
    let words = texts c.args.words.now in
    IfErr-weaker c.answer.result (LineFault dis_app words) (FaultSays files words) (λ f says. dis_line_says files words f says)
    (c.answer.ensures.fault dis_app words c.in-Err.ensures.stop)

pub returns-in-Err-clause-left : goal.returns-in-Err-clause-left
returns-in-Err-clause-left g c =
    let files : Contents = g.F.Files.contents c.args.files.now in
    let words = texts c.args.words.now in
    dis_line_left g.O.Write.contents dis_app words (IsAnswer Disassembler dis_app words) (Prints files words) c.answer.result c.args.output.now
    c.answer.new.output (λ t h. inr h) (c.answer.ensures.fault dis_app words c.in-Err.ensures.stop) (c.answer.ensures.left dis_app words c.in-Err.ensures.stop)
