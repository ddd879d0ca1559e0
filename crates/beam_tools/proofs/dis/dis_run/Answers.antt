use Rattle.clap.specs.Walk.{texts}
use Rattle.beam_tools.specs.Dis.{Prints}
use Rattle.beam_tools.proofs.Left.{dis_same_above}
use Rattle.beam_tools.proofs.dis.dis_run.Goals as goal

pub returns-in-Err-clause-untouched : goal.returns-in-Err-clause-untouched
returns-in-Err-clause-untouched g c = λ above.
    dis_same_above g.O.Write.contents (Prints (g.F.Files.contents c.args.files.now) (texts c.args.words.now)) c.in-Err.fault c.args.output.now c.give.new.output
    c.report.result c.in-Err.ensures.left c.report.ensures.status above
