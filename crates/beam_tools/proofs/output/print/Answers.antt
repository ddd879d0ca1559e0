use Rattle.beam_lemmas.proofs.AnyError.{on_err}
use Rattle.beam_tools.proofs.Left.{flushed}
use Rattle.beam_tools.proofs.output.print.Goals as goal

pub returns-clause-begun : goal.returns-clause-begun
returns-clause-begun g c = on_err c.flush.result _ (flushed _ _ _ c.args.text.now c.in-Ok.ensures.written c.flush.ensures.kept)
