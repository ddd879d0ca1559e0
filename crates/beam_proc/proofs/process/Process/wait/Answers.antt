use Rattle.std.proofs.Common.{None, rules}
use Rattle.beam_lemmas.proofs.AnyError.{on_err}
use Rattle.beam_proc.proofs.Loud.{waits_loud}
use Rattle.beam_proc.proofs.process.Process.wait.Goals as goal

pub returns-in-None-clause-loud : goal.returns-in-None-clause-loud
returns-in-None-clause-loud c = on_err c.illegal.result _ (waits_loud (record c.args.self.now { pending = None }) c.args.instance c.args.target (search rules))
