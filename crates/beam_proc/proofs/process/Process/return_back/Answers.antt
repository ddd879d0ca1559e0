use Rattle.std.proofs.Common.{None, rules}
use Rattle.beam_lemmas.proofs.AnyError.{on_err}
use Rattle.beam_proc.proofs.Loud.{returns_loud}
use Rattle.beam_proc.proofs.process.Process.return_back.Goals as goal

pub returns-in-None-clause-loud : goal.returns-in-None-clause-loud
returns-in-None-clause-loud c = on_err c.illegal.result _ (returns_loud (record c.args.self.now { pending = None }) c.args.self.now.frames (search rules))
