use Rattle.std.proofs.Common.{subst}
use Rattle.beam_laws.specs.Prelude.{AreRising}
use Rattle.beam_laws.proofs.Orderly.{Orderly, pid_is, names_are_apart}
use Rattle.beam_state.specs.Prelude.{Parts}
use Rattle.beam_state.proofs.state.State.recall_invariant.Goals as goal

pub returns-clause-pids : goal.returns-clause-pids
returns-clause-pids c = λ n p there. pid_is c.args.self.now.processes n p (subst (λ (s : Parts). Orderly s.processes) c.self.view_is c.self.invariant.0) there

pub returns-clause-names : goal.returns-clause-names
returns-clause-names c = λ m n p q name there other this that.
    let o : Orderly c.args.self.now.processes = subst (λ (s : Parts). Orderly s.processes) c.self.view_is c.self.invariant.0 in
    names_are_apart c.args.self.now.processes m n p q name o there other this that

pub returns-clause-references : goal.returns-clause-references
returns-clause-references c = subst (λ (s : Parts). AreRising s.references s.processes) c.self.view_is c.self.invariant.1
