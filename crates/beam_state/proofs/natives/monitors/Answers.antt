use Rattle.std.proofs.Common.{sym, subst}
use Rattle.beam_laws.specs.Prelude.{AreRising}
use Rattle.beam_state.proofs.Monitored.{are_below}
use Rattle.beam_state.proofs.natives.monitors.Goals as goal

pub keep-requires-clause-below : goal.keep-requires-clause-below
keep-requires-clause-below c = λ p e. are_below c.args.references.now c.known.new.self c.args.caller p (subst (AreRising c.args.references.now) (sym c.known.ensures) c.requires.rising) e
