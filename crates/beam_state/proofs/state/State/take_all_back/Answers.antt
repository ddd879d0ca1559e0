use Rattle.std.proofs.Common.{sym, subst}
use Rattle.beam_state.specs.Prelude.{AreLawful}
use Rattle.beam_state.proofs.Posted.{all_taken_lawful}
use Rattle.beam_state.proofs.state.State.take_all_back.Goals as goal

pub invariant_of-self : goal.invariant_of-self
invariant_of-self c = subst (AreLawful c.self.inside.references) (sym c.take_all_back.ensures) (all_taken_lawful c.self.inside.references c.self.inside.processes c.args.sent.now c.self.invariant)
