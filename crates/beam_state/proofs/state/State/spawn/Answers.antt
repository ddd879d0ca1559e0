use Rattle.std.proofs.Common.{◌≡◌, true, refl, subst, is_ok}
use Rattle.beam_machine.specs.declared.event.Event.TheVariants as event
use Rattle.beam_machine.specs.Prelude.{next}
use Rattle.beam_state.specs.Prelude.{Parts, node}
use Rattle.beam_state.proofs.Kept.{processes_lawful}
use Rattle.beam_state.proofs.state.State.spawn.Goals as goal

pub invariant_of-self : goal.invariant_of-self
invariant_of-self c = processes_lawful c.self.inside.references _ _ (event.Spawn c.args.name.now c.args.function.now c.args.arguments.now) c.spawn.result c.spawn.ensures.next c.self.invariant

pub returns-clause-memory : goal.returns-clause-memory
returns-clause-memory c = λ code e. (
  refl,
  subst (λ (s : Parts). is_ok (next (node code s) (event.Spawn c.args.name.now c.args.function.now c.args.arguments.now)).answer ≡ true) c.self.view_is
      (c.spawn.ensures.memory code c.self.inside.clock c.self.inside.instances c.self.inside.references e),
)
