use Rattle.std.proofs.Common.{◌≡◌, true, refl, subst, is_ok}
use Rattle.beam_machine.specs.declared.event.Event.TheVariants as event
use Rattle.beam_machine.specs.Prelude.{next}
use Rattle.beam_state.specs.Prelude.{Parts, node}
use Rattle.beam_state.proofs.Kept.{processes_lawful}
use Rattle.beam_state.proofs.state.State.send.Goals as goal

pub invariant_of-self : goal.invariant_of-self
invariant_of-self c = processes_lawful c.self.inside.references _ _ (event.Send c.args.to.now c.args.message.now) c.send.result c.send.ensures.next c.self.invariant

pub returns-clause-memory : goal.returns-clause-memory
returns-clause-memory c = λ code e. (
  refl,
  subst (λ (s : Parts). is_ok (next (node code s) (event.Send c.args.to.now c.args.message.now)).answer ≡ true) c.self.view_is
      (c.send.ensures.memory code c.self.inside.clock c.self.inside.instances c.self.inside.references e),
)
