use Rattle.std.proofs.Common.{◌≡◌, true, refl, subst, is_ok}
use Rattle.beam_machine.specs.declared.event.Event.TheVariants as event
use Rattle.beam_machine.specs.Prelude.{State, next}
use Rattle.beam_state.specs.Prelude.{Parts, node, parts}
use Rattle.beam_state.proofs.Kept.{stays_lawful}
use Rattle.beam_state.proofs.state.State.load_strict.Goals as goal

pub invariant_of-self : goal.invariant_of-self
invariant_of-self c =
    let s : State = node c.args.code.now (parts c.self.inside.processes c.self.inside.clock c.self.inside.instances c.self.inside.references) in
    let t : State = node c.load_strict.new.code (parts c.load_strict.new.processes c.self.inside.clock c.load_strict.new.instances c.self.inside.references) in
    stays_lawful s t (event.LoadStrict c.args.image.now) c.load_strict.result (c.load_strict.ensures.next c.self.inside.clock c.self.inside.references) c.self.invariant

pub returns-clause-memory : goal.returns-clause-memory
returns-clause-memory c = λ e. (
  refl,
  subst (λ (s : Parts). is_ok (next (node c.args.code.now s) (event.LoadStrict c.args.image.now)).answer ≡ true) c.self.view_is (c.load_strict.ensures.memory c.self.inside.clock c.self.inside.references e),
)
