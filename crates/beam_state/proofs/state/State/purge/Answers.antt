use Rattle.std.proofs.Common.{◌≡◌, true, not, refl, ap, subst}
use Rattle.beam_machine.specs.declared.event.Event.TheVariants as event
use Rattle.beam_machine.specs.Prelude.{ends_monitored, State}
use Rattle.beam_state.specs.Prelude.{Parts, node, parts}
use Rattle.beam_state.proofs.Kept.{stays_lawful}
use Rattle.beam_state.proofs.state.State.purge.Goals as goal

pub invariant_of-self : goal.invariant_of-self
invariant_of-self c =
    let s : State = node c.args.code.now (parts c.self.inside.processes c.self.inside.clock c.self.inside.instances c.self.inside.references) in
    let t : State = node c.purge.new.code (parts c.purge.new.processes c.self.inside.clock c.self.inside.instances c.self.inside.references) in
    stays_lawful s t (event.Purge c.args.name.now) c.purge.result (c.purge.ensures.next c.self.inside.clock c.self.inside.instances c.self.inside.references) c.self.invariant

pub returns-clause-memory : goal.returns-clause-memory
returns-clause-memory c = λ e. (
  ap not (subst (λ (s : Parts). ends_monitored (node c.args.code.now s) c.args.name.now ≡ true) c.self.view_is
      (c.purge.ensures.memory c.self.inside.clock c.self.inside.instances c.self.inside.references e)),
  refl,
)
