use Rattle.beam_machine.specs.declared.event.Event.TheVariants as event
use Rattle.beam_machine.specs.Prelude.{State}
use Rattle.beam_state.specs.Prelude.{node, parts}
use Rattle.beam_state.proofs.Kept.{stays_lawful}
use Rattle.beam_state.proofs.state.State.atomic_load.Goals as goal

pub invariant_of-self : goal.invariant_of-self
invariant_of-self c =
    let s : State = node c.args.code.now (parts c.self.inside.processes c.self.inside.clock c.self.inside.instances c.self.inside.references) in
    let t : State = node c.atomic_load.new.code (parts c.atomic_load.new.processes c.self.inside.clock c.atomic_load.new.instances c.self.inside.references) in
    stays_lawful s t (event.AtomicLoad c.args.mode c.args.images.now) c.atomic_load.result (c.atomic_load.ensures c.self.inside.clock c.self.inside.references) c.self.invariant
