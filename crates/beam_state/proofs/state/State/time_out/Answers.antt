use Rattle.std.proofs.Common.{[]}
use Rattle.beam_machine.specs.declared.event.Event.TheVariants as event
use Rattle.beam_state.specs.Prelude.{node, parts}
use Rattle.beam_state.proofs.Kept.{stays_lawful}
use Rattle.beam_state.proofs.state.State.time_out.Goals as goal

pub invariant_of-self : goal.invariant_of-self
invariant_of-self c =
    let s = node [] (parts c.self.inside.processes c.self.inside.clock c.self.inside.instances c.self.inside.references) in
    let t = node [] (parts c.time_out.new.processes c.self.inside.clock c.self.inside.instances c.self.inside.references) in
    stays_lawful s t (event.Timeout c.args.pid) c.time_out.result (c.time_out.ensures.next c.self.inside.instances c.self.inside.references []) c.self.invariant

pub returns-clause-memory : goal.returns-clause-memory
returns-clause-memory c = λ code e. absurd (c.time_out.ensures.memory e)
