use Rattle.std.proofs.Common.{◌≡◌, Some, sym, subst}
use Rattle.beam_machine.specs.declared.event.Then.TheVariants.{GoesOn}
use Rattle.beam_machine.specs.Prelude.{ended}
use Rattle.beam_state.specs.Prelude.{Responds, ending, Parts, parts, then_at}
use Rattle.beam_state.proofs.Responding.{asked_lawful, responded_by, made_responds, ending_comes}
use Rattle.beam_state.proofs.state.State.end.Goals as goal

pub invariant_of-self : goal.invariant_of-self
invariant_of-self c =
    let s : Parts = parts c.self.inside.processes c.self.inside.clock c.self.inside.instances c.self.inside.references in
    let runs : then_at s.processes c.args.pid ≡ Some GoesOn = subst (λ (t : Parts). then_at t.processes c.args.pid ≡ Some GoesOn) (sym c.self.view_is) c.requires in
    asked_lawful s c.args.pid (ending c.args.reason c.args.value) c.end.result c.self.inside.references c.end.new.processes runs (λ p e k. ending_comes c.args.reason c.args.value p k) c.self.invariant
    (made_responds c.self.inside.clock c.self.inside.references c.args.pid (λ p. ended p c.args.reason c.args.value) c.self.inside.processes c.end.new.processes c.end.result c.end.ensures)

pub returns : goal.returns
returns c =
    let s : Parts = parts c.self.inside.processes c.self.inside.clock c.self.inside.instances c.self.inside.references in
    subst (λ (t : Parts). Responds t c.args.pid (ending c.args.reason c.args.value) c.end.result (parts c.end.new.processes c.self.inside.clock c.self.inside.instances c.self.inside.references)) c.self.view_is
    (responded_by s c.args.pid (ending c.args.reason c.args.value) c.end.result c.self.inside.references c.end.new.processes
    (made_responds c.self.inside.clock c.self.inside.references c.args.pid (λ p. ended p c.args.reason c.args.value) c.self.inside.processes c.end.new.processes c.end.result c.end.ensures))
