use Rattle.std.proofs.Common.{◌≡◌, Some, sym, subst}
use Rattle.beam_machine.specs.declared.event.Then.TheVariants.{GoesOn}
use Rattle.beam_state.specs.Prelude.{Responds, asking, Parts, parts, then_at, AreLawful}
use Rattle.beam_state.proofs.Responding.{asked_lawful, responded_by, native_asked, asking_comes}
use Rattle.beam_state.proofs.state.State.ask.Goals as goal

pub invariant_of-self : goal.invariant_of-self
invariant_of-self c =
    let s : Parts = parts c.self.inside.processes c.self.inside.clock c.self.inside.instances c.self.inside.references in
    let runs : then_at s.processes c.args.pid ≡ Some GoesOn = subst (λ (t : Parts). then_at t.processes c.args.pid ≡ Some GoesOn) (sym c.self.view_is) c.requires in
    asked_lawful s c.args.pid (asking c.args.native c.args.arity c.args.after) c.ask.result c.ask.new.references c.ask.new.processes runs (λ p e k. asking_comes c.args.native c.args.arity c.args.after p k) c.self.invariant
    (native_asked c.self.inside.clock c.args.pid c.args.arity c.args.native c.args.after c.self.inside.references c.self.inside.processes c.ask.result c.ask.new.references c.ask.new.processes runs (rw c.sweep.ensures at c.ask.ensures))

pub returns : goal.returns
returns c =
    let s : Parts = parts c.self.inside.processes c.self.inside.clock c.self.inside.instances c.self.inside.references in
    let runs : then_at s.processes c.args.pid ≡ Some GoesOn = subst (λ (t : Parts). then_at t.processes c.args.pid ≡ Some GoesOn) (sym c.self.view_is) c.requires in
    subst (λ (t : Parts). Responds t c.args.pid (asking c.args.native c.args.arity c.args.after) c.ask.result (parts c.ask.new.processes c.self.inside.clock c.self.inside.instances c.ask.new.references)) c.self.view_is
    (responded_by s c.args.pid (asking c.args.native c.args.arity c.args.after) c.ask.result c.ask.new.references c.ask.new.processes
    (native_asked c.self.inside.clock c.args.pid c.args.arity c.args.native c.args.after c.self.inside.references c.self.inside.processes c.ask.result c.ask.new.references c.ask.new.processes runs (rw c.sweep.ensures at c.ask.ensures)))

pub ask-requires-clause-lawful : goal.ask-requires-clause-lawful
ask-requires-clause-lawful c = subst (AreLawful c.self.inside.references) (sym c.sweep.ensures) c.self.invariant
