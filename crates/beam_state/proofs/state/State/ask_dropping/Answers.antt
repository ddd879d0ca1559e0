use Rattle.std.proofs.Common.{◌≡◌, Some, sym, subst}
use Rattle.beam_machine.specs.declared.event.Then.TheVariants.{GoesOn}
use Rattle.beam_state.specs.Prelude.{Responds, asking_dropping, HasSlots, Parts, parts, then_at, AreLawful}
use Rattle.beam_state.proofs.Responding.{asked_lawful, responded_by, dropping_asked, dropping_comes}
use Rattle.beam_state.proofs.state.State.ask_dropping.Goals as goal

pub invariant_of-self : goal.invariant_of-self
invariant_of-self c =
    let s : Parts = parts c.self.inside.processes c.self.inside.clock c.self.inside.instances c.self.inside.references in
    let runs : then_at s.processes c.args.pid ≡ Some GoesOn = subst (λ (t : Parts). then_at t.processes c.args.pid ≡ Some GoesOn) (sym c.self.view_is) c.requires.runs in
    let slots : HasSlots c.args.dropped c.args.pid s.processes = subst (λ (t : Parts). HasSlots c.args.dropped c.args.pid t.processes) (sym c.self.view_is) c.requires.slots in
    asked_lawful s c.args.pid (asking_dropping c.args.dropped c.args.native c.args.arity) c.ask.result c.ask.new.references c.ask.new.processes runs (λ p e k. dropping_comes s.processes c.args.pid c.args.dropped c.args.native c.args.arity p slots e k) c.self.invariant
    (dropping_asked c.self.inside.clock c.args.pid c.args.dropped c.args.arity c.args.native c.self.inside.references c.self.inside.processes c.ask.result c.ask.new.references c.ask.new.processes runs slots (rw c.sweep.ensures at c.ask.ensures))

pub returns : goal.returns
returns c =
    let s : Parts = parts c.self.inside.processes c.self.inside.clock c.self.inside.instances c.self.inside.references in
    let runs : then_at s.processes c.args.pid ≡ Some GoesOn = subst (λ (t : Parts). then_at t.processes c.args.pid ≡ Some GoesOn) (sym c.self.view_is) c.requires.runs in
    let slots : HasSlots c.args.dropped c.args.pid s.processes = subst (λ (t : Parts). HasSlots c.args.dropped c.args.pid t.processes) (sym c.self.view_is) c.requires.slots in
    subst (λ (t : Parts). Responds t c.args.pid (asking_dropping c.args.dropped c.args.native c.args.arity) c.ask.result (parts c.ask.new.processes c.self.inside.clock c.self.inside.instances c.ask.new.references)) c.self.view_is
    (responded_by s c.args.pid (asking_dropping c.args.dropped c.args.native c.args.arity) c.ask.result c.ask.new.references c.ask.new.processes
    (dropping_asked c.self.inside.clock c.args.pid c.args.dropped c.args.arity c.args.native c.self.inside.references c.self.inside.processes c.ask.result c.ask.new.references c.ask.new.processes runs slots (rw c.sweep.ensures at c.ask.ensures)))

pub ask-requires-clause-lawful : goal.ask-requires-clause-lawful
ask-requires-clause-lawful c = subst (AreLawful c.self.inside.references) (sym c.sweep.ensures) c.self.invariant
