use Rattle.std.proofs.Common.{◌≡◌, Some, sym, subst}
use Rattle.beam_machine.specs.declared.event.Then.TheVariants.{GoesOn}
use Rattle.beam_state.specs.Prelude.{Responds, sleeping, Parts, parts, then_at}
use Rattle.beam_state.proofs.Responding.{asked_lawful, responded_by, sleeping_comes}
use Rattle.beam_state.proofs.state.State.sleep.Goals as goal

pub invariant_of-self : goal.invariant_of-self
invariant_of-self c =
    let s : Parts = parts c.self.inside.processes c.self.inside.clock c.self.inside.instances c.self.inside.references in
    let runs : then_at s.processes c.args.pid ≡ Some GoesOn = subst (λ (t : Parts). then_at t.processes c.args.pid ≡ Some GoesOn) (sym c.self.view_is) c.requires in
    asked_lawful s c.args.pid (sleeping c.args.milliseconds c.args.at c.args.next) c.sleep.result c.self.inside.references c.sleep.new.processes runs (λ p e k. sleeping_comes c.args.milliseconds c.args.at c.args.next p k) c.self.invariant
    (c.sleep.ensures c.self.inside.references)

pub returns : goal.returns
returns c =
    let s : Parts = parts c.self.inside.processes c.self.inside.clock c.self.inside.instances c.self.inside.references in
    subst (λ (t : Parts). Responds t c.args.pid (sleeping c.args.milliseconds c.args.at c.args.next) c.sleep.result (parts c.sleep.new.processes c.self.inside.clock c.self.inside.instances c.self.inside.references)) c.self.view_is
    (responded_by s c.args.pid (sleeping c.args.milliseconds c.args.at c.args.next) c.sleep.result c.self.inside.references c.sleep.new.processes
    (c.sleep.ensures c.self.inside.references))
