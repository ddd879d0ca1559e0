use Rattle.std.proofs.Common.{◌≡◌, Some, sym, subst}
use Rattle.beam_machine.specs.declared.event.Then.TheVariants.{GoesOn}
use Rattle.beam_state.specs.Prelude.{Responds, sending, Parts, parts, then_at}
use Rattle.beam_state.proofs.Responding.{asked_lawful, responded_by, sending_comes}
use Rattle.beam_state.proofs.state.State.send_on.Goals as goal

pub invariant_of-self : goal.invariant_of-self
invariant_of-self c =
    let s : Parts = parts c.self.inside.processes c.self.inside.clock c.self.inside.instances c.self.inside.references in
    let runs : then_at s.processes c.args.pid ≡ Some GoesOn = subst (λ (t : Parts). then_at t.processes c.args.pid ≡ Some GoesOn) (sym c.self.view_is) c.requires in
    asked_lawful s c.args.pid (sending c.args.to c.args.next) c.send.result c.self.inside.references c.send.new.processes runs (λ p e k. sending_comes c.args.to c.args.next p k) c.self.invariant
    (c.send.ensures c.self.inside.clock c.self.inside.references)

pub returns : goal.returns
returns c =
    let s : Parts = parts c.self.inside.processes c.self.inside.clock c.self.inside.instances c.self.inside.references in
    subst (λ (t : Parts). Responds t c.args.pid (sending c.args.to c.args.next) c.send.result (parts c.send.new.processes c.self.inside.clock c.self.inside.instances c.self.inside.references)) c.self.view_is
    (responded_by s c.args.pid (sending c.args.to c.args.next) c.send.result c.self.inside.references c.send.new.processes
    (c.send.ensures c.self.inside.clock c.self.inside.references))
