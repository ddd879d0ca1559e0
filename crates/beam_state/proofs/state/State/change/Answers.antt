use Rattle.std.proofs.Common.{◌≡◌, ap, sym, subst, ◌∙◌, Some, List}
use Rattle.std.proofs.Math.ListN.{set}
use Rattle.std.specs.Fn.{FnOnceTakesAtMut, FnOnceReturnsAtMut}
use Rattle.std.proofs.lemmas.Option.{same_Some}
use Rattle.beam_machine.specs.declared.event.Then.TheVariants.{GoesOn}
use Rattle.beam_machine.specs.Prelude.{Process, process_of, with_process}
use Rattle.beam_state.specs.Prelude.{Parts, parts, with_processes, then_at, AreLawful}
use Rattle.beam_state.proofs.Answering.{set_process}
use Rattle.beam_state.proofs.Asked.{runs_found, said}
use Rattle.beam_state.proofs.Responding.{changed_lawful}
use Rattle.beam_state.proofs.MonitorKeys.{part_fewer}
use Rattle.beam_state.proofs.state.State.change.Goals as goal

pub change-requires-clause-keeps : goal.change-requires-clause-keeps
change-requires-clause-keeps g c = λ q r value there given.
    let ps = c.self.inside.processes in
    let at = c.running-index.result in
    let runs : then_at ps c.args.pid ≡ Some GoesOn = subst (λ (s : Parts). then_at s.processes c.args.pid ≡ Some GoesOn) (sym c.self.view_is) c.requires.runs in
    let found = runs_found ps at c.args.pid c.running-index.ensures.0 runs in
    let p : Process = found.0 in
    let same : p ≡ q = same_Some p q (sym found.1.1.0 ∙ there) in
    let running = ap (λ (p : Process). p.status) (sym same) ∙ found.1.1.1 in (
      (c.requires.keeps q r value running given).1.0,
      part_fewer q.monitors r.monitors (c.requires.monitors q r value running given),
    )

pub change-requires-clause-callable : goal.change-requires-clause-callable
change-requires-clause-callable g c = λ q there.
    let ps = c.self.inside.processes in
    let at = c.running-index.result in
    let runs : then_at ps c.args.pid ≡ Some GoesOn = subst (λ (s : Parts). then_at s.processes c.args.pid ≡ Some GoesOn) (sym c.self.view_is) c.requires.runs in
    let found = runs_found ps at c.args.pid c.running-index.ensures.0 runs in
    let p : Process = found.0 in
    let same : p ≡ q = same_Some p q (sym found.1.1.0 ∙ there) in
    let here : process_of c.args.self.now.processes c.args.pid ≡ Some p = subst (λ (s : Parts). process_of s.processes c.args.pid ≡ Some p) c.self.view_is found.1.0 in
    subst (λ r. FnOnceTakesAtMut g.F.FnOnce c.args.change r) same (c.requires.callable p here)

pub invariant_of-self : goal.invariant_of-self
invariant_of-self g c =
    let ps = c.self.inside.processes in
    let at = c.running-index.result in
    let runs : then_at ps c.args.pid ≡ Some GoesOn = subst (λ (s : Parts). then_at s.processes c.args.pid ≡ Some GoesOn) (sym c.self.view_is) c.requires.runs in
    let found = runs_found ps at c.args.pid c.running-index.ensures.0 runs in
    let p : Process = found.0 in
    let made = said ps at p (λ p. (q : Process) × FnOnceReturnsAtMut g.F.FnOnce c.args.change p c.change.result q × (c.change.new.self ≡ set ps at q) × (q ≡ p → c.change.new.self ≡ ps)) found.1.1.0 c.change.ensures in
    let q : Process = made.0 in
    let follows = c.requires.keeps p q c.change.result found.1.1.1 made.1 in
    let part = c.requires.monitors p q c.change.result found.1.1.1 made.1 in
    subst (AreLawful c.self.inside.references) (set_process ps at c.args.pid q c.running-index.ensures.0 ∙ sym made.2) (changed_lawful c.self.inside.references ps c.args.pid p q found.1.0 follows part c.self.invariant)

pub returns : goal.returns
returns g c = λ r there.
    let ps = c.self.inside.processes in
    let at = c.running-index.result in
    let runs : then_at ps c.args.pid ≡ Some GoesOn = subst (λ (s : Parts). then_at s.processes c.args.pid ≡ Some GoesOn) (sym c.self.view_is) c.requires.runs in
    let found = runs_found ps at c.args.pid c.running-index.ensures.0 runs in
    let p : Process = found.0 in
    let made = said ps at p (λ p. (q : Process) × FnOnceReturnsAtMut g.F.FnOnce c.args.change p c.change.result q × (c.change.new.self ≡ set ps at q) × (q ≡ p → c.change.new.self ≡ ps)) found.1.1.0 c.change.ensures in
    let q : Process = made.0 in
    let old : process_of ps c.args.pid ≡ Some r = subst (λ (s : Parts). process_of s.processes c.args.pid ≡ Some r) (sym c.self.view_is) there in
    let same : p ≡ r = same_Some p r (sym found.1.0 ∙ old) in
    let placed : c.change.new.self ≡ with_process ps c.args.pid q = made.2 ∙ sym (set_process ps at c.args.pid q c.running-index.ensures.0) in
    let new : List Process → Parts = λ qs. parts qs c.self.inside.clock c.self.inside.instances c.self.inside.references in (
      q,
      subst (λ r. FnOnceReturnsAtMut g.F.FnOnce c.args.change r c.change.result q) same made.1,
      ap new placed ∙ ap (λ (s : Parts). with_processes s (with_process s.processes c.args.pid q)) c.self.view_is,
    )
