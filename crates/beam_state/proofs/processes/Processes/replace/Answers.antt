use Rattle.std.proofs.Common.{◌≡◌, sym, ap, subst, ◌∙◌, rules, List, None, [], slice_set}
use Rattle.beam_machine.specs.Prelude.{Process}
use Rattle.beam_laws.specs.Prelude.{with_name_and_transit}
use Rattle.beam_state.specs.Prelude.{KeepsName, AreKeyed}
use Rattle.beam_state.proofs.Asked.{said}
use Rattle.beam_state.proofs.Keeping.{agenda_within, keeps_indexed, puts_monitored, says_of, sets, stands}
use Rattle.beam_state.proofs.Replacing.{having_monitors}
use Rattle.beam_state.proofs.processes.Processes.replace.Goals as goal

pub set-requires : goal.set-requires
set-requires c = agenda_within _ c.self.inside.agenda c.self.inside.items.items c.args.self.now c.args.index c.self.view_is c.self.invariant.0 c.requires.within

pub invariant_of-self : goal.invariant_of-self
invariant_of-self c =
    let ps : List Process = c.self.inside.items.items in
    let p : Process = c.index_mut-place.result.now in
    let q : Process = c.change-was.new.self in
    let is : q ≡ with_name_and_transit p.name p.transit c.args.process = search rules in
    let there = stands ps c.args.self.now c.args.index p c.self.view_is c.requires.within c.index_mut-place.ensures.value in
    let keeps : KeepsName p q = subst (KeepsName p) (sym is) (said c.args.self.now c.args.index p (λ p. KeepsName p (with_name_and_transit p.name p.transit c.args.process)) there c.requires.keeps) in
    let same : q.monitors ≡ c.args.process.monitors = ap (λ (q : Process). q.monitors) is ∙ having_monitors p.name p.transit c.args.process in (
      keeps_indexed _ c.self.inside.agenda c.set.new.self ps c.args.self.now c.args.index p q c.entry_of.result c.self.view_is c.requires.within c.index_mut-place.ensures.value keeps c.entry_of.ensures c.set.ensures c.self.invariant.0,
      puts_monitored c.self.inside.complete c.add_all-self-inside.result c.self.inside.monitor_index c.add_all-self-inside.new.index ps c.args.index c.args.pid q c.requires.located c.add_all-self-inside.ensures.kept
          (λ e. let k = rw c.monitors.ensures at (c.add_all-self-inside.ensures.keyed e) in (k.0, subst (AreKeyed c.add_all-self-inside.new.index c.args.pid) (sym same) k.1)) c.self.invariant.1,
    )

pub returns : goal.returns
returns c =
    let ps : List Process = c.self.inside.items.items in
    let now : List Process = c.args.self.now in
    let i = c.args.index in
    let p : Process = c.index_mut-place.result.now in
    let q : Process = c.change-was.new.self in
    let is : q ≡ with_name_and_transit p.name p.transit c.args.process = search rules in
    let was : c.change-was.result ≡ record p { name = None; transit = [] } = search rules in
    says_of ps now i p (λ p. (slice_set ps i q ≡ slice_set now i (with_name_and_transit p.name p.transit c.args.process)) × (c.change-was.result ≡ record p { name = None; transit = [] })) c.self.view_is c.requires.within c.index_mut-place.ensures.value
    (sets ps now i q (with_name_and_transit p.name p.transit c.args.process) c.self.view_is is, was)
