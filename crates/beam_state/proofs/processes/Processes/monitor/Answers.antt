use Rattle.std.proofs.Common.{◌≡◌, true, false, refl, sym, subst, rules, List, is_ok, slice_set, OnOk, OnErr}
use Rattle.std.proofs.Math.ListN.{set}
use Rattle.beam_watches.specs.MonitorEntries.{AreBelow}
use Rattle.beam_machine.specs.Prelude.{Process, is_ended}
use Rattle.beam_state.specs.Prelude.{with_monitor}
use Rattle.beam_state.proofs.Asked.{said}
use Rattle.beam_state.proofs.Keeping.{Tried, agenda_within, keeps_indexed, tried_name, tried_monitored, on_ok, says_of, sets, stands}
use Rattle.beam_state.proofs.processes.Processes.monitor.Goals as goal

pub change-result-requires-clause-lives : goal.change-result-requires-clause-lives
change-result-requires-clause-lives c =
    let p : Process = c.index_mut-process.result.now in
    said c.args.self.now c.args.index p (λ p. is_ended p.status ≡ false) (stands c.self.inside.items.items c.args.self.now c.args.index p c.self.view_is c.requires.within c.index_mut-process.ensures.value) c.requires.lives

pub change-result-requires-clause-callable : goal.change-result-requires-clause-callable
change-result-requires-clause-callable c = λ b is.
    let p : Process = c.index_mut-process.result.now in
    let there = stands c.self.inside.items.items c.args.self.now c.args.index p c.self.view_is c.requires.within c.index_mut-process.ensures.value in
    let low : AreBelow c.args.reference p.monitors = said c.args.self.now c.args.index p (λ p. AreBelow c.args.reference p.monitors) there c.requires.below in
    let below : AreBelow c.args.reference b.now.monitors = subst (λ (p : Process). AreBelow c.args.reference p.monitors) (sym is) low in
    search rules

pub set-requires : goal.set-requires
set-requires c = agenda_within _ c.self.inside.agenda c.self.inside.items.items c.args.self.now c.args.index c.self.view_is c.self.invariant.0 c.requires.within

pub invariant_of-self : goal.invariant_of-self
invariant_of-self c =
    let ps : List Process = c.self.inside.items.items in
    let p : Process = c.index_mut-process.result.now in
    let q : Process = c.change-result.new.self in
    let tried : Tried p c.args.reference c.args.pid c.args.down c.change-result.result q = search rules in
    let had : is_ok c.change-result.result ≡ true → is_ok c.add_monitor-added.result ≡ true = search rules in (
      keeps_indexed _ c.self.inside.agenda c.set.new.self ps c.args.self.now c.args.index p q c.entry_of.result c.self.view_is c.requires.within c.index_mut-process.ensures.value (tried_name p q c.args.reference c.args.pid c.args.down c.change-result.result tried) c.entry_of.ensures c.set.ensures c.self.invariant.0,
      tried_monitored c.self.inside.complete c.self.inside.monitor_index c.add_monitor-added.new.self ps c.args.self.now c.args.index c.args.receiver c.args.reference c.args.pid c.args.down p q c.change-result.result c.self.view_is c.requires.within c.index_mut-process.ensures.value c.requires.located tried
          c.add_monitor-added.ensures.kept (λ e. on_ok c.add_monitor-added.result _ c.add_monitor-added.ensures.ok (had e)) c.self.invariant.1,
    )

pub returns : goal.returns
returns c =
    let ps : List Process = c.self.inside.items.items in
    let now : List Process = c.args.self.now in
    let i = c.args.index in
    let p : Process = c.index_mut-process.result.now in
    let q : Process = c.change-result.new.self in
    let tried : Tried p c.args.reference c.args.pid c.args.down c.change-result.result q = search rules in
    says_of ps now i p (λ p. (r : Process) × (OnOk c.change-result.result (r ≡ with_monitor p c.args.reference c.args.pid c.args.down) × OnErr c.change-result.result (r ≡ p)) × (slice_set ps i q ≡ slice_set now i r)) c.self.view_is c.requires.within c.index_mut-process.ensures.value
    (q, tried, sets ps now i q q c.self.view_is refl)
