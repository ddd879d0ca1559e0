use Rattle.std.proofs.Common.{◌≡◌, refl, List, slice_set}
use Rattle.std.specs.Fn.{FnOnceReturnsAtMut}
use Rattle.beam_machine.specs.Prelude.{Process}
use Rattle.beam_state.proofs.Keeping.{agenda_within, keeps_indexed, keeps_monitored, says_of, sets, stands, stays}
use Rattle.beam_state.proofs.processes.Processes.change.Goals as goal

pub change-result-requires-clause-callable : goal.change-result-requires-clause-callable
change-result-requires-clause-callable g c =
    c.requires.callable c.index_mut-process.result.now (stands c.self.inside.items.items c.args.self.now c.args.index c.index_mut-process.result.now c.self.view_is c.requires.within c.index_mut-process.ensures.value)

pub set-requires : goal.set-requires
set-requires g c = agenda_within _ c.self.inside.agenda c.self.inside.items.items c.args.self.now c.args.index c.self.view_is c.self.invariant.0 c.requires.within

pub invariant_of-self : goal.invariant_of-self
invariant_of-self g c =
    let ps : List Process = c.self.inside.items.items in
    let p : Process = c.index_mut-process.result.now in
    let q : Process = c.change-result.new.self in
    let keeps = c.requires.keeps p q c.change-result.result (stands ps c.args.self.now c.args.index p c.self.view_is c.requires.within c.index_mut-process.ensures.value) c.change-result.ensures in (
      keeps_indexed _ c.self.inside.agenda c.set.new.self ps c.args.self.now c.args.index p q c.entry_of.result c.self.view_is c.requires.within c.index_mut-process.ensures.value keeps.0 c.entry_of.ensures c.set.ensures c.self.invariant.0,
      keeps_monitored c.self.inside.complete c.self.inside.monitor_index ps c.args.self.now c.args.index p q c.self.view_is c.requires.within c.index_mut-process.ensures.value keeps.1 c.self.invariant.1,
    )

pub returns : goal.returns
returns g c =
    let ps : List Process = c.self.inside.items.items in
    let now : List Process = c.args.self.now in
    let i = c.args.index in
    let p : Process = c.index_mut-process.result.now in
    let q : Process = c.change-result.new.self in
    says_of ps now i p (λ p. (r : Process) × FnOnceReturnsAtMut g.F.FnOnce c.args.change p c.change-result.result r × (slice_set ps i q ≡ slice_set now i r) × (r ≡ p → slice_set ps i q ≡ now)) c.self.view_is c.requires.within c.index_mut-process.ensures.value
    (q, c.change-result.ensures, sets ps now i q q c.self.view_is refl, stays ps now i p q c.self.view_is c.requires.within c.index_mut-process.ensures.value)
