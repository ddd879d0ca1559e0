use Rattle.std.proofs.Common.{◌≡◌, Some, None, slice_set, sym, ap, subst, ◌∙◌, rules, List}
use Rattle.indexmap.specs.IndexMap.{get}
use Rattle.beam_model.specs.Prelude.{same_text}
use Rattle.beam_machine.specs.Prelude.{Process, registered}
use Rattle.beam_state.specs.Prelude.{entry_of, IsIndexed, MonitorNoMore}
use Rattle.beam_state.proofs.Finding.{there}
use Rattle.beam_state.proofs.Indexing.{Adds, named_indexed}
use Rattle.beam_state.proofs.Keeping.{agenda_within, items_within, keeps_monitored, makes}
use Rattle.beam_state.proofs.MonitorKeys.{no_more}
use Rattle.beam_state.proofs.processes.Processes.register.Goals as goal

pub set-requires : goal.set-requires
set-requires c = agenda_within _ c.self.inside.agenda c.self.inside.items.items c.args.self.now c.args.index c.self.view_is c.self.invariant.0 c.requires.within

pub invariant_of-self-2 : goal.invariant_of-self-2
invariant_of-self-2 c =
    let ps : List Process = c.self.inside.items.items in
    let p : Process = c.index_mut-process.result.now in
    let q : Process = c.change.new.self in
    let r : Process = record p { name = Some c.args.name } in
    let free : registered ps c.args.name ≡ None = ap (λ ps. registered ps c.args.name) c.self.view_is ∙ c.requires.free in
    let same : c.in_ok-key.key ≡ c.args.name = search rules in
    let adds : Adds (get same_text c.self.inside.names) c.args.name c.args.index (get same_text c.insert.new.self) = λ m. rw same at (c.in_ok-insert.ensures.updates.0 m) in
    let is : q ≡ r = search rules in
    let agenda : c.set.new.self ≡ slice_set c.self.inside.agenda c.args.index (entry_of r) = c.set.ensures ∙ ap (slice_set c.self.inside.agenda c.args.index) (c.entry_of.ensures ∙ ap entry_of is) in (
      subst (λ es. IsIndexed (get same_text c.insert.new.self) es (slice_set ps c.args.index q)) (sym agenda)
          (subst (λ q. IsIndexed (get same_text c.insert.new.self) (slice_set c.self.inside.agenda c.args.index (entry_of r)) (slice_set ps c.args.index q)) (sym is)
          (named_indexed (get same_text c.self.inside.names) (get same_text c.insert.new.self) c.self.inside.agenda ps c.args.index p c.args.name c.self.invariant.0 (there ps c.args.index p (items_within ps c.args.self.now c.args.index c.self.view_is c.requires.within) c.index_mut-process.ensures.value) free adds)),
      keeps_monitored c.self.inside.complete c.self.inside.monitor_index ps c.args.self.now c.args.index p q c.self.view_is c.requires.within c.index_mut-process.ensures.value (subst (λ (q : Process). MonitorNoMore p.monitors q.monitors) (sym is) (no_more p.monitors)) c.self.invariant.1,
    )

pub returns-clause-ok : goal.returns-clause-ok
returns-clause-ok c =
    let p : Process = c.index_mut-process.result.now in
    let q : Process = c.change.new.self in
    let is : q ≡ record p { name = Some c.args.name } = search rules in
    makes c.self.inside.items.items c.args.self.now c.args.index p q (λ p. record p { name = Some c.args.name }) c.self.view_is c.requires.within c.index_mut-process.ensures.value is
