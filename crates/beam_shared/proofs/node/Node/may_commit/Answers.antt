use Rattle.std.proofs.Common.{◌≡◌, ◌==◌, not, true, false, None, Some, sym, ap, subst, ◌∙◌, arith, is_some, slice_get}
use Rattle.std.proofs.lemmas.Bool.Decides.{nat_tests}
use Rattle.beam_machine.specs.Prelude.{live_process}
use Rattle.beam_debug.specs.Prelude.{AreSlices}
use Rattle.beam_shared.specs.Prelude.{is_open, is_live, context_in, entry_of, Node}
use Rattle.beam_shared.proofs.CommittedRows.{are_slices, context_differs, context_same}
use Rattle.beam_shared.proofs.Returning.{not_open, opened, own_entry, some_mapped}
use Rattle.beam_shared.proofs.node.Node.may_commit.Goals as goal

pub returns-in_default-clause-dropped : goal.returns-in_default-clause-dropped
returns-in_default-clause-dropped g c =
    let i = c.self.inside in
    let pid = c.args.pid in
    let none : entry_of pid i.checked_out.items ≡ None = ap (entry_of pid) (sym c.deref.ensures.value) ∙ (sym c.entry_of.ensures ∙ c.in_default.is) in
    ap (λ n. is_open n pid c.args.serial) (sym c.self.view_is) ∙ sym (not_open pid c.args.serial i.checked_out.items none)

pub returns-then-entry-serial-clause-dropped : goal.returns-then-entry-serial-clause-dropped
returns-then-entry-serial-clause-dropped g c =
    let i = c.self.inside in
    let pid = c.args.pid in
    let found : entry_of pid i.checked_out.items ≡ Some c.in-Some.entry
    = ap (entry_of pid) (sym c.deref.ensures.value) ∙ (sym c.entry_of.ensures ∙ c.in-Some.is) in
    let other : (c.in-Some.entry.serial == c.args.serial) ≡ false = grind (arith, nat_tests, c.if-entry-serial.true) in
    ap (λ n. is_open n pid c.args.serial) (sym c.self.view_is) ∙ (opened pid c.args.serial i.checked_out.items c.in-Some.entry found ∙ other)

pub returns-then-is_none-clause-dropped : goal.returns-then-is_none-clause-dropped
returns-then-is_none-clause-dropped g c =
    let i = c.self.inside in
    let pid = c.args.pid in
    let found : entry_of pid i.checked_out.items ≡ Some c.in-Some.entry
    = ap (entry_of pid) (sym c.deref.ensures.value) ∙ (sym c.entry_of.ensures ∙ c.in-Some.is) in
    let same : (c.in-Some.entry.serial == c.args.serial) ≡ true = grind (arith, nat_tests, c.if-entry-serial.false) in (
      ap (λ n. is_open n pid c.args.serial) (sym c.self.view_is) ∙ (opened pid c.args.serial i.checked_out.items c.in-Some.entry found ∙ same),
      ap (λ n. is_live n pid) (sym c.self.view_is) ∙ (ap is_some (sym c.live.ensures) ∙ (some_mapped _ c.live.result ∙ (c.is_none.ensures ∙ ap not c.if-is_none.true))),
    )

pub returns-then-is_context-clause-may : goal.returns-then-is_context-clause-may
returns-then-is_context-clause-may g c =
    let i = c.self.inside in
    let pid = c.args.pid in
    let b = c.requires.back in
    let found : entry_of pid i.checked_out.items ≡ Some c.in-Some.entry
    = ap (entry_of pid) (sym c.deref.ensures.value) ∙ (sym c.entry_of.ensures ∙ c.in-Some.is) in
    let same : (c.in-Some.entry.serial == c.args.serial) ≡ true = grind (arith, nat_tests, c.if-entry-serial.false) in
    let serial : c.in-Some.entry.serial ≡ c.args.serial = grind (arith, nat_tests, same) in
    let own = own_entry i.debugger.state i.changes i.keeper.checkouts pid c.in-Some.entry i.checked_out.items c.self.invariant.0.handed found in
    let there : slice_get i.keeper.checkouts c.in-Some.entry.serial ≡ Some b.origin
    = ap (slice_get i.keeper.checkouts) serial ∙ (ap (λ (n : Node). slice_get n.handed c.args.serial) c.self.view_is ∙ b.handed) in
    let context = context_same i.debugger.state i.changes i.keeper.checkouts c.in-Some.entry b.origin own.0 there c.args.context.now c.is_context.result b.over c.is_context.ensures c.if-is_context.true in (
      ap (λ n. is_open n pid c.args.serial) (sym c.self.view_is) ∙ (opened pid c.args.serial i.checked_out.items c.in-Some.entry found ∙ same),
      ap (λ n. is_live n pid) (sym c.self.view_is) ∙ (ap is_some (sym c.live.ensures) ∙ (some_mapped _ c.live.result ∙ (c.is_none.ensures ∙ ap not c.if-is_none.false))),
      ap (λ (n : Node). context_in n.state) (sym c.self.view_is) ∙ context,
    )

pub returns-then-is_context-clause-slices : goal.returns-then-is_context-clause-slices
returns-then-is_context-clause-slices g c some =
    let i = c.self.inside in
    let pid = c.args.pid in
    let b = c.requires.back in
    let found : entry_of pid i.checked_out.items ≡ Some c.in-Some.entry
    = ap (entry_of pid) (sym c.deref.ensures.value) ∙ (sym c.entry_of.ensures ∙ c.in-Some.is) in
    let serial : c.in-Some.entry.serial ≡ c.args.serial = c.if-entry-serial.false in
    let own = own_entry i.debugger.state i.changes i.keeper.checkouts pid c.in-Some.entry i.checked_out.items c.self.invariant.0.handed found in
    let there : slice_get i.keeper.checkouts c.in-Some.entry.serial ≡ Some b.origin
    = ap (slice_get i.keeper.checkouts) serial ∙ (ap (λ (n : Node). slice_get n.handed c.args.serial) c.self.view_is ∙ b.handed) in
    let context = context_same i.debugger.state i.changes i.keeper.checkouts c.in-Some.entry b.origin own.0 there c.args.context.now c.is_context.result b.over c.is_context.ensures c.if-is_context.true in
    let lives : is_some (live_process i.debugger.state.node.processes pid) ≡ true
    = ap is_some (sym c.live.ensures) ∙ (some_mapped _ c.live.result ∙ (c.is_none.ensures ∙ ap not c.if-is_none.false)) in
    subst (λ (n : Node). AreSlices n.state pid c.args.rows.now) c.self.view_is
    (are_slices i.debugger.state i.changes i.keeper.checkouts c.in-Some.entry b.origin own.0 there pid c.args.rows.now b.limit b.own lives (context ∙ b.over) b.done some)

pub returns-else-is_context-clause-dropped : goal.returns-else-is_context-clause-dropped
returns-else-is_context-clause-dropped g c =
    let i = c.self.inside in
    let pid = c.args.pid in
    let b = c.requires.back in
    let found : entry_of pid i.checked_out.items ≡ Some c.in-Some.entry
    = ap (entry_of pid) (sym c.deref.ensures.value) ∙ (sym c.entry_of.ensures ∙ c.in-Some.is) in
    let same : (c.in-Some.entry.serial == c.args.serial) ≡ true = grind (arith, nat_tests, c.if-entry-serial.false) in
    let serial : c.in-Some.entry.serial ≡ c.args.serial = c.if-entry-serial.false in
    let own = own_entry i.debugger.state i.changes i.keeper.checkouts pid c.in-Some.entry i.checked_out.items c.self.invariant.0.handed found in
    let there : slice_get i.keeper.checkouts c.in-Some.entry.serial ≡ Some b.origin
    = ap (slice_get i.keeper.checkouts) serial ∙ (ap (λ (n : Node). slice_get n.handed c.args.serial) c.self.view_is ∙ b.handed) in (
      ap (λ n. is_open n pid c.args.serial) (sym c.self.view_is) ∙ (opened pid c.args.serial i.checked_out.items c.in-Some.entry found ∙ same),
      ap (λ n. is_live n pid) (sym c.self.view_is) ∙ (ap is_some (sym c.live.ensures) ∙ (some_mapped _ c.live.result ∙ (c.is_none.ensures ∙ ap not c.if-is_none.false))),
      λ is. context_differs i.debugger.state i.changes i.keeper.checkouts c.in-Some.entry b.origin own.0 there c.args.context.now c.is_context.result c.is_context.ensures c.if-is_context.false
          (ap (λ (n : Node). context_in n.state) c.self.view_is ∙ is),
    )
