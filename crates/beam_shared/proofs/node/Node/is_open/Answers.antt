use Rattle.std.proofs.Common.{◌≡◌, None, Some, sym, ap, ◌∙◌}
use Rattle.beam_shared.specs.Prelude.{is_open, FinishedSlice, entry_of, node_of, Node}
use Rattle.beam_shared.proofs.Returning.{few_serial, not_open, open_is}
use Rattle.beam_shared.proofs.node.Node.is_open.Goals as goal

pub returns-in-Some : goal.returns-in-Some
returns-in-Some g c =
    let i = c.self.inside in
    let f = c.finished.inside in
    let n : Node = node_of i.debugger.state i.journal i.keeper i.checked_out.items in
    let found : entry_of f.pid i.checked_out.items ≡ Some c.in-Some.entry
    = ap (entry_of f.pid) (sym c.deref.ensures.value) ∙ (sym c.entry_of.ensures ∙ c.in-Some.is) in
    let few = few_serial i.debugger.state i.journal i.keeper i.checked_out.items i.changes i.context f.pid c.in-Some.entry c.self.invariant.0 found in
    open_is f.pid f.ticket.serial c.serial.result i.checked_out.items c.in-Some.entry found few c.serial.ensures
    ∙ (ap (λ pid. is_open n pid f.ticket.serial) (sym c.finished.invariant.0)
    ∙ (ap (λ (x : FinishedSlice). is_open n x.origin.pid x.serial) c.finished.view_is
    ∙ ap (λ n. is_open n c.args.finished.now.origin.pid c.args.finished.now.serial) c.self.view_is))

pub returns-in-None : goal.returns-in-None
returns-in-None g c =
    let i = c.self.inside in
    let f = c.finished.inside in
    let n : Node = node_of i.debugger.state i.journal i.keeper i.checked_out.items in
    let none : entry_of f.pid i.checked_out.items ≡ None = ap (entry_of f.pid) (sym c.deref.ensures.value) ∙ (sym c.entry_of.ensures ∙ c.in-None.is) in
    not_open f.pid f.ticket.serial i.checked_out.items none
    ∙ (ap (λ pid. is_open n pid f.ticket.serial) (sym c.finished.invariant.0)
    ∙ (ap (λ (x : FinishedSlice). is_open n x.origin.pid x.serial) c.finished.view_is
    ∙ ap (λ n. is_open n c.args.finished.now.origin.pid c.args.finished.now.serial) c.self.view_is))
