use Rattle.std.proofs.Common.{sym, ap, ◌∙◌, ◌≡◌, length, arith}
use Rattle.beam_machine.specs.Prelude.{is_this_term, is_of_reference}
use Rattle.beam_mailbox.proofs.Flushed.{of_five}
use Rattle.beam_mailbox.proofs.flushing.is_of_reference.Goals as goal

pub returns-then-items-eq5 : goal.returns-then-items-eq5
returns-then-items-eq5 c =
    let five : length c.in-Some.items.now ≡ 5 = omega (arith, c.if-items-eq5.true) in
    c.is_this_term.ensures
    ∙ (ap (is_this_term c.args.reference.now) c.second.ensures
    ∙ (sym (of_five c.args.reference.now c.in-Some.items.now five) ∙ ap (is_of_reference c.args.reference.now) (sym c.in-Some.ensures)))
