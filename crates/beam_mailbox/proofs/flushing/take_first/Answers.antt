use Rattle.std.proofs.Common.{◌<◌, length, sym, ap, ◌∙◌, arith}
use Rattle.beam_machine.specs.Prelude.{is_of_reference}
use Rattle.beam_mailbox.proofs.Flushed.{from, taken_one, passed_one}
use Rattle.beam_mailbox.proofs.flushing.take_first.Goals as goal

pub returns-then-is_at : goal.returns-then-is_at
returns-then-is_at c =
    ap (λ m. m.messages) c.remove.ensures.rest
    ∙ (taken_one c.args.reference.now c.loop-mailbox.mailbox (sym c.is_at.ensures ∙ c.if-is_at.true) ∙ c.loop-mailbox.invariant)

pub loop-mailbox-preserved : goal.loop-mailbox-preserved
loop-mailbox-preserved c =
    let within : c.loop-mailbox.mailbox.position < length c.loop-mailbox.mailbox.messages = omega (arith, c.position.ensures, c.len.ensures, c.loop-mailbox-test.true) in
    ap (λ m. from (is_of_reference c.args.reference.now) m.position m.messages) c.next.ensures
    ∙ (passed_one c.args.reference.now c.loop-mailbox.mailbox within (sym c.is_at.ensures ∙ c.if-is_at.false) ∙ c.loop-mailbox.invariant)
