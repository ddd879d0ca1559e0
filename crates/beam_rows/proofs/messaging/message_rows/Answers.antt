use Rattle.std.proofs.Common.{◌≡◌, ◌&&◌, false, true, Some, None, OnErr, sym, subst}
use Rattle.beam_machine.specs.declared.action.Messaging.{Messaging as TheMessaging}
use Rattle.beam_machine.specs.declared.action.Messaging.TheVariants as messaging
use Rattle.beam_model.specs.Prelude.{message_at, with_reset}
use Rattle.beam_machine.specs.Prelude.{is_quiet_message, is_calm, goes_on, makes, message_rows, peeks}
use Rattle.beam_rows.specs.Prelude.{Performs, without_exception, removes, skips, Why}
use Rattle.beam_rows.proofs.Finished.{row_does, row_fails}
use Rattle.beam_rows.proofs.messaging.message_rows.Goals as goal

pub returns-in-Peek-clause-does : goal.returns-in-Peek-clause-does
returns-in-Peek-clause-does c =
    let p = c.args.process.now in
    let next = c.args.next in
    let row = c.loop_rec_row-row in
    let ends = rw c.instance.ensures at c.finish.ensures in
    let does = row_does (λ q. peeks q next c.in-Peek.dest (Some c.row_there.result) (message_at q.mailbox)) next.instance p row.new.process c.finish.new.process c.requires.stands.0 row.result c.finish.result c.requires.stands.1 c.requires.runs row.ensures.status row.ensures.row row.ensures.why ends in
    subst (λ (m : TheMessaging). Performs p (message_rows m next p) c.finish.result c.finish.new.process) (sym c.in-Peek.is) (subst (λ o. Performs p (makes (peeks p next c.in-Peek.dest o (message_at p.mailbox))) c.finish.result c.finish.new.process) (sym c.row_there.ensures) does)

pub returns-in-Skip-clause-does : goal.returns-in-Skip-clause-does
returns-in-Skip-clause-does c =
    let p = c.args.process.now in
    let next = c.args.next in
    let row = c.loop_rec_end_row-row in
    let ends = rw c.instance-in-Skip.ensures at c.finish-in-Skip.ensures in
    let does = row_does (skips next.instance (Some c.row_there-in-Skip.result)) next.instance p row.new.process c.finish-in-Skip.new.process c.requires.stands.0 row.result c.finish-in-Skip.result c.requires.stands.1 c.requires.runs row.ensures.status row.ensures.row row.ensures.why ends in
    subst (λ (m : TheMessaging). Performs p (message_rows m next p) c.finish-in-Skip.result c.finish-in-Skip.new.process) (sym c.in-Skip.is) (subst (λ o. Performs p (makes (skips next.instance o p)) c.finish-in-Skip.result c.finish-in-Skip.new.process) (sym c.row_there-in-Skip.ensures) does)

pub returns-in-Skip-clause-loud : goal.returns-in-Skip-clause-loud
returns-in-Skip-clause-loud c =
    let p = c.args.process.now in
    let next = c.args.next in
    let row = c.loop_rec_end_row-row in
    let ends = rw c.instance-in-Skip.ensures at c.finish-in-Skip.ensures in
    let loud = row_fails _ next.instance row.new.process c.finish-in-Skip.new.process row.result c.finish-in-Skip.result row.ensures.loud ends in
    subst (λ (m : TheMessaging). OnErr c.finish-in-Skip.result ((is_quiet_message m && is_calm (message_rows m next (without_exception p))) ≡ false)) (sym c.in-Skip.is) (subst (λ o. OnErr c.finish-in-Skip.result (is_calm (makes (skips next.instance o (without_exception p))) ≡ false)) (sym c.row_there-in-Skip.ensures) loud)

pub returns-in-Remove-clause-does : goal.returns-in-Remove-clause-does
returns-in-Remove-clause-does c =
    let p = c.args.process.now in
    let next = c.args.next in
    let row = c.remove_message_row-row in
    let ends = rw c.instance-in-Remove.ensures at c.finish-in-Remove.ensures in
    let does = row_does (removes next) next.instance p row.new.process c.finish-in-Remove.new.process c.requires.stands.0 row.result c.finish-in-Remove.result c.requires.stands.1 c.requires.runs row.ensures.status row.ensures.row row.ensures.why ends in
    subst (λ (m : TheMessaging). Performs p (message_rows m next p) c.finish-in-Remove.result c.finish-in-Remove.new.process) (sym c.in-Remove.is) (does)

pub returns-in-Remove-clause-loud : goal.returns-in-Remove-clause-loud
returns-in-Remove-clause-loud c =
    let p = c.args.process.now in
    let next = c.args.next in
    let row = c.remove_message_row-row in
    let ends = rw c.instance-in-Remove.ensures at c.finish-in-Remove.ensures in
    let loud = row_fails _ next.instance row.new.process c.finish-in-Remove.new.process row.result c.finish-in-Remove.result row.ensures.loud ends in
    subst (λ (m : TheMessaging). OnErr c.finish-in-Remove.result ((is_quiet_message m && is_calm (message_rows m next (without_exception p))) ≡ false)) (sym c.in-Remove.is) (loud)

pub returns-in-Timeout-clause-does : goal.returns-in-Timeout-clause-does
returns-in-Timeout-clause-does c =
    let p = c.args.process.now in
    let next = c.args.next in
    let row = c.timeout_row-row in
    let ends = rw c.instance-in-Timeout.ensures at c.finish-in-Timeout.ensures in
    let does = row_does (λ q. goes_on (record q { mailbox = with_reset q.mailbox; deadline = None }) next) next.instance p row.new.process c.finish-in-Timeout.new.process c.requires.stands.0 row.result c.finish-in-Timeout.result c.requires.stands.1 c.requires.runs row.ensures.status row.ensures.row (subst (λ o. Why true (λ q. goes_on (record q { mailbox = with_reset q.mailbox; deadline = None }) next) p o) (sym row.ensures.done) tt) ends in
    subst (λ (m : TheMessaging). Performs p (message_rows m next p) c.finish-in-Timeout.result c.finish-in-Timeout.new.process) (sym c.in-Timeout.is) (does)

pub returns-in-Timeout-clause-loud : goal.returns-in-Timeout-clause-loud
returns-in-Timeout-clause-loud c =
    let p = c.args.process.now in
    let next = c.args.next in
    let row = c.timeout_row-row in
    let ends = rw c.instance-in-Timeout.ensures at c.finish-in-Timeout.ensures in
    let loud = row_fails _ next.instance row.new.process c.finish-in-Timeout.new.process row.result c.finish-in-Timeout.result (subst (λ o. OnErr o (is_calm (message_rows messaging.Timeout next (without_exception p)) ≡ false)) (sym row.ensures.done) tt) ends in
    subst (λ (m : TheMessaging). OnErr c.finish-in-Timeout.result ((is_quiet_message m && is_calm (message_rows m next (without_exception p))) ≡ false)) (sym c.in-Timeout.is) (loud)
