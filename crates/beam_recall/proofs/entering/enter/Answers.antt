use Rattle.std.proofs.Common.{◌≡◌, false, [], ◌∷◌, ◌++◌, sym, ap, subst, ◌∙◌}
use Rattle.beam_debug.specs.Prelude.{reply_of}
use Rattle.beam_journal.specs.Entering.{entry_of}
use Rattle.beam_machine.specs.Prelude.{SentEvent, sent_event_of}
use Rattle.beam_shared.specs.Prelude.{Node, RefusesCommand}
use Rattle.beam_recall.specs.CutRows.{is_cut, rows_asked}
use Rattle.beam_recall.proofs.CutShort.{is_whole}
use Rattle.beam_recall.proofs.Sent.{enters_one}
use Rattle.beam_recall.proofs.entering.enter.Goals as goal

pub returns-in-Err-clause-err : goal.returns-in-Err-clause-err
returns-in-Err-clause-err g c = c.in-Err.ensures.err c.args.recorded (sym (ap (λ (s : SentEvent). s.seat) c.recorded.view_is))

pub returns-in-Err-give-clause-err : goal.returns-in-Err-give-clause-err
returns-in-Err-give-clause-err g c =
    let event = c.into_parts-event.result.0 in
    let event_is : event ≡ c.args.recorded.event = c.into_parts-event.ensures.event in
    let there : RefusesCommand c.give.new.node event c.in-Err-give.refusal
    = subst (λ n. RefusesCommand n event c.in-Err-give.refusal) (sym c.in-Err-give.ensures.err) c.in-Err-give.ensures.refused in
    c.refused.ensures c.args.recorded (subst (λ e. RefusesCommand c.give.new.node e c.in-Err-give.refusal) event_is there)

pub returns-clause-entered : goal.returns-clause-entered
returns-clause-entered g c =
    let event = c.into_parts-event.result.0 in
    let seat = c.recorded.inside.seat in
    let outcome = c.in-Ok.outcome in
    let old = c.args.node.now.journal in
    let whole : is_cut (rows_asked event) outcome ≡ false = ap (λ rows. is_cut rows outcome) (sym c.rows_asked-rows.ensures) ∙ (sym c.is_cut.ensures ∙ c.if-is_cut.false) in
    let before : c.ready_seat.new.node.journal ≡ old = ap (λ (n : Node). n.journal) c.ready_seat.ensures.node in
    let longer : c.give.new.node.journal ≡ old ++ entry_of event seat (reply_of outcome) ∷ []
    = ap (λ (n : Node). n.journal) c.in-Ok.ensures.node ∙ ap (λ es. es ++ entry_of event seat (reply_of outcome) ∷ []) before in
    let same : sent_event_of (entry_of event seat (reply_of outcome)) ≡ c.args.recorded
    = ap (λ e. record { event = e; seat = seat }) (is_whole event outcome whole ∙ c.into_parts-event.ensures.event)
    ∙ ap (λ s. record { event = c.args.recorded.event; seat = s }) (ap (λ (s : SentEvent). s.seat) c.recorded.view_is) in
    enters_one old c.give.new.node.journal event seat (reply_of outcome) c.args.recorded longer same
