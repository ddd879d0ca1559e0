use Rattle.std.proofs.Common.{◌≡◌, ◌+◌, Some, length, ap, subst, ◌∙◌, arith}
use Rattle.beam_recall.specs.Recalling.{HasSameCheckouts}
use Rattle.beam_recall.proofs.Sent.{enters_those, one_longer, stops}
use Rattle.beam_recall.proofs.recalling.recall.Goals as goal

pub loop-preserved : goal.loop-preserved
loop-preserved g c =
    let gives = g.S.RecordedEvents.next_gives in
    let l = c.loop in
    let more : gives l.events (Some c.in-Some.recorded) c.next.new.self = subst (λ o. gives l.events o c.next.new.self) c.in-Some.is c.in-Ok.ensures in
    let was : HasSameCheckouts c.args.node.now l.node = l.invariant.1 in
    let now : HasSameCheckouts l.node c.enter.new.node = c.enter.ensures.checkouts in
    let longer : length c.enter.new.node.journal ≡ length l.node.journal + 1
    = one_longer l.node c.enter.new.node c.in-Some.recorded c.in_default-enter.ensures.entered in (
      c.enter.ensures.numbered,
      (now.0 ∙ was.0, now.1 ∙ was.1, now.2 ∙ was.2, now.3 ∙ was.3, now.4 ∙ was.4, now.5 ∙ was.5),
      enters_those gives c.args.events.now c.args.node.now l.events c.next.new.self l.node c.enter.new.node c.in-Some.recorded l.invariant.2 more c.in_default-enter.ensures.entered,
      omega (arith, longer, l.invariant.3),
    )

pub returns-in-Err-enter-clause-err : goal.returns-in-Err-enter-clause-err
returns-in-Err-enter-clause-err g c =
    let gives = g.S.RecordedEvents.next_gives in
    let l = c.loop in
    let more : gives l.events (Some c.in-Some.recorded) c.next.new.self = subst (λ o. gives l.events o c.next.new.self) c.in-Some.is c.in-Ok.ensures in
    stops gives c.args.events.now c.args.node.now l.events c.next.new.self l.node c.enter.new.node c.in-Some.recorded c.in-Err-enter.why l.invariant.2 more c.in-Err-enter.ensures.err c.in-Err-enter.ensures.none
