use Rattle.std.proofs.Common.{◌≡◌, ◌+◌, ◌<◌, ◌∷◌, length, sym, ap, subst, ◌∙◌, drop, arith}
use Rattle.std.proofs.lemmas.List.{drop_more}
use Rattle.beam_journal.proofs.Replayed.{SentOn, rest_of}
use Rattle.beam_journal.proofs.replay.replayed.Goals as goal

pub loop-entry-preserved : goal.loop-entry-preserved
loop-entry-preserved c =
    let all = c.args.entries.now in
    let at = c.loop-entry.entry-index in
    let s = c.entry-item.result in
    let rest = drop (at + 1) all in
    let within : at < length all = c.loop-entry-test.true in
    let here : drop at all ≡ s ∷ rest = drop_more all at s within ∙ ap (λ x. x ∷ rest) (sym c.entry-item.is) in
    let was : SentOn c.loop-entry.node.state (s ∷ rest) all = subst (λ l. SentOn c.loop-entry.node.state l all) here c.loop-entry.invariant in
    subst (λ d. SentOn d rest all) (sym c.in_ok-again.ensures.done) (rest_of c.loop-entry.node.state s rest all was)
