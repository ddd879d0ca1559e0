use Rattle.std.proofs.Common.{◌≡◌, ◌+◌, ◌<◌, [], ◌∷◌, ◌++◌, length, take, sym, ap, ◌∙◌, rules}
use Rattle.std.proofs.lemmas.List.{take_more}
use Rattle.beam_machine.specs.Prelude.{Sent, posted}
use Rattle.beam_laws.specs.Prelude.{posted_all}
use Rattle.beam_state.specs.Posting.{all_taken}
use Rattle.beam_state.proofs.Untaken.{all_untaken, posted_more}
use Rattle.beam_state.proofs.posting.post_all.Goals as goal

pub returns-in-Err-clause-err : goal.returns-in-Err-clause-err
returns-in-Err-clause-err c =
    let before = take c.loop-index.index c.args.sent.now in
    c.take_all_back.ensures
    ∙ (ap (λ ps. all_taken ps before) (c.in-Err.ensures.err ∙ c.loop-index.invariant) ∙ all_untaken c.args.processes.now before)

pub loop-index-preserved : goal.loop-index-preserved
loop-index-preserved c =
    let sent = c.args.sent.now in
    let at = c.loop-index.index in
    let one : Sent = c.index-sent-index.result in
    let within : at < length sent = search rules in
    let front : take (at + 1) sent ≡ take at sent ++ one ∷ [] = take_more sent at one within ∙ ap (λ (e : Sent). take at sent ++ e ∷ []) (sym c.index-sent-index.is) in
    c.in_default.ensures.ok
    ∙ (ap (λ ps. posted ps one.to one.signal) c.loop-index.invariant
    ∙ (sym (posted_more c.args.processes.now (take at sent) one) ∙ ap (posted_all c.args.processes.now) (sym front)))
