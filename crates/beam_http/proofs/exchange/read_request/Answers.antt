use Rattle.beam_http.proofs.AskedLemmas.{asked_by}
use Rattle.beam_http.proofs.exchange.read_request.Goals as goal

pub returns-in-Some : goal.returns-in-Some
returns-in-Some g c =
    let accepted = rw c.in-Some.is at c.in_ok-request.ensures.accepted in
    asked_by _ _ c.in-Some.request accepted
