use Rattle.beam_records.specs.Pieces.{OpensWith}
use Rattle.beam_records.proofs.Fronts.{at_some, at_none, ok_then}
use Rattle.beam_records.proofs.Records.{one_found, no_opening, no_event}
use Rattle.beam_records.proofs.reading.record_in.Goals as goal

pub returns-in-Some-clause-found : goal.returns-in-Some-clause-found
returns-in-Some-clause-found c =
    let o : OpensWith c.args.bytes.now c.in-Some.seat c.in-Some.kind c.in-Some.rest.now =
    at_some c.opening_in.result (c.in-Some.kind, c.in-Some.seat, c.in-Some.rest) _ _ c.in-Some.is c.opening_in.ensures in
    ok_then c.opened_in.result
    (λ r k. one_found c.args.bytes.now c.in-Some.seat c.in-Some.kind c.in-Some.rest.now k.0 r.1.now r.0 o k.1 k.2 k.3)
    c.opened_in.ensures.found

pub returns-in-Some-clause-none : goal.returns-in-Some-clause-none
returns-in-Some-clause-none c =
    let o : OpensWith c.args.bytes.now c.in-Some.seat c.in-Some.kind c.in-Some.rest.now =
    at_some c.opening_in.result (c.in-Some.kind, c.in-Some.seat, c.in-Some.rest) _ _ c.in-Some.is c.opening_in.ensures in
    λ is. no_event c.args.bytes.now c.in-Some.seat c.in-Some.kind c.in-Some.rest.now o (c.opened_in.ensures.none is)

pub returns-in-None-clause-none : goal.returns-in-None-clause-none
returns-in-None-clause-none c = λ is. no_opening c.args.bytes.now (at_none c.opening_in.result _ _ c.in-None.is c.opening_in.ensures)
