use Rattle.beam_records.specs.Pieces.{HasBody}
use Rattle.beam_records.proofs.Fronts.{at_some, at_none, ok_then}
use Rattle.beam_records.proofs.Records.{no_other}
use Rattle.beam_records.proofs.reading.opened_in.Goals as goal
use Rattle.std.proofs.Common.{subst, sym, List, ℕ}

pub sent_in-requires : goal.sent_in-requires
sent_in-requires c = (at_some c.body_in.result (c.in-Some.body, c.in-Some.rest) _ _ c.in-Some.is c.body_in.ensures).has_width

pub returns-in-Some-clause-found : goal.returns-in-Some-clause-found
returns-in-Some-clause-found c =
    let h : HasBody c.args.bytes.now c.args.kind c.in-Some.body.now c.in-Some.rest.now = at_some c.body_in.result (c.in-Some.body, c.in-Some.rest) _ _ c.in-Some.is c.body_in.ensures in
    ok_then c.sent_in.result
    (λ r k. (c.in-Some.body.now, subst (λ (l : List ℕ). HasBody c.args.bytes.now c.args.kind c.in-Some.body.now l) (sym k.2) h, k.0, k.1))
    c.sent_in.ensures.found

pub returns-in-Some-clause-none : goal.returns-in-Some-clause-none
returns-in-Some-clause-none c =
    let h : HasBody c.args.bytes.now c.args.kind c.in-Some.body.now c.in-Some.rest.now = at_some c.body_in.result (c.in-Some.body, c.in-Some.rest) _ _ c.in-Some.is c.body_in.ensures in
    λ is. no_other c.args.bytes.now c.args.kind c.in-Some.body.now c.in-Some.rest.now h (c.sent_in.ensures.none is)

pub returns-in-None-clause-none : goal.returns-in-None-clause-none
returns-in-None-clause-none c = λ is b rest d e h spells event. at_none c.body_in.result _ _ c.in-None.is c.body_in.ensures b rest h
