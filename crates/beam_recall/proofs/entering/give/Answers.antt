use Rattle.std.proofs.Common.{◌≡◌, ◌<◌, IfSome, length, ap, subst, ◌∙◌}
use Rattle.beam_receipts.specs.Receipts.{SeatHistory}
use Rattle.beam_recall.proofs.Giving.{of_its_seat, same_number}
use Rattle.beam_recall.proofs.Numbers.{number_at, put_back}
use Rattle.beam_recall.proofs.entering.give.Goals as goal

pub returns-in-Some-clause-node : goal.returns-in-Some-clause-node
returns-in-Some-clause-node g c =
    let seats = c.args.seats.now.items in
    let s = c.index_mut.result.now in
    let there : c.in-Some.number < length seats = subst (λ o. IfSome o (λ n. n < length seats)) c.in-Some.is c.requires.there in
    let own : s.number ≡ c.in-Some.number = ap (λ (x : SeatHistory). x.number) c.index_mut.ensures.value ∙ number_at c.args.node.now.seats seats c.in-Some.number s c.requires.numbered there in
    of_its_seat c.command.result c.args.node.now c.command.new.self c.args.event c.args.seat c.in-Some.number s.number c.in-Some.is own c.command.ensures.node

pub returns-in-Some-clause-numbered : goal.returns-in-Some-clause-numbered
returns-in-Some-clause-numbered g c =
    let seats = c.args.seats.now.items in
    let s = c.index_mut.result.now in
    let there : c.in-Some.number < length seats = subst (λ o. IfSome o (λ n. n < length seats)) c.in-Some.is c.requires.there in
    let own : s.number ≡ c.in-Some.number = ap (λ (x : SeatHistory). x.number) c.index_mut.ensures.value ∙ number_at c.args.node.now.seats seats c.in-Some.number s c.requires.numbered there in
    let same : c.command.new.seat.number ≡ s.number = same_number c.command.result c.args.node.now c.args.event s c.command.new.seat c.command.ensures.seat c.command.ensures.noted in
    put_back c.args.node.now.seats seats c.in-Some.number c.command.new.seat c.requires.numbered there (same ∙ own)
