use Rattle.std.proofs.Common.{◌≡◌, length, sym, ap, subst, ◌∙◌, arith}
use Rattle.std.proofs.lemmas.Bool.Decides.{nat_tests}
use Rattle.beam_shared.specs.Prelude.{Node, Agree, AreAll, AreBelow, AreOfSeats, WereAllRefused, WereEachRefused}
use Rattle.beam_shared.proofs.Totals.{they_add_up}
use Rattle.beam_shared.proofs.node.Node.close.Goals as goal

pub returns-then-are_distinct-clause-all : goal.returns-then-are_distinct-clause-all
returns-then-are_distinct-clause-all g c =
    let given : c.given.result ≡ c.args.self.seats = c.given.ensures ∙ ap (λ n. n.seats) c.node.view_is in
    let all : length c.args.seats.items ≡ c.args.self.seats = grind (arith, nat_tests, c.len.ensures, c.if-len-given.true, given) in
    (all, c.are_distinct.ensures.is.0 c.if-are_distinct.true)

pub returns-then-are_distinct-clause-below : goal.returns-then-are_distinct-clause-below
returns-then-are_distinct-clause-below g c =
    let below : AreBelow c.node.inside.keeper.given c.args.seats.items = c.are_distinct.ensures.below c.if-are_distinct.true in
    subst (λ (n : Node). AreBelow n.seats c.args.seats.items) c.node.view_is below

pub returns-then-are_distinct-clause-agree : goal.returns-then-are_distinct-clause-agree
returns-then-are_distinct-clause-agree g c =
    let agree : Agree c.node.inside.keeper.journal c.args.seats.items = c.are_distinct.ensures.agree c.if-are_distinct.true in
    subst (λ journal. Agree journal c.args.seats.items) (c.node.invariant.0.known_is ∙ ap (λ n. n.journal) c.node.view_is) agree

pub returns-then-are_distinct-clause-counts : goal.returns-then-are_distinct-clause-counts
returns-then-are_distinct-clause-counts g c =
    let given : c.given.result ≡ c.args.self.seats = c.given.ensures ∙ ap (λ n. n.seats) c.node.view_is in
    let as_many : length c.args.seats.items ≡ c.args.self.seats = grind (arith, nat_tests, c.len.ensures, c.if-len-given.true, given) in
    let all : AreAll c.args.self c.args.seats.items = (as_many, c.are_distinct.ensures.is.0 c.if-are_distinct.true) in
    let below : AreBelow c.args.self.seats c.args.seats.items
    = subst (λ (n : Node). AreBelow n.seats c.args.seats.items) c.node.view_is (c.are_distinct.ensures.below c.if-are_distinct.true) in
    let kept : Agree c.node.inside.keeper.journal c.args.seats.items = c.are_distinct.ensures.agree c.if-are_distinct.true in
    let agree : Agree c.args.self.journal c.args.seats.items
    = subst (λ journal. Agree journal c.args.seats.items) (c.node.invariant.0.known_is ∙ ap (λ n. n.journal) c.node.view_is) kept in
    let of_seats : AreOfSeats c.args.self = subst AreOfSeats c.node.view_is c.node.invariant.0.of_given in
    they_add_up c.args.self c.args.seats.items all below agree of_seats

pub returns-then-are_distinct-clause-refused : goal.returns-then-are_distinct-clause-refused
returns-then-are_distinct-clause-refused g c =
    let i = c.node.inside in
    let were : WereEachRefused i.keeper.journal i.keeper.moves i.keeper.drains g.B.NodeBrand.limit c.args.seats.items = c.are_distinct.ensures.refused c.if-are_distinct.true in
    let of_journal : WereEachRefused i.journal.entries i.keeper.moves i.keeper.drains g.B.NodeBrand.limit c.args.seats.items
    = subst (λ journal. WereEachRefused journal i.keeper.moves i.keeper.drains g.B.NodeBrand.limit c.args.seats.items) c.node.invariant.0.known_is were in
    let at_limit : WereEachRefused i.journal.entries i.keeper.moves i.keeper.drains i.journal.limit c.args.seats.items
    = subst (λ limit. WereEachRefused i.journal.entries i.keeper.moves i.keeper.drains limit c.args.seats.items) (sym c.node.invariant.2) of_journal in
    subst (λ (n : Node). WereAllRefused n c.args.seats.items) c.node.view_is at_limit
