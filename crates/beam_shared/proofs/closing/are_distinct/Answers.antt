use Rattle.std.proofs.Common.{◌≡◌, ◌+◌, ◌≤◌, ◌<◌, Some, true, false, length, refl, sym, ap, subst, ◌∙◌, arith, true≢false, slice_get, slice_index_or as get_or, slice_set as set}
use Rattle.std.proofs.lemmas.Option.{slice_get_within}
use Rattle.beam_receipts.specs.Receipts.{History, of_seat}
use Rattle.beam_receipts.specs.Refused.{AreFullAt, WereRefused}
use Rattle.beam_shared.proofs.Seating.{AreNoted, each_more, none_noted, one_more, noted_twice, all_agree, all_below, all_distinct, written_back, read_is, seat_at}
use Rattle.beam_shared.proofs.closing.are_distinct.Goals as goal

pub loop-at-init : goal.loop-at-init
loop-at-init g c = record { keeper = refl; seats = refl; refused = λ i s less found. absurd (omega (arith, less)); noted = none_noted _ _ _ }

pub bounds-seen-number : goal.bounds-seen-number
bounds-seen-number g c =
    let l = c.loop-at in
    let length_is : length l.seats.items ≡ length c.args.seats.now.items = ap length l.invariant.seats in
    let within : l.at < length l.seats.items = omega (arith, c.loop-at-test.true, l.auto.at-end, c.len-at-end.ensures, length_is) in
    let is = read_is l.seats.items l.at c.index_mut.result.now c.check_seat.new.seat c.index.result.now within c.index_mut.ensures.value c.check_seat.ensures.seat c.index.ensures in
    let number : c.number-number.result ≡ c.index_mut.result.now.number = c.number-number.ensures ∙ ap (λ s. s.number) is in
    let given : l.keeper.given ≡ c.args.keeper.now.given = ap (λ k. k.given) l.invariant.keeper in
    let few : c.args.keeper.now.given ≤ 4096 = c.requires in
    omega (arith, number, given, few, c.check_seat.ensures.given)

pub returns-then-seen-number-clause-is : goal.returns-then-seen-number-clause-is
returns-then-seen-number-clause-is g c =
    let l = c.loop-at in
    let length_is : length l.seats.items ≡ length c.args.seats.now.items = ap length l.invariant.seats in
    let within : l.at < length l.seats.items = omega (arith, c.loop-at-test.true, l.auto.at-end, c.len-at-end.ensures, length_is) in
    let is = read_is l.seats.items l.at c.index_mut.result.now c.check_seat.new.seat c.index.result.now within c.index_mut.ensures.value c.check_seat.ensures.seat c.index.ensures in
    let number : c.number-number.result ≡ c.index_mut.result.now.number = c.number-number.ensures ∙ ap (λ s. s.number) is in
    let own : slice_get l.seats.items l.at ≡ Some c.index_mut.result.now = seat_at l.seats.items l.at c.index_mut.result.now c.check_seat.new.seat c.index.result.now within c.index_mut.ensures.value c.check_seat.ensures.seat c.index.ensures in
    let here : slice_get c.args.seats.now.items l.at ≡ Some c.index_mut.result.now = ap (λ items. slice_get items l.at) (sym l.invariant.seats) ∙ own in
    let seen : get_or l.seen c.index_mut.result.now.number false ≡ true = ap (λ n. get_or l.seen n false) (sym number) ∙ c.if-seen-number.true in
    (λ e. absurd (true≢false (sym e)), λ distinct. absurd (noted_twice _ _ _ l.seen l.at c.index_mut.result.now l.invariant.noted here seen distinct))

pub bounds-seen-number-in-loop-at : goal.bounds-seen-number-in-loop-at
bounds-seen-number-in-loop-at g c =
    let l = c.loop-at in
    let length_is : length l.seats.items ≡ length c.args.seats.now.items = ap length l.invariant.seats in
    let within : l.at < length l.seats.items = omega (arith, c.loop-at-test.true, l.auto.at-end, c.len-at-end.ensures, length_is) in
    let is = read_is l.seats.items l.at c.index_mut.result.now c.check_seat.new.seat c.index.result.now within c.index_mut.ensures.value c.check_seat.ensures.seat c.index.ensures in
    let number : c.number-number.result ≡ c.index_mut.result.now.number = c.number-number.ensures ∙ ap (λ s. s.number) is in
    let given : l.keeper.given ≡ c.args.keeper.now.given = ap (λ k. k.given) l.invariant.keeper in
    let few : c.args.keeper.now.given ≤ 4096 = c.requires in
    omega (arith, number, given, few, c.check_seat.ensures.given)

pub loop-at-preserved : goal.loop-at-preserved
loop-at-preserved g c =
    let l = c.loop-at in
    let s = c.index_mut.result.now in
    let length_is : length l.seats.items ≡ length c.args.seats.now.items = ap length l.invariant.seats in
    let within : l.at < length l.seats.items = omega (arith, c.loop-at-test.true, l.auto.at-end, c.len-at-end.ensures, length_is) in
    let is = read_is l.seats.items l.at s c.check_seat.new.seat c.index.result.now within c.index_mut.ensures.value c.check_seat.ensures.seat c.index.ensures in
    let number : c.number-number.result ≡ s.number = c.number-number.ensures ∙ ap (λ s. s.number) is in
    let given : l.keeper.given ≡ c.args.keeper.now.given = ap (λ k. k.given) l.invariant.keeper in
    let most : c.args.keeper.now.given ≤ 4096 = c.requires in
    let few : s.number < 4096 = omega (arith, given, most, c.check_seat.ensures.given) in
    let own : slice_get l.seats.items l.at ≡ Some s = seat_at l.seats.items l.at s c.check_seat.new.seat c.index.result.now within c.index_mut.ensures.value c.check_seat.ensures.seat c.index.ensures in
    let here : slice_get c.args.seats.now.items l.at ≡ Some s = ap (λ items. slice_get items l.at) (sym l.invariant.seats) ∙ own in
    let free : get_or l.seen s.number false ≡ false = ap (λ n. get_or l.seen n false) (sym number) ∙ c.if-seen-number.false in
    let kept : s.kept ≡ of_seat s.number c.args.keeper.now.journal = subst (λ k. s.kept ≡ of_seat s.number k.journal) l.invariant.keeper c.check_seat.ensures.kept in
    let below : s.number < c.args.keeper.now.given = omega (arith, given, c.check_seat.ensures.given) in
    let more = one_more c.args.keeper.now.given c.args.keeper.now.journal c.args.seats.now.items l.seen l.at s l.invariant.noted here few free kept below in
    let limit : s.limit ≡ g.B.NodeBrand.limit = c.check_seat.ensures.limit in
    let full : AreFullAt g.B.NodeBrand.limit s.refused = subst (λ n. AreFullAt n s.refused) limit c.check_seat.ensures.full in
    let were : WereRefused c.args.keeper.now.journal c.args.keeper.now.moves c.args.keeper.now.drains s.number s.refused
    = subst (λ (k : History). WereRefused k.journal k.moves k.drains s.number s.refused) l.invariant.keeper c.check_seat.ensures.refused in
    let back : set l.seats.items l.at c.check_seat.new.seat ≡ l.seats.items = written_back l.seats.items l.at s c.check_seat.new.seat c.index.result.now within c.index_mut.ensures.value c.check_seat.ensures.seat c.index.ensures in
    record {
      keeper = c.check_seat.ensures.keeper ∙ l.invariant.keeper;
      seats = back ∙ l.invariant.seats;
      refused = each_more (λ t. WereRefused c.args.keeper.now.journal c.args.keeper.now.moves c.args.keeper.now.drains t.number t.refused × AreFullAt g.B.NodeBrand.limit t.refused)
          c.args.seats.now.items l.at s here (were, full) l.invariant.refused;
      noted = subst (λ n. AreNoted c.args.keeper.now.given c.args.keeper.now.journal c.args.seats.now.items (set l.seen n true) (l.at + 1)) (sym number) more;
    }

pub returns-clause-is : goal.returns-clause-is
returns-clause-is g c =
    let l = c.loop-at in
    let all : length c.args.seats.now.items ≤ l.at = omega (arith, c.loop-at-test.false, l.auto.at-end, c.len-at-end.ensures) in
    (λ _. all_distinct _ _ _ l.seen l.at l.invariant.noted all, λ _. refl)

pub returns-clause-agree : goal.returns-clause-agree
returns-clause-agree g c =
    let l = c.loop-at in
    let all : length c.args.seats.now.items ≤ l.at = omega (arith, c.loop-at-test.false, l.auto.at-end, c.len-at-end.ensures) in
    λ _. all_agree _ _ _ l.seen l.at l.invariant.noted all

pub returns-clause-below : goal.returns-clause-below
returns-clause-below g c =
    let l = c.loop-at in
    let all : length c.args.seats.now.items ≤ l.at = omega (arith, c.loop-at-test.false, l.auto.at-end, c.len-at-end.ensures) in
    λ _. all_below _ _ _ l.seen l.at l.invariant.noted all

pub returns-clause-refused : goal.returns-clause-refused
returns-clause-refused g c =
    let l = c.loop-at in
    let all : length c.args.seats.now.items ≤ l.at = omega (arith, c.loop-at-test.false, l.auto.at-end, c.len-at-end.ensures) in
    λ _ i s found. let less = slice_get_within c.args.seats.now.items i s found in l.invariant.refused i s (omega (arith, less, all)) found
