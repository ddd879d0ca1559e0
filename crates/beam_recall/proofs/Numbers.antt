-- Seats in the order of their numbers.
use Rattle.std.proofs.Common.{◌≡◌, ℕ, ◌+◌, ◌<◌, List, [], ◌∷◌, ◌++◌, length, Some, sym, ap, ◌∙◌, arith, slice_get, slice_index_or as get_or, slice_set as set}
use Rattle.std.specs.List.{range_with_len}
use Rattle.std.proofs.lemmas.List.{get_or-map, length-map, map-append, map-id}
use Rattle.std.proofs.lemmas.List.FromFn.{get_or-range_with_len, length-range_with_len, map-range_with_len_more}
use Rattle.std.proofs.lemmas.Option.{get_or_from_slice_get, slice_get_within}
use Rattle.std.proofs.Math.Seq.{map-set_same}
use Rattle.beam_receipts.specs.Receipts.{SeatHistory}
use Rattle.beam_shared.specs.Prelude.{Node, AreAll}
use Rattle.beam_recall.specs.Recalling.{AreNumbered}

range_more : (n : ℕ) → range_with_len 0 (n + 1) ≡ range_with_len 0 n ++ n ∷ []
range_more n =
    sym (map-id (range_with_len 0 (n + 1)))
    ∙ (map-range_with_len_more (λ k. k) 0 n n (omega arith) ∙ ap (λ l. l ++ n ∷ []) (map-id (range_with_len 0 n)))

pub as_many : (given : ℕ) (seats : List SeatHistory) → AreNumbered given seats → length seats ≡ given
as_many given seats numbered = sym (length-map seats (λ s. s.number)) ∙ (ap length numbered ∙ length-range_with_len 0 given)

pub one_more : (given : ℕ) (seats : List SeatHistory) (s : SeatHistory) → AreNumbered given seats → s.number ≡ given → AreNumbered (given + 1) (seats ++ s ∷ [])
one_more given seats s numbered own =
    map-append (λ x. x.number) seats (s ∷ [])
    ∙ (ap (λ l. l ++ s.number ∷ []) numbered ∙ (ap (λ n. range_with_len 0 given ++ n ∷ []) own ∙ sym (range_more given)))

pub number_at : (given : ℕ) (seats : List SeatHistory) (i : ℕ) (d : SeatHistory) → AreNumbered given seats → i < length seats → (get_or seats i d).number ≡ i
number_at given seats i d numbered within =
    let less : i < given = omega (arith, within, as_many given seats numbered) in
    let own : 0 + i ≡ i = omega arith in
    sym (get_or-map (λ s. s.number) seats i d 0 within) ∙ (ap (λ l. get_or l i 0) numbered ∙ (get_or-range_with_len 0 given i 0 less ∙ own))

-- a seat that sent a command, or whose command was refused, keeps its number
pub put_back : (given : ℕ) (seats : List SeatHistory) (i : ℕ) (s : SeatHistory) → AreNumbered given seats → i < length seats → s.number ≡ i → AreNumbered given (set seats i s)
put_back given seats i s numbered within own =
    map-set_same (λ x. x.number) seats i s s (own ∙ sym (number_at given seats i s numbered within)) ∙ numbered

number_there : (given : ℕ) (seats : List SeatHistory) (i : ℕ) (s : SeatHistory) → AreNumbered given seats → slice_get seats i ≡ Some s → s.number ≡ i
number_there given seats i s numbered at =
    ap (λ (x : SeatHistory). x.number) (sym (get_or_from_slice_get seats i s s at)) ∙ number_at given seats i s numbered (slice_get_within seats i s at)

pub numbered_are_all : (n : Node) (seats : List SeatHistory) → AreNumbered n.seats seats → AreAll n seats
numbered_are_all n seats numbered = (
  as_many n.seats seats numbered,
  λ i j s t here there same. sym (number_there n.seats seats i s numbered here) ∙ (same ∙ number_there n.seats seats j t numbered there),
)
