-- The seats of a shared node, and what they add up to. (This node's own.)
use Rattle.std.specs.Prelude.{◌≡◌, ◌<◌, ℕ, List, length, count_by, is_some, slice_get, sum_by, Some}
use Rattle.beam_machine.specs.Prelude.{Entry}
use Rattle.beam_receipts.specs.Receipts.{AreOfGiven, Move, SeatHistory, of_seat, sum_below}
use Rattle.beam_receipts.specs.Refused.{AreFullAt, WereRefused}
use Rattle.beam_shared.specs.Node.{Node}

-- no two of these seats have one number
abbrev pub AreDistinct : List SeatHistory → Type 0
AreDistinct seats = (i j : ℕ) (s t : SeatHistory) → slice_get seats i ≡ Some s → slice_get seats j ≡ Some t → s.number ≡ t.number → i ≡ j

-- these are all the node's seats, each once
abbrev pub AreAll : Node → List SeatHistory → Type 0
AreAll n seats = (length seats ≡ n.seats) × AreDistinct seats

-- each seat's number is below the count of seats given
abbrev pub AreBelow : ℕ → List SeatHistory → Type 0
AreBelow given seats = (i : ℕ) (s : SeatHistory) → slice_get seats i ≡ Some s → s.number < given

-- each seat keeps exactly the journal's entries of its number, in their order
abbrev pub Agree : List Entry → List SeatHistory → Type 0
Agree journal seats = (i : ℕ) (s : SeatHistory) → slice_get seats i ≡ Some s → s.kept ≡ of_seat s.number journal

-- each seat's refused commands could be refused so over this journal, these moves and these times at which entries left memory, `JournalFull`
-- exactly at the limit
abbrev pub WereEachRefused : List Entry → List Move → List ℕ → ℕ → List SeatHistory → Type 0
WereEachRefused journal moves drains limit seats = (i : ℕ) (s : SeatHistory) → slice_get seats i ≡ Some s
    → WereRefused journal moves drains s.number s.refused × AreFullAt limit s.refused

abbrev pub WereAllRefused : Node → List SeatHistory → Type 0
WereAllRefused n seats = WereEachRefused n.journal n.moves n.drains n.limit seats

-- ---- counts

-- how many of a journal's entries are commands of seats
abbrev pub commands_in : List Entry → ℕ
commands_in journal = count_by (λ e. is_some e.seat) journal

-- how many of a journal's entries are commands of one seat
abbrev pub commands_of : ℕ → List Entry → ℕ
commands_of number journal = length (of_seat number journal)

-- how many commands these seats keep together
abbrev pub commands_kept : List SeatHistory → ℕ
commands_kept seats = sum_by (λ s. length s.kept) seats

-- each command in the journal is of a seat that the node gave
abbrev pub AreOfSeats : Node → Type 0
AreOfSeats n = AreOfGiven n.seats n.journal

-- the commands of all of the node's seats are together as many as its journal has
abbrev pub AddUp : Node → Type 0
AddUp n = sum_below (λ number. commands_of number n.journal) n.seats ≡ commands_in n.journal
