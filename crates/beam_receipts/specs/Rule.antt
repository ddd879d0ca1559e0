-- The passes of the node's table: what each claims, and the rule that ties them. (This node's own.)
use Rattle.std.specs.Prelude.{◌≡◌, ℕ, ◌+◌, ◌<◌, List, [], ◌∷◌, ◌++◌, length, slice_get, unwrap_or, Option, Some, None, option_map, IfSome}
use mathlib.Core.Option.{some}
use lib.ListN.{get_elem?}
use Rattle.beam_machine.specs.Prelude.{Entry}
use Rattle.beam_laws.specs.Prelude.{Origin}
use Rattle.beam_receipts.specs.Receipts.{History, empty_history, Checkout, no_checkout, RefusedCommand, moved_in, moved_out, of_seat, AreOfGiven}
use Rattle.beam_receipts.specs.Refused.{WereRefused}

-- a seat's number, its entries, and its commands that were refused
pub record SeatClaim : Type 0 where
  pub number : ℕ
  pub kept : List Entry
  pub refused : List RefusedCommand

-- the claim of a pass: the keeper's has the whole history, a seat's that of the seat, a ticket's its checkout, a drain receipt's the
-- entries with which the journal begins
pub record Claim : Type 0 where
  pub history : Option History
  pub seat_history : Option SeatClaim
  pub checkout : Option Checkout
  pub beginning : Option (List Entry)

abbrev pub keeper_claim : History → Claim
keeper_claim k = record { history = Some k; seat_history = None; checkout = None; beginning = None }

abbrev pub seat_claim : SeatClaim → Claim
seat_claim s = record { history = None; seat_history = Some s; checkout = None; beginning = None }

abbrev pub ticket_claim : Checkout → Claim
ticket_claim t = record { history = None; seat_history = None; checkout = Some t; beginning = None }

abbrev pub drain_claim : List Entry → Claim
drain_claim first = record { history = None; seat_history = None; checkout = None; beginning = Some first }

abbrev pub no_claim : Claim
no_claim = record { history = None; seat_history = None; checkout = None; beginning = None }

-- ---- the rule

-- the claim is of a seat that was given, it has all entries of that seat, and each of its commands that were refused could be refused so
abbrev pub IsSeatClaim : History → SeatClaim → Type 0
IsSeatClaim all s =
    (s.number < all.given) × (s.kept ≡ of_seat s.number all.journal) × WereRefused all.journal all.moves all.drains s.number s.refused

abbrev pub IsCheckout : History → Checkout → Type 0
IsCheckout all t = slice_get all.checkouts t.serial ≡ Some t.origin

-- the journal begins with these entries
abbrev pub IsBeginning : History → List Entry → Type 0
IsBeginning all first = (more : List Entry) × (all.journal ≡ first ++ more)

-- the claim of the pass of this number holds; just one pass knows the whole history, and just one has each seat's
abbrev pub Fits : History → ℕ → (ℕ → ℕ) → ℕ → Claim → Type 0
Fits all knower owner by c =
    IfSome c.history (λ k. (by ≡ knower) × (k ≡ all))
    × IfSome c.seat_history (λ s. (by ≡ owner s.number) × IsSeatClaim all s)
    × IfSome c.checkout (IsCheckout all)
    × IfSome c.beginning (IsBeginning all)

abbrev pub ClaimsAgree : List Claim → Type 0
ClaimsAgree claims =
    (all : History) × (knower : ℕ) × (owner : ℕ → ℕ) × AreOfGiven all.given all.journal
    × ((by : ℕ) (c : Claim) → get_elem? claims by ≡ some c → Fits all knower owner by c)

-- ---- steps

abbrev pub history_of : Claim → History
history_of c = unwrap_or c.history empty_history

-- one more seat was given
abbrev pub with_seat : History → History
with_seat k = record k { given = k.given + 1 }

abbrev pub with_entry : Entry → History → History
with_entry e k = record k { journal = k.journal ++ e ∷ [] }

abbrev pub with_origin : Origin → History → History
with_origin o k = record k { checkouts = k.checkouts ++ o ∷ []; moves = k.moves ++ moved_out o.pid ∷ [] }

-- a process was checked in
abbrev pub with_checked_in : ℕ → History → History
with_checked_in pid k = record k { moves = k.moves ++ moved_in pid ∷ [] }

-- all entries of the journal left memory
abbrev pub with_drain : History → History
with_drain k = record k { drains = length k.journal ∷ k.drains }

-- the claim of a new seat's pass, from the keeper's
abbrev pub new_seat_claim : Claim → Claim
new_seat_claim c = seat_claim (record { number = (history_of c).given; kept = []; refused = [] })

-- the claim of a new ticket's pass, from the keeper's
abbrev pub new_ticket_claim : Origin → Claim → Claim
new_ticket_claim o c = ticket_claim (record { serial = length (history_of c).checkouts; origin = o })

-- the claim of a new drain receipt's pass, from the keeper's: no entries
abbrev pub new_drain_claim : Claim → Claim
new_drain_claim c = drain_claim []

-- the claim of a drain receipt's pass after all entries left memory, from the keeper's
abbrev pub drained_claim : Claim → Claim
drained_claim c = drain_claim (history_of c).journal

abbrev pub with_seat_entry : Entry → SeatClaim → SeatClaim
with_seat_entry e s = record s { kept = s.kept ++ e ∷ [] }

abbrev pub with_refused : RefusedCommand → SeatClaim → SeatClaim
with_refused r s = record s { refused = s.refused ++ r ∷ [] }

-- the claim of the keeper's pass, with a seat's, a ticket's or a drain receipt's claim taken in
abbrev pub taken_in : Claim → Claim → Claim
taken_in k c = record c { history = k.history }

-- the claim of the keeper's pass, without the one that it had taken in
abbrev pub alone : Claim → Claim
alone c = record { history = c.history; seat_history = None; checkout = None; beginning = None }

-- the claim that the keeper's pass had taken in
abbrev pub given_back : Claim → Claim
given_back c = record c { history = None }

-- the claim of the keeper's pass without the seat history that it had taken in, after an entry of that seat
abbrev pub alone_with : Entry → Claim → Claim
alone_with e c = record { history = option_map (with_entry e) c.history; seat_history = None; checkout = None; beginning = None }

abbrev pub given_back_with : Entry → Claim → Claim
given_back_with e c =
    record { history = None; seat_history = option_map (with_seat_entry e) c.seat_history; checkout = None; beginning = None }

-- the claim that the keeper's pass had taken in, with one more command that was refused
abbrev pub given_back_refused : RefusedCommand → Claim → Claim
given_back_refused r c = record c { history = None; seat_history = option_map (with_refused r) c.seat_history }

-- the claim of the keeper's pass, without the one that it had taken in, after all entries left memory
abbrev pub alone_drained : Claim → Claim
alone_drained c = record { history = option_map with_drain c.history; seat_history = None; checkout = None; beginning = None }

-- each entry of a seat in the keeper's history is of one that was given, and the claim that its pass took in agrees with the history
abbrev pub Compares : Claim → Type 0
Compares c =
    IfSome c.history (λ k. AreOfGiven k.given k.journal × IfSome c.seat_history (IsSeatClaim k) × IfSome c.checkout (IsCheckout k)
    × IfSome c.beginning (IsBeginning k))

-- ---- what a receipt shows

abbrev pub kept_in : Option SeatClaim → List Entry
kept_in None = []
kept_in (Some s) = s.kept

abbrev pub kept_by : List Claim → List Entry
kept_by [] = []
kept_by (c ∷ rest) = kept_in c.seat_history

abbrev pub refused_in : Option SeatClaim → List RefusedCommand
refused_in None = []
refused_in (Some s) = s.refused

abbrev pub refused_by : List Claim → List RefusedCommand
refused_by [] = []
refused_by (c ∷ rest) = refused_in c.seat_history

abbrev pub checkout_of : Claim → Checkout
checkout_of c = unwrap_or c.checkout no_checkout

abbrev pub beginning_in : Option (List Entry) → List Entry
beginning_in None = []
beginning_in (Some first) = first

abbrev pub beginning_by : List Claim → List Entry
beginning_by [] = []
beginning_by (c ∷ rest) = beginning_in c.beginning
