-- What a shared node keeps, and how its parts agree. (This node's own.)
use Rattle.std.specs.Prelude.{◌≡◌, ◌<◌, ◌≤◌, ℕ, ◌==◌, List, [], ◌∷◌, length, map, slice_get, All, Option, Some, None, IfSome, true, if◌then◌else◌}
use Rattle.std.specs.List.{AllByRecursion, list_any}
use Rattle.beam_machine.specs.Prelude.{Debugged, replay}
use Rattle.beam_debug.specs.Prelude.{Debugger}
use Rattle.beam_journal.specs.Entering.{NodeJournal}
use Rattle.beam_laws.specs.Prelude.{IsEarlierCode, Origin, IsOut}
use Rattle.beam_receipts.specs.Receipts.{History, Move, AreOfGiven, after_moves}
use Rattle.beam_step.specs.Slices.{Work}
use Rattle.beam_shared.specs.declared.checked_out.CheckoutEntry.{CheckoutEntry}
use Rattle.beam_shared.specs.FinishedSlice.{CodeContext, context_of}
use Rattle.beam_shared.specs.Node.{Node, CheckedOut, most_seats}
use Rattle.beam_shared.specs.Refusals.{most_checkouts}

abbrev pub checked_out_of : CheckoutEntry → CheckedOut
checked_out_of entry = record { pid = entry.pid; serial = entry.serial }

-- what callers see of a node
abbrev pub node_of : Debugged → NodeJournal → History → List CheckoutEntry → Node
node_of d j known checked_out = record {
  state = d;
  journal = j.entries;
  drained = j.drained;
  drains = known.drains;
  seats = known.given;
  handed = known.checkouts;
  checked_out = map checked_out_of checked_out;
  moves = known.moves;
  limit = j.limit;
}

-- the code and the break spots of a node
abbrev pub context_in : Debugged → CodeContext
context_in d = record { code = d.node.code; spots = d.spots }

-- the origin of a checkout with this work and this context
abbrev pub origin_by : ℕ → Work → CodeContext → Origin
origin_by pid work context = record { pid = pid; process = work.process; passes = work.passes; code = context.code; spots = context.spots }

-- a process that is checked out: in the node it is as it was at its checkout, but for what others may do to it; and as long as the count of
-- changes is that of the checkout, code and break spots are those of the checkout
pub record IsHanded (d : Debugged) (changes : ℕ) (handed : List Origin) (entry : CheckoutEntry) : Type 0 where
  pub origin : Origin
  pub handed_out : slice_get handed entry.serial ≡ Some origin
  pub own : origin.pid ≡ entry.pid
  pub is_out : IsOut d origin
  pub kin : IsEarlierCode origin.code d.node
  pub few : entry.changes ≤ changes
  pub context : entry.changes ≡ changes → context_in d ≡ context_of origin

abbrev pub AreHanded : Debugged → ℕ → List Origin → List CheckoutEntry → Type 0
AreHanded d changes handed entries = AllByRecursion (IsHanded d changes handed) entries

-- The journal replays to the state, the keeper knows the journal's entries, each of its commands is of a seat that was given, there is room
-- in it for an entry of each process that is checked out, and the shared context has the node's code and break spots.
pub record NodeInvariant (d : Debugged) (j : NodeJournal) (known : History) (checked_out : List CheckoutEntry) (changes : ℕ) (shared : Option CodeContext) : Type 0 where
  pub replays : replay j.entries ≡ d
  pub known_is : known.journal ≡ j.entries
  pub seats : known.given ≤ most_seats
  pub of_given : AreOfGiven known.given j.entries
  pub checkouts : length known.checkouts ≤ most_checkouts
  pub capacity : length checked_out ≤ j.capacity
  pub counted : changes ≤ length j.entries
  pub handed : AreHanded d changes known.checkouts checked_out
  pub is_shared : IfSome shared (λ context. context ≡ context_in d)

-- each process that is checked out can be held as it is checked in, without memory
abbrev pub HasCapacityFor : Debugger → List CheckoutEntry → Type 0
HasCapacityFor d checked_out = AllByRecursion (λ (entry : CheckoutEntry). entry.pid < d.capacity) checked_out

-- the processes that are checked out are those that the moves leave out
abbrev pub AreThoseOut : List Move → List CheckoutEntry → Type 0
AreThoseOut moves checked_out = map (λ (entry : CheckoutEntry). entry.pid) checked_out ≡ after_moves [] moves

-- as many entries have left memory as when entries left it last, and no more than there are
pub record AreDrained (drains : List ℕ) (j : NodeJournal) : Type 0 where
  pub few : j.drained ≤ length j.entries
  pub was : list_any (λ n. n == j.drained) (0 ∷ drains) ≡ true
  pub last : All (λ n. n ≤ j.drained) drains

-- ---- the list of the processes that are checked out

abbrev pub entry_of : ℕ → List CheckoutEntry → Option CheckoutEntry
entry_of pid [] = None
entry_of pid (entry ∷ rest) = if entry.pid == pid then Some entry else entry_of pid rest
