-- Why a command was refused, by the events that were entered before. (This node's own.)
use Rattle.std.specs.Prelude.{◌≡◌, ◌≢◌, ◌≤◌, ◌==◌, ◌-◌, ◌⊎◌, ℕ, List, [], ◌∷◌, length, take, All, ⊤, true, Err}
use Rattle.std.specs.List.{list_any}
use Rattle.beam_model.specs.Prelude.{Listing}
use Rattle.beam_machine.specs.declared.debug.DebugEvent.{DebugEvent}
use Rattle.beam_machine.specs.declared.event.Refused.TheVariants.{NoMemory}
use Rattle.beam_machine.specs.Prelude.{Entry, debug_next, number_of_refusal as number_of_refused, replay}
use Rattle.beam_laws.specs.Prelude.{is_busy}
use Rattle.beam_receipts.specs.declared.refusal.Refusal.{Refusal}
use Rattle.beam_receipts.specs.declared.refusal.Refusal.TheVariants.{Node, Busy, JournalFull}
use Rattle.beam_receipts.specs.Receipts.{Move, RefusedCommand, after_moves, of_seat}

-- the number of a refusal
abbrev pub number_of : Refusal → ℕ
number_of (Node refused) = number_of_refused refused
number_of Busy = 6
number_of JournalFull = 10

-- The refusal is one that the event can get after these entries and moves: the state to which the entries lead refuses the event for this
-- reason; or the event is of a process itself that is checked out. Memory may be refused to any event.
abbrev pub CanRefuse : List Entry → List Move → DebugEvent Listing → Refusal → Type 0
CanRefuse journal moves event JournalFull = ⊤
CanRefuse journal moves event Busy = list_any (λ pid. is_busy pid event) (after_moves [] moves) ≡ true
CanRefuse journal moves event (Node NoMemory) = ⊤
CanRefuse journal moves event (Node refused) = (debug_next (replay journal) event).answer ≡ Err refused

-- As many entries had left memory when there were `entered`: none, or as many as at one of these times; and at each other time fewer had
-- been entered, or no fewer than `entered`.
pub record IsDrainedAt (drains : List ℕ) (entered : ℕ) (drained : ℕ) : Type 0 where
  pub few : drained ≤ entered
  pub was : list_any (λ n. n == drained) (0 ∷ drains) ≡ true
  pub last : All (λ n. (n ≤ drained) ⊎ (entered ≤ n)) drains

-- a command of the seat of this number was refused, at this place in the journal, after these of its own entries and these times at which
-- entries left memory
pub record WasRefused (journal : List Entry) (moves : List Move) (drains : List ℕ) (number : ℕ) (r : RefusedCommand) : Type 0 where
  pub entered : r.entered ≤ length journal
  pub moved : r.moves ≤ length moves
  pub accepted : length (of_seat number (take r.entered journal)) ≡ r.accepted
  pub why : CanRefuse (take r.entered journal) (take r.moves moves) r.event r.refusal
  pub drained : IsDrainedAt drains r.entered r.drained

abbrev pub WereRefused : List Entry → List Move → List ℕ → ℕ → List RefusedCommand → Type 0
WereRefused journal moves drains number refused = All (WasRefused journal moves drains number) refused

-- a command is refused with `JournalFull` exactly if as many entries are in memory, which is the second number, as can be
abbrev pub IsFullAt : ℕ → ℕ → Refusal → Type 0
IsFullAt limit in_memory JournalFull = in_memory ≡ limit
IsFullAt limit in_memory refusal = in_memory ≢ limit

abbrev pub AreFullAt : ℕ → List RefusedCommand → Type 0
AreFullAt limit refused = All (λ r. IsFullAt limit (r.entered - r.drained) r.refusal) refused
