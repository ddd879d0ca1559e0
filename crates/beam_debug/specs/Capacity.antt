-- Which processes can be held without memory. (This node's own.)
use Rattle.std.specs.Prelude.{◌≡◌, ◌<◌, ◌≤◌, ◌+◌, ◌||◌, ℕ, Bool, true, false, List, [], ◌∷◌, slice_get, Some}
use Rattle.beam_machine.specs.declared.debug.DebugEvent.{DebugEvent}
use Rattle.beam_machine.specs.declared.event.Event.TheVariants.{Steps}
use Rattle.beam_machine.specs.declared.process.Goes.TheVariants.{At, Enter, Nowhere}
use Rattle.beam_machine.specs.Prelude.{Debugged, Process, is_waiting}
use Rattle.beam_machine.specs.declared.debug.DebugEvent.TheVariants.{Node as NodeEvent}
use Rattle.beam_machine.specs.declared.process.Goes.{Goes}
use Rattle.beam_model.specs.Prelude.{Listing}

abbrev pub is_at_row : Goes → Bool
is_at_row (At place) = true
is_at_row (Enter «module» function arity) = false
is_at_row Nowhere = false

-- a process that hasn't ended has begun if it stands at a row or waits, and not at its first entry
abbrev pub has_begun : Process → Bool
has_begun p = is_at_row p.goes || is_waiting p.status

-- rising numbers, from the lower bound on and below the upper one
abbrev pub AreRising : ℕ → ℕ → List ℕ → Type 0
AreRising low high [] = Unit {0}
AreRising low high (n ∷ rest) = (low ≤ n) × ((n < high) × AreRising (n + 1) high rest)

-- no process has begun whose number is `capacity` or more; process n is the n-th of the list
abbrev pub BeginBelow : ℕ → List Process → Type 0
BeginBelow capacity ps = (i : ℕ) (p : Process) → slice_get ps i ≡ Some p → capacity ≤ i + 1 → has_begun p ≡ false

-- the processes with numbers below `capacity` can be held without memory: all that are held or have begun have such numbers
pub record HasCapacity (d : Debugged) (capacity : ℕ) : Type 0 where
  pub held : AreRising 0 capacity d.held
  pub begun : BeginBelow capacity d.node.processes

-- the capacity is enough for the process of an event that runs rows
abbrev pub CapacityFor : ℕ → DebugEvent Listing → Type 0
CapacityFor capacity (NodeEvent (Steps pid n)) = 0 < n → pid < capacity
CapacityFor capacity event = Unit {0}
