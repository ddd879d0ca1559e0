-- Which events of the node change code, and what they do to the shared copy of it. (This node's own.)
use Rattle.std.specs.Prelude.{ℕ, ◌+◌, Bool, if◌then◌else◌, Option, None}
use Rattle.beam_machine.specs.declared.debug.DebugEvent.TheVariants.{Node as NodeEvent}
use Rattle.beam_model.specs.Prelude.{Listing}
use Rattle.beam_machine.specs.declared.debug.DebugEvent.{DebugEvent}
use Rattle.beam_machine.specs.declared.event.Event.{Event}
use Rattle.beam_laws.specs.Prelude.{may_change}
use Rattle.beam_shared.specs.FinishedSlice.{CodeContext}

abbrev pub is_of_code : Event Listing → Bool
is_of_code event = may_change (NodeEvent event)

-- a change of code or of break spots is counted
abbrev pub changes_after : DebugEvent Listing → ℕ → ℕ
changes_after event n = if may_change event then n + 1 else n

-- a change of code or of break spots drops the copy that was shared
abbrev pub context_after : DebugEvent Listing → Option CodeContext → Option CodeContext
context_after event context = if may_change event then None else context
