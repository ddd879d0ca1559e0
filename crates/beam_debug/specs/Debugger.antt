-- A node with its debugger, as callers see it. (This node's own.)
use Rattle.std.specs.Prelude.{ℕ, List, vec_capacity}
use Rattle.beam_model.specs.Prelude.{Listing}
use Rattle.beam_machine.specs.declared.debug.DebugEvent.{DebugEvent}
use Rattle.beam_machine.specs.Prelude.{Debugged, erase, run, State}
use Rattle.beam_debug.specs.declared.debug_state.DebugState.{DebugState}
use Rattle.beam_debug.specs.DebuggedNode.{debugged}

pub record Debugger : Type 0 where
  pub state : Debugged
  pub capacity : ℕ  -- the processes with numbers below it can be held without memory

abbrev pub capacity_of : DebugState → ℕ
capacity_of m = vec_capacity m.held

abbrev pub debugger_of : State → DebugState → Debugger
debugger_of s m = record { state = debugged s m; capacity = capacity_of m }

-- the node after these events, without the debugger's among them
abbrev pub node_alone : Debugged → List (DebugEvent Listing) → State
node_alone d events = (run d.node (erase d events)).state
