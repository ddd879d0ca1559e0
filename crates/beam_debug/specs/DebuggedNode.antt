-- A node, and the state that its debugger keeps.
use Rattle.beam_machine.specs.Prelude.{Debugged, State}
use Rattle.beam_debug.specs.declared.debug_state.DebugState.{DebugState}

abbrev pub debugged : State → DebugState → Debugged
debugged s m = record { node = s; spots = m.spots.items; held = m.held.items; passing = m.passing.items }
