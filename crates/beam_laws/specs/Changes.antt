-- Which events change code or break spots. (This node's own.)
use Rattle.std.specs.Prelude.{Bool, true, false}
use Rattle.beam_machine.specs.declared.debug.DebugEvent.{DebugEvent}
use Rattle.beam_machine.specs.declared.debug.DebugEvent.TheVariants.{SetBreak, ClearBreak, Node as NodeEvent}
use Rattle.beam_machine.specs.Prelude.{Touch, code, touch_of}
use Rattle.beam_model.specs.Prelude.{Listing}

abbrev pub touches_code : Touch → Bool
touches_code code = true
touches_code t = false

-- whether an event is one of code or of break spots; no other changes them
abbrev pub may_change : DebugEvent Listing → Bool
may_change (NodeEvent event) = touches_code (touch_of event)
may_change (SetBreak spot) = true
may_change (ClearBreak spot) = true
may_change _ = false
