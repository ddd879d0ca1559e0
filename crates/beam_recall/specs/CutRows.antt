-- Rows that an allocation failure cut short. (This node's own.)
use Rattle.std.specs.Prelude.{ℕ, nat_lt, ◌&&◌, Bool, false, Option, Some, None}
use Rattle.beam_debug.specs.declared.outcome.Outcome.{Outcome}
use Rattle.beam_debug.specs.declared.outcome.Outcome.TheVariants.{Node as NodeOutcome}
use Rattle.beam_machine.specs.declared.debug.DebugEvent.{DebugEvent}
use Rattle.beam_machine.specs.declared.debug.DebugEvent.TheVariants.{Node as NodeEvent}
use Rattle.beam_machine.specs.declared.event.Event.TheVariants.{Steps}
use Rattle.beam_machine.specs.declared.event.Reply.TheVariants.{Ran}
use Rattle.beam_machine.specs.declared.event.Then.TheVariants.{GoesOn}
use Rattle.beam_model.specs.Prelude.{Listing}

-- how many rows an event asks for
abbrev pub rows_asked : DebugEvent Listing → Option ℕ
rows_asked (NodeEvent (Steps pid rows)) = Some rows
rows_asked _ = None

-- whether fewer rows were executed than an event asked for, though the process could go on
abbrev pub is_cut : Option ℕ → Outcome → Bool
is_cut (Some rows) (NodeOutcome (Ran count GoesOn)) = nat_lt 0 count && nat_lt count rows
is_cut rows outcome = false
