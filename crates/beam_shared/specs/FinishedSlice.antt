-- Rows of a process that is checked out, which are to be committed. (This node's own.)
use Rattle.std.specs.Prelude.{◌≡◌, ◌≢◌, ℕ, Bool, true, false, List, Option, Some, None}
use Rattle.beam_machine.specs.declared.action.Action.{Action}
use Rattle.beam_machine.specs.declared.action.Messaging.TheVariants.{WaitTimeout}
use Rattle.beam_machine.specs.declared.action.Step.{Step}
use Rattle.beam_machine.specs.declared.process.Goes.TheVariants.{At}
use Rattle.beam_machine.specs.Prelude.{Code, Debugged, step_of, Private, End, before_node_row, Process, is_ended, live_process}
use Rattle.beam_model.specs.Prelude.{Place}
use Rattle.beam_machine.specs.declared.action.Action.TheVariants.{Messaging}
use Rattle.beam_machine.specs.declared.action.Messaging.{Messaging as TheMessaging}
use Rattle.beam_machine.specs.declared.process.Goes.{Goes}
use Rattle.beam_laws.specs.Prelude.{Origin}
use Rattle.beam_receipts.specs.Receipts.{Checkout}
use Rattle.beam_step.specs.Slices.{Slice, RowsComeTo, capped}

-- the code and the break spots over which a process runs apart from the node
pub record CodeContext : Type 0 where
  pub code : Code
  pub spots : List Place

abbrev pub context_of : Origin → CodeContext
context_of origin = record { code = origin.code; spots = origin.spots }

-- the checkout's number and origin, the rows that were executed, and whether an allocation failure ended them
pub record FinishedSlice : Type 0 where
  pub serial : ℕ
  pub origin : Origin
  pub rows : Private
  pub cut : Bool

-- its rows are those of its process up to a limit, or up to 4,000 if that is less
abbrev pub ComesFrom : ℕ → FinishedSlice → Type 0
ComesFrom limit f = RowsComeTo f.origin.spots f.origin.passes f.origin.code (capped limit) f.origin.process f.rows f.cut

-- ---- whether the rows end before a row that sets a deadline

abbrev pub waits_for_time : TheMessaging → Bool
waits_for_time (WaitTimeout target duration) = true
waits_for_time _ = false

abbrev pub is_timed : Action → Bool
is_timed (Messaging messaging) = waits_for_time messaging
is_timed _ = false

abbrev pub is_timed_step : Option Step → Bool
is_timed_step (Some step) = is_timed step.action
is_timed_step None = false

-- whether the next row waits for a time
abbrev pub waits_at : Code → Goes → Bool
waits_at code (At place) = is_timed_step (step_of code place)
waits_at code _ = false

-- whether the next row of this process waits for a time
abbrev pub process_waits_next : Code → Option Process → Bool
process_waits_next code (Some p) = waits_at code p.goes
process_waits_next code None = false

-- whether the next row of the process of a number, which hasn't ended, waits for a time
abbrev pub waits_next : Debugged → ℕ → Bool
waits_next d pid = process_waits_next d.node.code (live_process d.node.processes pid)

-- the rows end before a row of the node that waits for a time; it is the node's only where the process has no deadline yet
abbrev pub sets_deadline_at : Code → Process → End → Bool
sets_deadline_at code p before_node_row = waits_at code p.goes
sets_deadline_at code p _ = false

abbrev pub sets_deadline : FinishedSlice → Bool
sets_deadline f = sets_deadline_at f.origin.code f.rows.process f.rows.end

-- the process hasn't ended, and no row of the node follows: the rows concern only their process and those to whom it sent
abbrev pub IsSelfContained : Private → Type 0
IsSelfContained rows = (is_ended rows.process.status ≡ false) × (rows.end ≢ before_node_row)

abbrev pub IsFinishedSlice : FinishedSlice → Type 0
IsFinishedSlice f = (limit : ℕ) × ComesFrom limit f

abbrev pub finished_slice : Checkout → Slice → FinishedSlice
finished_slice checkout slice = record { serial = checkout.serial; origin = checkout.origin; rows = slice.rows; cut = slice.cut }
