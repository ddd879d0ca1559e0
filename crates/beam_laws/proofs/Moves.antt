-- What a row may do to its process: one relation, by whose few constructors laws over all rows are proved (Moving has that each row moves so).
use Rattle.std.proofs.Common.{◌≡◌, ℕ, Bool, true, false, List, [], ◌∷◌, Option, Some, None, filter, slice_set, drop, replicate}
use Rattle.beam_machine.specs.declared.action.Action.{Action}
use Rattle.beam_machine.specs.declared.action.Action.TheVariants.{Control as ControlAction}
use Rattle.beam_machine.specs.declared.action.Control.{Control}
use Rattle.beam_machine.specs.declared.action.Control.TheVariants as control
use Rattle.beam_machine.specs.declared.callee.After.TheVariants.{NextRow, Return}
use Rattle.beam_machine.specs.declared.callee.Callee.{Callee}
use Rattle.beam_machine.specs.declared.callee.Callee.TheVariants as callee
use Rattle.beam_machine.specs.declared.process.Deadline.{Deadline}
use Rattle.beam_machine.specs.declared.process.Frame.{Frame}
use Rattle.beam_machine.specs.declared.process.Monitor.{Monitor}
use Rattle.beam_machine.specs.declared.process.Signal.TheVariants.{Message}
use Rattle.beam_machine.specs.declared.process.Slot.{Slot}
use Rattle.beam_machine.specs.declared.process.Slot.TheVariants.{Value, Tag}
use Rattle.beam_machine.specs.Prelude.{Code, entry_of, Process, with_y, Outcome, makes, sends, asks, sleeps, raises, goes_on, returns_to, with_new_frame, waits_for_message}
use Rattle.beam_model.specs.declared.exception.Exception.{Exception}
use Rattle.beam_model.specs.declared.native.NodeNative.{NodeNative}
use Rattle.beam_model.specs.Prelude.{Mailbox, Place}
use Rattle.beam_term.specs.Prelude.{TermValue, nil_term}

-- the place lies in the row's instance; a process that enters its first function stands in none
abbrev pub Near : Option ℕ → Place → Type 0
Near here place = here ≡ Some place.instance

-- ---- what a row changes before it goes on

abbrev pub IsNearSlot : Option ℕ → Slot → Type 0
IsNearSlot here (Tag tag) = Near here tag.place
IsNearSlot here (Value t) = Unit {0}

-- the y registers of the newest frame, if it has any
abbrev pub newest_slots : List Frame → Option (List Slot)
newest_slots [] = None
newest_slots (frame ∷ older) = frame.y

-- y registers that a row makes of those before it
pub data Slots (here : Option ℕ) : Option (List Slot) → Option (List Slot) → Type 0 where
  put : (y : List Slot) (n : ℕ) (slot : Slot) → IsNearSlot here slot → Slots here (Some y) (Some (slice_set y n slot))
  trim : (y : List Slot) (m : ℕ) → Slots here (Some y) (Some (drop m y))
  allocate : (o : Option (List Slot)) (n : ℕ) → Slots here o (Some (replicate n (Value nil_term)))
  deallocate : (o : Option (List Slot)) → Slots here o None

-- the process of a row that began with start, before it goes on
pub data Changes (here : Option ℕ) (start : Process) : Process → Type 0 where
  begins : Changes here start start
  -- x registers, the pending exception and the mailbox
  writes : (p : Process) (x : List TermValue) (pending : Option Exception) (mailbox : Mailbox) → Changes here start p
      → Changes here start (record p { x = x; pending = pending; mailbox = mailbox })
  demonitors : (p : Process) (keep : Monitor → Bool) → Changes here start p → Changes here start (record p { monitors = filter keep p.monitors })
  calls : (p : Process) (back : Place) → Near here back → Changes here start p → Changes here start (with_new_frame p back)
  -- the y registers of the newest frame
  slots : (p : Process) (y : Option (List Slot)) → Slots here (newest_slots p.frames) y → Changes here start p
      → Changes here start (record p { frames = with_y p.frames y })

-- ---- how it goes on

-- a process with the name, the signals in transit and the status of start; and one that has no name and no signals
abbrev pub named : Process → Process → Process
named start q = record q { name = start.name; transit = start.transit; status = start.status }

abbrev pub bare : Process → Process → Process
bare start q = record q { name = None; transit = []; status = start.status }

-- The outcome of a row that began with start, and that of the row if start had no name and no signals: it reads neither. A row that isn't far neither
-- enters a function by the name of its module nor returns.
pub data Moves (code : Code) (here : Option ℕ) (far : Bool) (start : Process) : Outcome → Outcome → Type 0 where
  goes : (q : Process) (place : Place) → Near here place → Changes here start q
      → Moves code here far start (makes (goes_on (named start q) place)) (makes (goes_on (bare start q) place))
  enters : (q : Process) («module» name : List ℕ) (arity : ℕ) (place : Place) → far ≡ true → entry_of code «module» name arity ≡ Some place → Changes here start q
      → Moves code here far start (makes (goes_on (named start q) place)) (makes (goes_on (bare start q) place))
  returns : (q : Process) (frame : Frame) (older : List Frame) → far ≡ true → q.frames ≡ frame ∷ older → Changes here start q
      → Moves code here far start (makes (returns_to (named start q) older frame.back)) (makes (returns_to (bare start q) older frame.back))
  raise : (q : Process) (e : Exception) → Changes here start q → Moves code here far start (makes (raises (named start q) e)) (makes (raises (bare start q) e))
  -- a message was received, or the time for it is over
  receives : (q : Process) (place : Place) → Near here place → Changes here start q
      → Moves code here far start (makes (goes_on (record (named start q) { deadline = None }) place)) (makes (goes_on (record (bare start q) { deadline = None }) place))
  -- waits at a place, without a deadline, or until one after which it goes on near
  waits : (q : Process) (place : Place) → Near here place → Changes here start q
      → Moves code here far start (makes (record (waits_for_message (named start q) place) { deadline = None }))
      (makes (record (waits_for_message (bare start q) place) { deadline = None }))
  waits_until : (q : Process) (place : Place) (d : Deadline) → Near here place → Near here d.after → Changes here start q
      → Moves code here far start (makes (record (waits_for_message (named start q) place) { deadline = Some d }))
      (makes (record (waits_for_message (bare start q) place) { deadline = Some d }))
  -- the node sets a deadline
  sleep : (q : Process) (n : ℕ) (place after : Place) → Near here place → Near here after → Changes here start q
      → Moves code here far start (sleeps (waits_for_message (named start q) place) n after) (sleeps (waits_for_message (bare start q) place) n after)
  send : (q : Process) (to : ℕ) (t : TermValue) (place : Place) → Near here place → Changes here start q
      → Moves code here far start (sends (goes_on (named start q) place) to (Message t)) (sends (goes_on (bare start q) place) to (Message t))
  ask : (native : NodeNative) (arity : ℕ) (next : Place) → Near here next
      → Moves code here far start (asks start native arity (NextRow next)) (asks (bare start start) native arity (NextRow next))
  ask_last : (q : Process) (native : NodeNative) (arity : ℕ) → far ≡ true → Changes here start q
      → Moves code here far start (asks (named start q) native arity Return) (asks (bare start q) native arity Return)

-- whether a row may enter a function by the name of its module, or return
abbrev pub enters_module : Callee → Bool
enters_module (callee.Function «module» name arity) = true
enters_module c = false

abbrev pub leaves : Control → Bool
leaves (control.CallExternal c) = enters_module c
leaves (control.CallExternalOnly c) = true
leaves (control.CallExternalLast n c) = true
leaves (control.Apply arity) = true
leaves (control.ApplyLast arity n) = true
leaves control.Return = true
leaves c = false

abbrev pub is_far : Action → Bool
is_far (ControlAction c) = leaves c
is_far a = false
