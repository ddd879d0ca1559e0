-- Where a row leads its process (Erlang Reference Manual, Compilation and Code Loading: Code Replacement; Errors and Error Handling).
use Rattle.std.specs.Prelude.{◌≡◌, ◌⊎◌, ℕ, Bool, true, false, not, List, [], ◌∷◌, Option, Some, None, is_some}
use Rattle.beam_model.specs.Prelude.{Place, entry_at}
use Rattle.beam_machine.specs.declared.action.Control.{Control as TheControl}
use Rattle.beam_machine.specs.declared.action.Action.{Action}
use Rattle.beam_machine.specs.declared.action.Action.TheVariants.{Control}
use Rattle.beam_machine.specs.declared.action.Control.TheVariants as control
use Rattle.beam_machine.specs.declared.action.Step.{Step}
use Rattle.beam_machine.specs.declared.callee.After.{After}
use Rattle.beam_machine.specs.declared.callee.After.TheVariants.{NextRow, Return}
use Rattle.beam_machine.specs.declared.callee.Callee.{Callee}
use Rattle.beam_machine.specs.declared.callee.Callee.TheVariants.{Function}
use Rattle.beam_machine.specs.declared.process.Deadline.{Deadline}
use Rattle.beam_machine.specs.declared.process.Frame.{Frame}
use Rattle.beam_machine.specs.declared.process.Goes.{Goes}
use Rattle.beam_machine.specs.declared.process.Goes.TheVariants.{At, Enter, Nowhere}
use Rattle.beam_machine.specs.declared.process.Slot.{Slot}
use Rattle.beam_machine.specs.declared.process.Status.TheVariants.{Waiting}
use Rattle.beam_machine.specs.declared.process.Slot.TheVariants.{Value, Tag}
use Rattle.beam_machine.specs.Prelude.{Code, Instance, versions_of, step_of, Process, is_ended, Outcome, makes, sends, asks, sleeps}

-- the process stands at a row with this action, and the row after that one is at that place
abbrev pub StandsAt : Code → Process → Action → Place → Type 0
StandsAt code p action next =
    (place : Place) × (step : Step) × (p.goes ≡ At place) × (step_of code place ≡ Some step) × (step.action ≡ action)
    × (next ≡ record { instance = place.instance; at = step.next })

-- the row of a function that the module's current instance exports
abbrev pub IsCurrentEntry : Code → List ℕ → List ℕ → ℕ → Place → Type 0
IsCurrentEntry code name function arity place =
    (i : Instance) × ((versions_of code name).current ≡ Some i) × (place.instance ≡ i.number) × (entry_at i.listing function arity ≡ Some place.at)

-- ---- rows that stay in their instance

abbrev pub is_function : Callee → Bool
is_function (Function «module» name arity) = true
is_function c = false

-- whether a row of control neither calls a function by its module's name nor returns; a native that is called so may return at once
abbrev pub is_local_control : TheControl → Bool
is_local_control (control.CallExternal c) = not (is_function c)
is_local_control (control.CallExternalOnly c) = false
is_local_control (control.CallExternalLast n c) = false
is_local_control (control.Apply arity) = false
is_local_control (control.ApplyLast arity n) = false
is_local_control control.Return = false
is_local_control c = true

abbrev pub is_local : Action → Bool
is_local (Control c) = is_local_control c
is_local a = true

-- ---- where they lead

-- a catch tag of this place stands in the slots
abbrev pub IsTagIn : Place → List Slot → Type 0
IsTagIn place [] = ⊥
IsTagIn place (Tag tag ∷ rest) = (tag.place ≡ place) ⊎ IsTagIn place rest
IsTagIn place (Value t ∷ rest) = IsTagIn place rest

abbrev pub HasTag : Place → Option (List Slot) → Type 0
HasTag place (Some y) = IsTagIn place y
HasTag place None = ⊥

-- a catch tag of this place stands in one of the frames
abbrev pub IsTagOf : Place → List Frame → Type 0
IsTagOf place [] = ⊥
IsTagOf place (frame ∷ older) = HasTag place frame.y ⊎ IsTagOf place older

abbrev pub LeadsTo : ℕ → List Frame → Process → Goes → Type 0
LeadsTo instance frames q (At place) = (place.instance ≡ instance) ⊎ (IsTagOf place frames × (is_some q.pending ≡ true))
LeadsTo instance frames q (Enter «module» function arity) = ⊥
LeadsTo instance frames q Nowhere = is_ended q.status ≡ true

-- the process goes on in this instance; or an exception is pending, and it goes to a catch tag of these frames; or it has ended
abbrev pub StaysIn : ℕ → List Frame → Process → Type 0
StaysIn instance frames q = LeadsTo instance frames q q.goes

abbrev pub IsNextIn : ℕ → After → Type 0
IsNextIn instance (NextRow next) = next.instance ≡ instance
IsNextIn instance Return = ⊥

-- the process of the outcome stays in this instance; and so does one that asks the node, once it is answered, or sleeps, after its deadline
abbrev pub OutcomeStays : ℕ → List Frame → Outcome → Type 0
OutcomeStays instance frames (makes q) = StaysIn instance frames q
OutcomeStays instance frames (sends q to signal) = StaysIn instance frames q
OutcomeStays instance frames (asks q native arity after) = (q.frames ≡ frames) × IsNextIn instance after
OutcomeStays instance frames (sleeps q n next) = StaysIn instance frames q × (next.instance ≡ instance)

-- ---- deadlines

-- there is none, or the place after it lies in this instance
abbrev pub IsAfterIn : ℕ → Option Deadline → Type 0
IsAfterIn instance (Some d) = d.after.instance ≡ instance
IsAfterIn instance None = Unit {0}

-- the second deadline is the first, or there is none, or its place lies in this instance
abbrev pub KeepsDeadline : ℕ → Option Deadline → Option Deadline → Type 0
KeepsDeadline instance before after = (after ≡ before) ⊎ IsAfterIn instance after

-- so for the process of the outcome, and if it waits, it has no other deadline than one with its place in this instance; one that sleeps
-- gets a deadline with a place in this instance
abbrev pub OutcomeKeepsDeadline : ℕ → Option Deadline → Outcome → Type 0
OutcomeKeepsDeadline instance before (makes q) = KeepsDeadline instance before q.deadline × (q.status ≡ Waiting → IsAfterIn instance q.deadline)
OutcomeKeepsDeadline instance before (sends q to signal) = q.deadline ≡ before
OutcomeKeepsDeadline instance before (asks q native arity after) = q.deadline ≡ before
OutcomeKeepsDeadline instance before (sleeps q n next) = (q.deadline ≡ before) × (next.instance ≡ instance)
