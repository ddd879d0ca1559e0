-- Processes that are as an assignment of shapes has them: the newest frame has the shape of the process's place, and each older frame the
-- shape of the place to which the one before it returns, by the listing of that place's own instance. (This node's own.)
use Rattle.std.specs.Prelude.{◌≡◌, ◌≤◌, ℕ, true, false, List, [], ◌∷◌, length, Option, Some, None}
use Rattle.std.specs.List.{AllByRecursion}
use Rattle.beam_model.specs.declared.instruction.Instruction.{Instruction}
use Rattle.beam_model.specs.Prelude.{bare, sized, any, row_at, IsWellFormed, CanLoad, Listing, is_row, row_of_label, Place, Shape}
use Rattle.beam_machine.specs.declared.debug.DebugEvent.{DebugEvent}
use Rattle.beam_machine.specs.declared.event.Event.{Event}
use Rattle.beam_machine.specs.declared.process.Deadline.{Deadline}
use Rattle.beam_machine.specs.declared.process.Frame.{Frame}
use Rattle.beam_machine.specs.declared.process.Goes.TheVariants.{At, Enter, Nowhere}
use Rattle.beam_machine.specs.declared.process.Slot.{Slot}
use Rattle.beam_machine.specs.declared.process.Slot.TheVariants.{Value, Tag as TagSlot}
use Rattle.beam_machine.specs.declared.process.Status.TheVariants.{Waiting}
use Rattle.beam_machine.specs.Prelude.{Code, Instance, listing_of, Process, is_ended, tag_of, State}
use Rattle.beam_machine.specs.declared.debug.DebugEvent.TheVariants.{Node as NodeEvent}
use Rattle.beam_machine.specs.declared.event.Event.TheVariants as event
use Rattle.beam_machine.specs.declared.process.Goes.{Goes}
use Rattle.beam_machine.specs.declared.process.Tag.{Tag}
use Rattle.beam_laws.specs.Prelude.{Ordered}
use Rattle.beam_shape_laws.specs.Finds.{newest}

-- ---- y registers

-- a register as a shape has it: it holds a value, or the tag of that label, which leads to the label's row in that instance
abbrev pub Holds : ℕ → List Instruction → Option ℕ → Slot → Type 0
Holds instance code None (Value t) = Unit {0}
Holds instance code (Some label) (TagSlot tag) = (tag.place.instance ≡ instance) × (row_of_label label 0 code ≡ Some tag.place.at)
Holds instance code _ _ = ⊥

abbrev pub HoldAll : ℕ → List Instruction → List (Option ℕ) → List Slot → Type 0
HoldAll instance code [] [] = Unit {0}
HoldAll instance code (tag ∷ tags) (slot ∷ slots) = Holds instance code tag slot × HoldAll instance code tags slots
HoldAll instance code _ _ = ⊥

-- y registers are of a shape
abbrev pub HasShape : ℕ → List Instruction → Shape → Option (List Slot) → Type 0
HasShape instance code bare None = Unit {0}
HasShape instance code (sized tags) (Some y) = HoldAll instance code tags y
HasShape instance code any y = tag_of y ≡ None
HasShape instance code _ _ = ⊥

-- ---- places

-- at the place stands a row of a listing that can be loaded, and y registers have the shape that stands before it
pub record Fits (code : Code) (place : Place) (y : Option (List Slot)) : Type 0 where
  pub listing : Listing
  pub found : listing_of code place.instance ≡ Some listing
  pub lawful : IsWellFormed listing
  pub shape : Shape
  pub before : lawful.framed.shapes place.at ≡ Some shape
  pub within : place.at ≤ length listing.instructions
  pub row : is_row (row_at listing.instructions place.at) ≡ true
  pub has : HasShape place.instance listing.instructions shape y

-- y registers with a catch tag fit the place of the first, to which an exception goes
abbrev pub Catches : Code → Option (List Slot) → Type 0
Catches code y = (tag : Tag) → tag_of y ≡ Some tag → Fits code tag.place y

-- ---- frames

-- the frames that wait for a return to a place: the first of them fits it, and catches, since the call may raise; so do the older frames
abbrev pub Wait : Code → Option Place → List Frame → Type 0
Wait code None [] = Unit {0}
Wait code (Some place) (frame ∷ older) = Fits code place frame.y × Catches code frame.y × Wait code frame.back older
Wait code _ _ = ⊥

-- the frames below the newest one
abbrev pub WaitBehind : Code → List Frame → Type 0
WaitBehind code [] = ⊥
WaitBehind code (frame ∷ older) = Wait code frame.back older

-- one frame, without y registers, that returns nowhere
abbrev pub IsFirst : List Frame → Type 0
IsFirst frames = frames ≡ record { back = None; y = None } ∷ []

-- ---- processes

abbrev pub AreFit : Code → Goes → List Frame → Type 0
AreFit code (At place) frames = Fits code place (newest frames) × WaitBehind code frames
AreFit code (Enter «module» function arity) frames = IsFirst frames
AreFit code Nowhere frames = ⊥

-- a process that hasn't ended: its frames fit its place, and the newest of one that waits also the place after its timeout
abbrev pub IsShaped : Code → Process → Type 0
IsShaped code p = is_ended p.status ≡ false
    → AreFit code p.goes p.frames
    × ((d : Deadline) → p.status ≡ Waiting → p.deadline ≡ Some d → Fits code d.after (newest p.frames))

abbrev pub AreShaped : Code → List Process → Type 0
AreShaped code ps = AllByRecursion (IsShaped code) ps

-- ---- the node

abbrev pub IsLawful : Option Instance → Type 0
IsLawful (Some i) = IsWellFormed i.listing
IsLawful None = Unit {0}

-- each listing of the code can be loaded: it keeps the rules, and is framed
abbrev pub AreLawful : Code → Type 0
AreLawful code = AllByRecursion (λ v. IsLawful v.current × IsLawful v.old) code

-- shapes for all of the node: each listing has an assignment, no two instances have one number, and the processes are shaped by them
abbrev pub Framing : State → Type 0
Framing s = AreLawful s.code × Ordered s.code s.instances × AreShaped s.code s.processes

-- the node has such shapes
abbrev pub IsFramedNode : State → Type 0
IsFramedNode s = ∥ Framing s ∥₁

-- ---- events

-- the listings that the event loads can be loaded
abbrev pub LoadsFramed : Event Listing → Type 0
LoadsFramed (event.Load l) = CanLoad l
LoadsFramed (event.LoadStrict l) = CanLoad l
LoadsFramed (event.AtomicLoad mode ls) = AllByRecursion CanLoad ls
LoadsFramed _ = Unit {0}

abbrev pub LoadFramed : List (Event Listing) → Type 0
LoadFramed events = AllByRecursion LoadsFramed events

abbrev pub DebugLoadsFramed : DebugEvent Listing → Type 0
DebugLoadsFramed (NodeEvent e) = LoadsFramed e
DebugLoadsFramed _ = Unit {0}
