-- The shapes that are known of every assignment. They grow by steps: each step puts shapes that every assignment forces, so that the known
-- shapes lie below every assignment, and a step that puts nothing shows that its rows fit. (This crate's own.)
use Rattle.std.specs.Prelude.{◌≡◌, ℕ, ◌+◌, ◌<◌, ◌≤◌, ◌⊎◌, ◌&&◌, nat_eq, true, false, is_some, List, [], length, sum_by, slice_index_or, Option, Some, None, Result, Ok, Err}
use Rattle.std.specs.List.{list_all, list_any}
use Rattle.beam_model.specs.Prelude.{is_row, next_row, any, Assignment, may_have, shape_of_label, frame_effect, row_at, begins_bare, entries, in_list, called, targets, finds, shape_after, leads_on, fits_at, Shape}
use Rattle.beam_model.specs.declared.instruction.Instruction.{Instruction}
use Rattle.beam_shapes.specs.Shown.{IsSmall}
use Rattle.beam_shapes.specs.Trees.{Parts}
use Rattle.beam_shapes.specs.declared.error.FrameCheckError.{FrameCheckError}
use Rattle.beam_shapes.specs.declared.error.FrameCheckError.TheVariants.{FrameMismatch, NoMemory}

-- parts of trees, for each place the shape that is forced there, and places to look at again
pub record ShapeState : Type 0 where
  pub parts : Parts
  pub known : List (Option Shape)
  pub waiting : List ℕ

abbrev pub assigned : List (Option Shape) → Assignment
assigned known at = slice_index_or known at None

-- the known shape of a place may come to the shape that the place has
abbrev pub LiesUnder : Option Shape → Option Shape → Type 0
LiesUnder None o = Unit {0}
LiesUnder (Some s) o = may_have s o ≡ true

-- the known shapes lie below an assignment
abbrev pub IsBelow : List (Option Shape) → Assignment → Type 0
IsBelow known a = (at : ℕ) → LiesUnder (slice_index_or known at None) (a at)

-- how many times the shape of a place may still change
abbrev pub room_of : Option Shape → ℕ
room_of None = 2
room_of (Some any) = 0
room_of (Some _) = 1

abbrev pub room : List (Option Shape) → ℕ
room known = sum_by room_of known

abbrev pub Waits : ℕ → List ℕ → Type 0
Waits at waiting = list_any (nat_eq at) waiting ≡ true

-- each shape that may come to a place with the first shape may come to it with the second
abbrev pub Rises : Option Shape → Option Shape → Type 0
Rises before after = (s : Shape) → may_have s before ≡ true → may_have s after ≡ true

-- shapes are joined into places, and each place in which one changed waits
pub record Spreads (old new : ShapeState) : Type 0 where
  pub stay : (at : ℕ) → Waits at old.waiting → Waits at new.waiting
  pub rise : (at : ℕ) → Rises (assigned old.known at) (assigned new.known at)
  pub same : (at : ℕ) → Waits at new.waiting ⊎ (assigned new.known at ≡ assigned old.known at)

-- a step that puts shapes which are forced in each assignment of which `holds` is true; where it puts nothing, `holds` is true of the
-- known shapes
pub record Forces (holds : Assignment → Type 0) (old new : ShapeState) : Type 0 where
  pub kept : (a : Assignment) → IsBelow old.known a → holds a → IsBelow new.known a
  pub settled : length new.waiting ≡ length old.waiting → (new.known ≡ old.known) × holds (assigned old.known)
  pub more : length old.waiting ≤ length new.waiting
  pub long : length new.known ≡ length old.known
  pub less : room new.known ≤ room old.known
  pub spent : room new.known + length new.waiting ≤ room old.known + length old.waiting
  pub spreads : Spreads old new

-- a statement that is false of every assignment above the known shapes
abbrev pub Refuses : (Assignment → Type 0) → ShapeState → Type 0
Refuses holds old = (a : Assignment) → IsBelow old.known a → holds a → ⊥

abbrev pub Fails : FrameCheckError → (Assignment → Type 0) → ShapeState → Type 0
Fails FrameMismatch holds old = Refuses holds old
Fails NoMemory holds old = Unit {0}

abbrev pub Does : {T : Type 0} → Result T FrameCheckError → (Assignment → Type 0) → ShapeState → ShapeState → Type 0
Does (Ok _) holds old new = Forces holds old new
Does (Err e) holds old new = Fails e holds old

-- the shape of a place after a shape comes to it: the same, or one that each assignment has above both
abbrev pub Joins : Option Shape → Option Shape → Shape → Type 0
Joins None before s = may_have s before ≡ true
Joins (Some after) before s =
    (room_of (Some after) < room_of before) × ((o : Option Shape) → LiesUnder before o → may_have s o ≡ true → may_have after o ≡ true)

-- `Joins`, and the new shape may be reached with each of the two
abbrev pub Unites : Option Shape → Option Shape → Shape → Type 0
Unites None before s = may_have s before ≡ true
Unites (Some after) before s = (may_have s (Some after) ≡ true) × Rises before (Some after)

-- no shape lies above both, so the search refuses
abbrev pub AreApart : FrameCheckError → Option Shape → Shape → Type 0
AreApart FrameMismatch before s = (o : Option Shape) → LiesUnder before o → may_have s o ≡ true → ⊥
AreApart NoMemory before s = Unit {0}

-- an assignment of a listing's shapes
abbrev pub IsAssignment : List Instruction → Assignment → Type 0
IsAssignment code a = (list_all (begins_bare a code) (entries code) ≡ true) × ((at : ℕ) → at ≤ length code → fits_at a code at ≡ true)

-- the row finds its registers and the frame that it needs, and leaves this shape
abbrev pub Leaves : Instruction → Shape → Shape → Type 0
Leaves i s left_shape = (finds i s ≡ true) × (shape_after i s ≡ Some left_shape)

-- the row doesn't find its registers or the frame that it needs
abbrev pub NeverLeaves : FrameCheckError → Instruction → Shape → Type 0
NeverLeaves FrameMismatch i s = (finds i s && is_some (shape_after i s)) ≡ false
NeverLeaves NoMemory i s = Unit {0}

-- a row may go to each of these labels with a shape
abbrev pub MayGo : Assignment → List Instruction → Shape → List ℕ → Type 0
MayGo a code s labels = list_all (λ label. may_have s (shape_of_label a code label)) labels ≡ true

-- the row at a position fits, where there is one
abbrev pub FitsAt : Assignment → List Instruction → ℕ → Type 0
FitsAt a code at = at ≤ length code → fits_at a code at ≡ true

-- the row finds its registers and its frame, and each place to which it goes may be reached with the shape that it leaves
pub record Flows (a : Assignment) (code : List Instruction) (i : Instruction) (next : ℕ) (s : Shape) : Type 0 where
  pub found : finds i s ≡ true
  pub goes : MayGo a code s (targets i s)
  pub on : leads_on a i next (shape_after i s) ≡ true

abbrev pub FlowsIf : Assignment → List Instruction → Instruction → ℕ → Option Shape → Type 0
FlowsIf a code i next None = Unit {0}
FlowsIf a code i next (Some s) = is_row i ≡ true → Flows a code i next s

-- `Flows` for the row at a position and its shape, where both are there
abbrev pub FlowsAt : Assignment → List Instruction → ℕ → Option Shape → Type 0
FlowsAt a code at o = FlowsIf a code (row_at code at) (next_row at code) o

-- each row that doesn't wait was looked at with the known shape of its place, and the shapes to which it leads are known
abbrev pub AreLookedAt : List Instruction → ShapeState → Type 0
AreLookedAt code k = (at : ℕ) → Waits at k.waiting ⊎ FlowsAt (assigned k.known) code at (assigned k.known at)

-- the function that a row calls begins without y registers, if the row is reached
abbrev pub BeginsIf : Assignment → List Instruction → Instruction → Option Shape → Type 0
BeginsIf a code i None = Unit {0}
BeginsIf a code i (Some s) = is_row i ≡ true → list_all (begins_bare a code) (in_list (called i)) ≡ true

abbrev pub BeginsAt : Assignment → List Instruction → ℕ → Type 0
BeginsAt a code at = BeginsIf a code (row_at code at) (a at)

-- the functions that the first n rows call begin without y registers
abbrev pub BeginBelow : Assignment → List Instruction → ℕ → Type 0
BeginBelow a code n = (at : ℕ) → at < n → BeginsAt a code at

-- each function begins without y registers
abbrev pub BeginBare : List Instruction → Assignment → Type 0
BeginBare code a = (list_all (begins_bare a code) (entries code) ≡ true) × BeginBelow a code (length code)

-- no row allocates more registers than a frame may have
abbrev pub AreSmall : List Instruction → Type 0
AreSmall code = (at : ℕ) → IsSmall (frame_effect (row_at code at))

-- no row waits, and the shapes that were put are below each assignment
pub record Settles (code : List Instruction) (old new : ShapeState) : Type 0 where
  pub kept : (a : Assignment) → IsBelow old.known a → IsAssignment code a → IsBelow new.known a
  pub none : new.waiting ≡ []
  pub long : length new.known ≡ length old.known
  pub less : room new.known ≤ room old.known
  pub looked : AreLookedAt code old → AreLookedAt code new
