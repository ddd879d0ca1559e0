-- A row that neither calls by module name nor returns goes on in its instance, or to a catch tag: by what a row may do to its process.
use Rattle.std.proofs.Common.{◌≡◌, ◌⊎◌, ℕ, zero, suc, true, false, not, List, [], ◌∷◌, inl, inr, refl, sym, ap, subst, ◌∙◌, true≢false, Option, Some, None, drop, replicate}
use Rattle.std.proofs.Math.ListN.{set}
use Rattle.beam_machine.specs.declared.action.Action.{Action}
use Rattle.beam_machine.specs.declared.action.Action.TheVariants.{Control as ControlAction}
use Rattle.beam_machine.specs.declared.action.Control.{Control}
use Rattle.beam_machine.specs.declared.action.Control.TheVariants as control
use Rattle.beam_machine.specs.declared.callee.Callee.{Callee}
use Rattle.beam_machine.specs.declared.callee.Callee.TheVariants as callee
use Rattle.beam_machine.specs.declared.process.Frame.{Frame}
use Rattle.beam_machine.specs.declared.process.Slot.{Slot}
use Rattle.beam_machine.specs.declared.process.Slot.TheVariants.{Value, Tag as TagSlot}
use Rattle.beam_machine.specs.declared.process.Tag.{Tag}
use Rattle.beam_machine.specs.Prelude.{Code, Process, with_y, Outcome, tag_in, tag_of, caught_at, unwound, raises, outcome}
use Rattle.beam_model.specs.declared.exception.Exception.{Exception}
use Rattle.beam_model.specs.Prelude.{Place}
use Rattle.beam_term.specs.Prelude.{nil_term}
use Rattle.beam_laws.proofs.Moves.{named, Near, IsNearSlot, newest_slots, Slots, put, trim, allocate, deallocate, Changes, begins, writes, demonitors, calls, slots, Moves, goes, enters, returns, raise, receives, waits, waits_until, sleep, send, ask, ask_last, enters_module, leaves, is_far}
use Rattle.beam_laws.proofs.Moving.{action_moves}
use Rattle.beam_next_laws.specs.Places.{StandsAt, is_function, is_local_control, is_local, IsTagIn, HasTag, IsTagOf, StaysIn, OutcomeStays}
use Rattle.beam_next_laws.proofs.Entering.{performed}

-- ---- catch tags

instance_is : (i : ℕ) (place : Place) → Near (Some i) place → place.instance ≡ i
instance_is i place near = cc

tag_there : (y : List Slot) (tag : Tag) → tag_in y ≡ Some tag → IsTagIn tag.place y
tag_there [] tag = λ e. cc
tag_there (TagSlot t ∷ rest) tag = λ e.
    let same : t ≡ tag = cc in
    inl (ap (λ t. t.place) same)
tag_there (Value t ∷ rest) tag = λ e. tag_there rest tag e

tag_here : (y : Option (List Slot)) (tag : Tag) → tag_of y ≡ Some tag → HasTag tag.place y
tag_here None tag = λ e. cc
tag_here (Some y) tag = λ e. tag_there y tag e

-- the catch tags of this place after a row, which are near, or of the frames before
module _ (i : ℕ) (place : Place) where
  abbrev Here : Type 0
  Here = place.instance ≡ i

  behind : (s : Slot) (rest : List Slot) → IsTagIn place rest → IsTagIn place (s ∷ rest)
  behind (TagSlot t) rest h = inr h
  behind (Value t) rest h = h

  behind_or : (s : Slot) (rest : List Slot) → IsTagIn place rest ⊎ Here → IsTagIn place (s ∷ rest) ⊎ Here
  behind_or s rest (inl h) = inl (behind s rest h)
  behind_or s rest (inr h) = inr h

  set_tag : (y : List Slot) (n : ℕ) (slot : Slot) → IsNearSlot (Some i) slot → IsTagIn place (set y n slot) → IsTagIn place y ⊎ Here
  set_tag [] n slot near h = absurd h
  set_tag (s ∷ rest) zero (TagSlot tag) near (inl e) = inr (sym (ap (λ p. p.instance) e) ∙ instance_is i tag.place near)
  set_tag (s ∷ rest) zero (TagSlot tag) near (inr h) = inl (behind s rest h)
  set_tag (s ∷ rest) zero (Value t) near h = inl (behind s rest h)
  set_tag (TagSlot t ∷ rest) (suc n) slot near (inl e) = inl (inl e)
  set_tag (TagSlot t ∷ rest) (suc n) slot near (inr h) = behind_or (TagSlot t) rest (set_tag rest n slot near h)
  set_tag (Value t ∷ rest) (suc n) slot near h = set_tag rest n slot near h

  trimmed_tag : (y : List Slot) (m : ℕ) → IsTagIn place (drop m y) → IsTagIn place y
  trimmed_tag y zero h = h
  trimmed_tag [] (suc m) h = h
  trimmed_tag (s ∷ rest) (suc m) h = behind s rest (trimmed_tag rest m h)

  allocated_tag : (n : ℕ) → IsTagIn place (replicate n (Value nil_term)) → ⊥
  allocated_tag zero h = h
  allocated_tag (suc n) h = allocated_tag n h

  slots_tag : (y z : Option (List Slot)) → Slots (Some i) y z → HasTag place z → HasTag place y ⊎ Here
  slots_tag _ _ (put y n slot near) h = set_tag y n slot near h
  slots_tag _ _ (trim y m) h = inl (trimmed_tag y m h)
  slots_tag _ _ (allocate o n) h = absurd (allocated_tag n h)
  slots_tag _ _ (deallocate o) h = absurd h

  newest_tag : (frame : Frame) (older : List Frame) → HasTag place frame.y ⊎ Here → IsTagOf place (frame ∷ older) ⊎ Here
  newest_tag frame older (inl h) = inl (inl h)
  newest_tag frame older (inr h) = inr h

  frames_tag : (frames : List Frame) (y : Option (List Slot)) → Slots (Some i) (newest_slots frames) y → IsTagOf place (with_y frames y) → IsTagOf place frames ⊎ Here
  frames_tag [] y s h = absurd h
  frames_tag (frame ∷ older) y s (inl h) = newest_tag frame older (slots_tag frame.y y s h)
  frames_tag (frame ∷ older) y s (inr h) = inl (inr h)

-- ---- rows in an instance, of a process with these frames

module _ (i : ℕ) (start : List Frame) where
  -- the place is near, or a catch tag of the frames
  abbrev IsOpen : Place → Type 0
  IsOpen place = IsTagOf place start ⊎ (place.instance ≡ i)

  abbrev Among : List Frame → Type 0
  Among frames = (place : Place) → IsTagOf place frames → IsOpen place

  tag_leads : (place : Place) → IsOpen place → (place.instance ≡ i) ⊎ (IsTagOf place start × (true ≡ true))
  tag_leads place (inl h) = inr (h, refl)
  tag_leads place (inr h) = inl h

  caught : (p : Process) (e : Exception) (frames : List Frame) (otherwise : Process) (o : Option Tag) → ((tag : Tag) → o ≡ Some tag → IsOpen tag.place) → StaysIn i start otherwise
      → StaysIn i start (caught_at p e frames otherwise o)
  caught p e frames otherwise None t h = h
  caught p e frames otherwise (Some tag) t h = tag_leads tag.place (t tag refl)

  unwinds : (p : Process) (e : Exception) (frames : List Frame) → Among frames → StaysIn i start (unwound p e frames)
  unwinds p e [] k = refl
  unwinds p e (frame ∷ older) k =
      caught p e (frame ∷ older) (unwound p e older) (tag_of frame.y) (λ tag is. k tag.place (inl (tag_here frame.y tag is))) (unwinds p e older (λ place h. k place (inr h)))

  pub raised : (p : Process) (e : Exception) → p.frames ≡ start → StaysIn i start (raises p e)
  raised p e same = unwinds p e p.frames (subst Among (sym same) (λ place h. inl h))

  older_tag : (place : Place) (frames : List Frame) → ⊥ ⊎ IsTagOf place frames → IsTagOf place frames
  older_tag place frames (inl h) = absurd h
  older_tag place frames (inr h) = h

  among : (frames : List Frame) (place : Place) → Among frames → IsTagOf place frames ⊎ (place.instance ≡ i) → IsOpen place
  among frames place k (inl h) = k place h
  among frames place k (inr h) = inr h

  changed : (p q : Process) → Among p.frames → Changes (Some i) p q → Among q.frames
  changed p _ k begins = k
  changed p _ k (writes q x pending mailbox c) = changed p q k c
  changed p _ k (demonitors q keep c) = changed p q k c
  changed p _ k (calls q back near c) = λ place h. changed p q k c place (older_tag place q.frames h)
  changed p _ k (slots q y made c) = λ place h. among q.frames place (changed p q k c) (frames_tag i place q.frames y made h)

  moved : (code : Code) (p : Process) (o u : Outcome) → p.frames ≡ start → Moves code (Some i) false p o u → OutcomeStays i start o
  moved code p _ _ same (goes q place near c) = inl (instance_is i place near)
  moved code p _ _ same (enters q m f arity place far e c) = absurd (true≢false (sym far))
  moved code p _ _ same (returns q frame older far e c) = absurd (true≢false (sym far))
  moved code p _ _ same (raise q e c) = unwinds (named p q) e q.frames (changed p q (subst Among (sym same) (λ place h. inl h)) c)
  moved code p _ _ same (receives q place near c) = inl (instance_is i place near)
  moved code p _ _ same (waits q place near c) = inl (instance_is i place near)
  moved code p _ _ same (waits_until q place d near later c) = inl (instance_is i place near)
  moved code p _ _ same (sleep q n place after near later c) = (inl (instance_is i place near), instance_is i after later)
  moved code p _ _ same (send q to t place near c) = inl (instance_is i place near)
  moved code p _ _ same (ask native arity next near) = (same, instance_is i next near)
  moved code p _ _ same (ask_last q native arity far c) = absurd (true≢false (sym far))

-- ---- rows that stay

local_callee : (c : Callee) → not (is_function c) ≡ true → enters_module c ≡ true → false ≡ true
local_callee (callee.Function «module» f arity) l far = l
local_callee _ l far = far

local_control : (c : Control) → is_local_control c ≡ true → leaves c ≡ true → false ≡ true
local_control (control.CallExternal c) l far = local_callee c l far
local_control (control.Jump target) l far = far
local_control (control.Call target) l far = far
local_control (control.CallLast n target) l far = far
local_control (control.SelectValue v choices fail) l far = far
local_control (control.SelectSize v choices fail) l far = far
local_control _ l far = l

local_row : (a : Action) → is_local a ≡ true → is_far a ≡ true → false ≡ true
local_row (ControlAction c) l far = local_control c l far
local_row _ l far = far

pub stays : (code : Code) (p : Process) (action : Action) (row : Place) → StandsAt code p action row → is_local action ≡ true → OutcomeStays row.instance p.frames (outcome code p)
stays code p action row at l =
    subst (OutcomeStays row.instance p.frames) (sym (performed code p action row at))
    (moved row.instance p.frames code p _ _ refl (action_moves code (Some row.instance) false p row refl action (local_row action l)))
