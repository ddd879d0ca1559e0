-- Each row leaves its process in live instances: by what a row may do to its process.
use Rattle.std.proofs.Common.{◌≡◌, ℕ, suc, zero, true, IsTrue, List, [], ◌∷◌, refl, subst, Option, Some, None, option_map, Result, drop, replicate}
use Rattle.std.proofs.Math.ListN.{set}
use Rattle.beam_machine.specs.declared.callee.After.{After}
use Rattle.beam_machine.specs.declared.callee.After.TheVariants.{NextRow, Return}
use Rattle.beam_machine.specs.declared.process.Frame.{Frame}
use Rattle.beam_machine.specs.declared.process.Goes.{Goes}
use Rattle.beam_machine.specs.declared.process.Goes.TheVariants.{At, Enter, Nowhere}
use Rattle.beam_machine.specs.declared.process.Slot.{Slot}
use Rattle.beam_machine.specs.declared.process.Slot.TheVariants.{Value, Tag as TagSlot}
use Rattle.beam_machine.specs.declared.process.Tag.{Tag}
use Rattle.beam_machine.specs.Prelude.{Code, is_live, Process, with_y, Outcome, makes, sends, asks, sleeps, tag_in, tag_of, caught_at, unwound, returns_to, answers, outcome}
use Rattle.beam_model.specs.declared.exception.Exception.{Exception}
use Rattle.beam_model.specs.Prelude.{Place}
use Rattle.beam_term.specs.Prelude.{TermValue, nil_term}
use Rattle.beam_laws.proofs.LivePlaces.{IsLivePlace, GoesHome, IsSlotHome, AreSlotsHome, FramesHome, IsDeadlineHome, Whole}
use Rattle.beam_laws.proofs.Lookups.{entry_live}
use Rattle.beam_laws.proofs.Moves.{named, Near, IsNearSlot, newest_slots, Slots, put, trim, allocate, deallocate, Changes, begins, writes, demonitors, calls, slots, Moves, goes, enters, returns, raise, receives, waits, waits_until, sleep, send, ask, ask_last}
use Rattle.beam_laws.proofs.Moving.{instance_of, instance_after, answer_moves, outcome_moves}

module _ (code : Code) where
  -- the instance of a place is live
  abbrev Live : Place → Type 0
  Live place = IsTrue (is_live code place.instance)

  -- the row's instance, if there is one, is live
  abbrev IsHere : Option ℕ → Type 0
  IsHere None = Unit {0}
  IsHere (Some instance) = IsTrue (is_live code instance)

  near_live : (here : Option ℕ) (place : Place) → IsHere here → Near here place → Live place
  near_live here place h near = subst IsHere near h

  -- ---- raising

  tag_home : (y : List Slot) → AreSlotsHome code (Some y) → (tag : Tag) → tag_in y ≡ Some tag → Live tag.place
  tag_home [] h tag = λ e. cc
  tag_home (TagSlot t ∷ rest) h tag = λ e. subst (λ o. IsLivePlace code (option_map (λ t. t.place) o)) e h.0
  tag_home (Value t ∷ rest) h tag = λ e. tag_home rest h.1 tag e

  tag_of_home : (y : Option (List Slot)) → AreSlotsHome code y → (tag : Tag) → tag_of y ≡ Some tag → Live tag.place
  tag_of_home None h tag = λ e. cc
  tag_of_home (Some y) h tag = tag_home y h tag

  caught_home : (p : Process) (e : Exception) (frames : List Frame) (otherwise : Process) (o : Option Tag) → IsDeadlineHome code p.deadline → FramesHome code frames
      → ((tag : Tag) → o ≡ Some tag → Live tag.place) → Whole code otherwise → Whole code (caught_at p e frames otherwise o)
  caught_home p e frames otherwise (Some tag) d f t h = (t tag refl, (d, f))
  caught_home p e frames otherwise None d f t h = h

  unwound_home : (p : Process) (e : Exception) (frames : List Frame) → IsDeadlineHome code p.deadline → FramesHome code frames → Whole code (unwound p e frames)
  unwound_home p e [] d f = (tt, (tt, tt))
  unwound_home p e (frame ∷ older) d f =
      caught_home p e (frame ∷ older) (unwound p e older) (tag_of frame.y) d f (tag_of_home frame.y f.0.1) (unwound_home p e older d f.1)

  returned_home : (p : Process) (older : List Frame) (o : Option Place) → IsDeadlineHome code p.deadline → FramesHome code older → IsLivePlace code o
      → Whole code (returns_to p older o)
  returned_home p older None d f l = (tt, (tt, tt))
  returned_home p older (Some place) d f l = (l, (d, f))

  -- ---- y registers

  set_home : (y : List Slot) (n : ℕ) (slot : Slot) → AreSlotsHome code (Some y) → IsSlotHome code slot → AreSlotsHome code (Some (set y n slot))
  set_home [] n slot h i = tt
  set_home (s ∷ rest) zero slot h i = (i, h.1)
  set_home (s ∷ rest) (suc n) slot h i = (h.0, set_home rest n slot h.1 i)

  trimmed_home : (y : List Slot) (m : ℕ) → AreSlotsHome code (Some y) → AreSlotsHome code (Some (drop m y))
  trimmed_home y zero h = h
  trimmed_home [] (suc m) h = tt
  trimmed_home (s ∷ rest) (suc m) h = trimmed_home rest m h.1

  allocated_home : (n : ℕ) → AreSlotsHome code (Some (replicate n (Value nil_term)))
  allocated_home zero = tt
  allocated_home (suc n) = (tt, allocated_home n)

  slot_home : (here : Option ℕ) (slot : Slot) → IsHere here → IsNearSlot here slot → IsSlotHome code slot
  slot_home here (TagSlot tag) h near = near_live here tag.place h near
  slot_home here (Value t) h near = tt

  slots_home : (here : Option ℕ) (y z : Option (List Slot)) → IsHere here → Slots here y z → AreSlotsHome code y → AreSlotsHome code z
  slots_home here _ _ h (put y n slot near) i = set_home y n slot i (slot_home here slot h near)
  slots_home here _ _ h (trim y m) i = trimmed_home y m i
  slots_home here _ _ h (allocate o n) i = allocated_home n
  slots_home here _ _ h (deallocate o) i = tt

  frames_home : (here : Option ℕ) (frames : List Frame) (y : Option (List Slot)) → IsHere here → Slots here (newest_slots frames) y → FramesHome code frames
      → FramesHome code (with_y frames y)
  frames_home here [] y h s f = tt
  frames_home here (frame ∷ older) y h s f = ((f.0.0, slots_home here frame.y y h s f.0.1), f.1)

  -- ---- rows

  changed_home : (here : Option ℕ) (p q : Process) → IsHere here → Whole code p → Changes here p q → Whole code q
  changed_home here p _ h w begins = w
  changed_home here p _ h w (writes q x pending mailbox c) = changed_home here p q h w c
  changed_home here p _ h w (demonitors q keep c) = changed_home here p q h w c
  changed_home here p _ h w (calls q back near c) = let v = changed_home here p q h w c in (v.0, (v.1.0, ((near_live here back h near, tt), v.1.1)))
  changed_home here p _ h w (slots q y made c) = let v = changed_home here p q h w c in (v.0, (v.1.0, frames_home here q.frames y h made v.1.1))

  abbrev pub AfterHome : After → Type 0
  AfterHome (NextRow next) = Live next
  AfterHome Return = Unit {0}

  abbrev pub ComesHome : Outcome → Type 0
  ComesHome (makes p) = Whole code p
  ComesHome (sends p to signal) = Whole code p
  ComesHome (asks p native arity after) = Whole code p × AfterHome after
  ComesHome (sleeps p n next) = Whole code p × Live next

  moved_home : (here : Option ℕ) (p : Process) (o u : Outcome) → IsHere here → Whole code p → Moves code here true p o u → ComesHome o
  moved_home here p _ _ h w (goes q place near c) = (near_live here place h near, (changed_home here p q h w c).1)
  moved_home here p _ _ h w (enters q m f arity place far e c) = (subst (IsLivePlace code) e (entry_live code m f arity), (changed_home here p q h w c).1)
  moved_home here p _ _ h w (returns q frame older far e c) =
      let v = changed_home here p q h w c in
      let f : FramesHome code (frame ∷ older) = subst (FramesHome code) e v.1.1 in
      returned_home (named p q) older frame.back v.1.0 f.1 f.0.0
  moved_home here p _ _ h w (raise q e c) = let v = changed_home here p q h w c in unwound_home (named p q) e q.frames v.1.0 v.1.1
  moved_home here p _ _ h w (receives q place near c) = (near_live here place h near, (tt, (changed_home here p q h w c).1.1))
  moved_home here p _ _ h w (waits q place near c) = (near_live here place h near, (tt, (changed_home here p q h w c).1.1))
  moved_home here p _ _ h w (waits_until q place d near later c) = (near_live here place h near, (near_live here d.after h later, (changed_home here p q h w c).1.1))
  moved_home here p _ _ h w (sleep q n place after near later c) = ((near_live here place h near, (changed_home here p q h w c).1), near_live here after h later)
  moved_home here p _ _ h w (send q to t place near c) = (near_live here place h near, (changed_home here p q h w c).1)
  moved_home here p _ _ h w (ask native arity next near) = (w, near_live here next h near)
  moved_home here p _ _ h w (ask_last q native arity far c) = (changed_home here p q h w c, tt)

  after_here : (after : After) → AfterHome after → IsHere (instance_after after)
  after_here (NextRow next) l = l
  after_here Return l = tt

  goes_here : (goes : Goes) → GoesHome code goes → IsHere (instance_of goes)
  goes_here (At place) l = l
  goes_here (Enter «module» function arity) l = tt
  goes_here Nowhere l = tt

  pub answers_home : (p : Process) (after : After) (value : Result TermValue Exception) → Whole code p → AfterHome after → Whole code (answers p after value)
  answers_home p after value w l = moved_home (instance_after after) p _ _ (after_here after l) w (answer_moves code p after value)

  pub outcome_home : (p : Process) → Whole code p → ComesHome (outcome code p)
  outcome_home p w = moved_home (instance_of p.goes) p _ _ (goes_here p.goes w.0) w (outcome_moves code p)
