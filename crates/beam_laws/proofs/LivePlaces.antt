-- The places of a process, part by part: they lie in live instances exactly where each instance in which it lingers is live.
use Rattle.std.proofs.Common.{◌≡◌, ℕ, ◌||◌, eq-eqb, Bool, true, false, IsTrue, List, [], ◌∷◌, refl, subst, Option, Some, None, eqb-true}
use Rattle.std.specs.List.{AllByRecursion, list_any}
use Rattle.std.proofs.lemmas.Bool.{or_left, or_right}
use Rattle.beam_machine.specs.declared.process.Slot.{Slot}
use Rattle.beam_machine.specs.declared.process.Slot.TheVariants.{Value, Tag}
use Rattle.beam_machine.specs.declared.process.Frame.{Frame}
use Rattle.beam_machine.specs.declared.process.Goes.TheVariants.{At, Enter, Nowhere}
use Rattle.beam_machine.specs.declared.process.Deadline.{Deadline}
use Rattle.beam_machine.specs.Prelude.{Code, Process, is_live, is_in, is_place_in, goes_in, is_tag_in, has_tag_in, is_frame_in, is_deadline_in, IsHome}
use Rattle.beam_machine.specs.declared.process.Goes.{Goes}
use Rattle.beam_model.specs.Prelude.{Place}

abbrev pub IsLivePlace : Code → Option Place → Type 0
IsLivePlace code None = Unit {0}
IsLivePlace code (Some place) = IsTrue (is_live code place.instance)

abbrev pub GoesHome : Code → Goes → Type 0
GoesHome code (At place) = IsTrue (is_live code place.instance)
GoesHome code (Enter «module» function arity) = Unit {0}
GoesHome code Nowhere = Unit {0}

abbrev pub IsSlotHome : Code → Slot → Type 0
IsSlotHome code (Tag tag) = IsTrue (is_live code tag.place.instance)
IsSlotHome code (Value t) = Unit {0}

abbrev pub AreSlotsHome : Code → Option (List Slot) → Type 0
AreSlotsHome code None = Unit {0}
AreSlotsHome code (Some y) = AllByRecursion (IsSlotHome code) y

abbrev pub IsFrameHome : Code → Frame → Type 0
IsFrameHome code frame = IsLivePlace code frame.back × AreSlotsHome code frame.y

abbrev pub FramesHome : Code → List Frame → Type 0
FramesHome code frames = AllByRecursion (IsFrameHome code) frames

abbrev pub IsDeadlineHome : Code → Option Deadline → Type 0
IsDeadlineHome code None = Unit {0}
IsDeadlineHome code (Some d) = IsTrue (is_live code d.after.instance)

-- the frames and the place after a timeout lie in live instances
abbrev pub Stands : Code → Process → Type 0
Stands code p = IsDeadlineHome code p.deadline × FramesHome code p.frames

-- the place lies in a live instance too
abbrev pub Whole : Code → Process → Type 0
Whole code p = GoesHome code p.goes × Stands code p

-- ---- each instance of a place is one in which the process lingers

either : {C : Type 0} (a b : Bool) → (a || b) ≡ true → (a ≡ true → C) → (b ≡ true → C) → C
either true b e f g = f refl
either false b e f g = g e

module _ (code : Code) where
  abbrev IsLive : ℕ → Type 0
  IsLive n = is_live code n ≡ true

  in_live : (n : ℕ) (place : Place) → is_in n place ≡ true → IsTrue (is_live code place.instance) → IsLive n
  in_live n place e h = subst (λ k. is_live code k ≡ true) (eqb-true place.instance n e) h

  itself : (place : Place) → ((n : ℕ) → is_in n place ≡ true → IsLive n) → IsTrue (is_live code place.instance)
  itself place f = f place.instance (eq-eqb place.instance place.instance refl)

  place_live : (n : ℕ) (o : Option Place) → is_place_in n o ≡ true → IsLivePlace code o → IsLive n
  place_live n None e h = cc
  place_live n (Some place) e h = in_live n place e h

  goes_live : (n : ℕ) (goes : Goes) → goes_in n goes ≡ true → GoesHome code goes → IsLive n
  goes_live n (At place) e h = in_live n place e h
  goes_live n (Enter «module» function arity) e h = cc
  goes_live n Nowhere e h = cc

  slots_live : (n : ℕ) (y : List Slot) → list_any (is_tag_in n) y ≡ true → AreSlotsHome code (Some y) → IsLive n
  slots_live n [] e h = cc
  slots_live n (Value t ∷ rest) e h = slots_live n rest e h.1
  slots_live n (Tag tag ∷ rest) e h = either (is_in n tag.place) (list_any (is_tag_in n) rest) e (λ e. in_live n tag.place e h.0) (λ e. slots_live n rest e h.1)

  tags_live : (n : ℕ) (o : Option (List Slot)) → has_tag_in n o ≡ true → AreSlotsHome code o → IsLive n
  tags_live n None e h = cc
  tags_live n (Some y) e h = slots_live n y e h

  frames_live : (n : ℕ) (frames : List Frame) → list_any (is_frame_in n) frames ≡ true → FramesHome code frames → IsLive n
  frames_live n [] e h = cc
  frames_live n (frame ∷ older) e h =
      either (is_frame_in n frame) (list_any (is_frame_in n) older) e
      (λ e. either (is_place_in n frame.back) (has_tag_in n frame.y) e (λ e. place_live n frame.back e h.0.0) (λ e. tags_live n frame.y e h.0.1))
      (λ e. frames_live n older e h.1)

  deadline_live : (n : ℕ) (o : Option Deadline) → is_deadline_in n o ≡ true → IsDeadlineHome code o → IsLive n
  deadline_live n None e h = cc
  deadline_live n (Some d) e h = in_live n d.after e h

  pub whole_home : (p : Process) → Whole code p → IsHome code p
  whole_home p w = λ n e.
      either (goes_in n p.goes) (is_deadline_in n p.deadline || list_any (is_frame_in n) p.frames) e (λ e. goes_live n p.goes e w.0)
      (λ e. either (is_deadline_in n p.deadline) (list_any (is_frame_in n) p.frames) e (λ e. deadline_live n p.deadline e w.1.0) (λ e. frames_live n p.frames e w.1.1))

  -- ---- the converse

  place_whole : (o : Option Place) → ((n : ℕ) → is_place_in n o ≡ true → IsLive n) → IsLivePlace code o
  place_whole None f = tt
  place_whole (Some place) f = itself place f

  goes_whole : (goes : Goes) → ((n : ℕ) → goes_in n goes ≡ true → IsLive n) → GoesHome code goes
  goes_whole (At place) f = itself place f
  goes_whole (Enter «module» function arity) f = tt
  goes_whole Nowhere f = tt

  slots_whole : (y : List Slot) → ((n : ℕ) → list_any (is_tag_in n) y ≡ true → IsLive n) → AreSlotsHome code (Some y)
  slots_whole [] f = tt
  slots_whole (Value t ∷ rest) f = (tt, slots_whole rest f)
  slots_whole (Tag tag ∷ rest) f =
      (itself tag.place (λ n e. f n (or_left (is_in n tag.place) (list_any (is_tag_in n) rest) e)), slots_whole rest (λ n e. f n (or_right (is_in n tag.place) (list_any (is_tag_in n) rest) e)))

  tags_whole : (o : Option (List Slot)) → ((n : ℕ) → has_tag_in n o ≡ true → IsLive n) → AreSlotsHome code o
  tags_whole None f = tt
  tags_whole (Some y) f = slots_whole y f

  frames_whole : (frames : List Frame) → ((n : ℕ) → list_any (is_frame_in n) frames ≡ true → IsLive n) → FramesHome code frames
  frames_whole [] f = tt
  frames_whole (frame ∷ older) f =
      let this : (n : ℕ) → is_frame_in n frame ≡ true → IsLive n = λ n e. f n (or_left (is_frame_in n frame) (list_any (is_frame_in n) older) e) in (
        (
          place_whole frame.back (λ n e. this n (or_left (is_place_in n frame.back) (has_tag_in n frame.y) e)),
          tags_whole frame.y (λ n e. this n (or_right (is_place_in n frame.back) (has_tag_in n frame.y) e)),
        ),
        frames_whole older (λ n e. f n (or_right (is_frame_in n frame) (list_any (is_frame_in n) older) e)),
      )

  deadline_whole : (o : Option Deadline) → ((n : ℕ) → is_deadline_in n o ≡ true → IsLive n) → IsDeadlineHome code o
  deadline_whole None f = tt
  deadline_whole (Some d) f = itself d.after f

  pub home_whole : (p : Process) → IsHome code p → Whole code p
  home_whole p h =
      let later : (n : ℕ) → (is_deadline_in n p.deadline || list_any (is_frame_in n) p.frames) ≡ true → IsLive n
      = λ n e. h n (or_right (goes_in n p.goes) (is_deadline_in n p.deadline || list_any (is_frame_in n) p.frames) e) in (
        goes_whole p.goes (λ n e. h n (or_left (goes_in n p.goes) (is_deadline_in n p.deadline || list_any (is_frame_in n) p.frames) e)),
        (
          deadline_whole p.deadline (λ n e. later n (or_left (is_deadline_in n p.deadline) (list_any (is_frame_in n) p.frames) e)),
          frames_whole p.frames (λ n e. later n (or_right (is_deadline_in n p.deadline) (list_any (is_frame_in n) p.frames) e)),
        ),
      )
