-- Changes of code: the instances that stay keep their listings, and the processes that don't linger in removed instances stay shaped.
use Rattle.std.proofs.Common.{◌≡◌, ℕ, ◌==◌, ◌||◌, Bool, true, false, cond, List, [], ◌∷◌, ◌++◌, map, refl, sym, ap, subst, ◌∙◌, arith, Option, Some, None, is_some, option_map, flat_map}
use Rattle.std.proofs.lemmas.Bool.Decides.{nat_tests}
use Rattle.std.specs.List.{list_any}
use Rattle.std.proofs.lemmas.Option.{same_Some}
use Rattle.beam_machine.specs.declared.process.Deadline.{Deadline}
use Rattle.beam_machine.specs.declared.process.Frame.{Frame}
use Rattle.beam_machine.specs.declared.process.Goes.TheVariants.{At, Enter, Nowhere}
use Rattle.beam_machine.specs.declared.process.Slot.{Slot}
use Rattle.beam_machine.specs.declared.process.Slot.TheVariants.{Value, Tag as TagSlot}
use Rattle.beam_machine.specs.Prelude.{old_of, loaded, deleted, purged, has_instance, with_versions, is_in, is_place_in, goes_in, is_tag_in, has_tag_in, is_frame_in, is_deadline_in, lingers, lingers_at, lingers_in_old, pids_of, ends_or_hears, killing, Code, Instance, versions_of, listing_in, listing_of, Process, is_ended, ended, killed, with_signals, downs, tag_in, tag_of, Versions}
use Rattle.beam_machine.specs.declared.process.Signal.{Signal}
use Rattle.beam_model.specs.Prelude.{IsWellFormed, Listing, Place, same_text}
use Rattle.beam_term.specs.Prelude.{nil_term}
use Rattle.beam_machine.specs.declared.process.Goes.{Goes}
use Rattle.beam_machine.specs.declared.process.Tag.{Tag}
use Rattle.beam_laws.proofs.Changes.{is_number, none}
use Rattle.beam_laws.proofs.Lookups.{left_false, right_false}
use Rattle.beam_shape_laws.specs.Finds.{newest}
use Rattle.beam_shape_laws.specs.Shaped.{Fits, Catches, Wait, WaitBehind, AreFit, IsShaped, AreShaped, IsLawful, AreLawful}
use Rattle.beam_shape_laws.proofs.Standing.{over}

-- ---- listings that stay

same_listing : (a b : Option Instance) (k : ℕ) (o : Option Listing) → is_some a ≡ false → is_some b ≡ false → listing_in a k (listing_in b k o) ≡ o
same_listing None None k o e f = refl
same_listing None (Some j) k o e f = cc
same_listing (Some i) b k o e f = cc

listing_with : (name : List ℕ) (v : Versions) (rest : Code) (k : ℕ) → listing_of (with_versions name v rest) k ≡ listing_in v.current k (listing_in v.old k (listing_of rest k))
listing_with name v rest k = go (has_instance v || has_instance (versions_of rest name)) refl
  where
    go : (b : Bool) → (has_instance v || has_instance (versions_of rest name)) ≡ b → listing_of (cond {A = Code} b (v ∷ rest) rest) k ≡ listing_in v.current k (listing_in v.old k (listing_of rest k))
    go true e = refl
    go false e =
        let none = left_false (has_instance v) (has_instance (versions_of rest name)) e in
        sym (same_listing v.current v.old k (listing_of rest k) (left_false (is_some v.current) (is_some v.old) none) (right_false (is_some v.current) (is_some v.old) none))

other_number : (m k : ℕ) → (k == m) ≡ false → (m == k) ≡ false
other_number m k e = grind (arith, nat_tests)

not_old : (b : Option Instance) (k : ℕ) (o : Option Listing) → is_number (option_map (λ i. i.number) b) k ≡ false → listing_in b k o ≡ o
not_old None k o e = refl
not_old (Some i) k o e = ap (λ c. cond c (Some i.listing) o) (other_number i.number k e)

loaded_listing : (code : Code) (n : ℕ) (l : Listing) (k : ℕ) → (n == k) ≡ false → is_number (old_of code l.name) k ≡ false → listing_of (loaded code n l) k ≡ listing_of code k
loaded_listing [] n l k e g = ap (λ b. cond b (Some l) None) e
loaded_listing (v ∷ rest) n l k e g = go (same_text v.name l.name) g (loaded_listing rest n l k e)
  where
    new : Instance
    new = record { number = n; listing = l }

    go : (b : Bool) → is_number (option_map (λ i. i.number) (cond {A = Versions} b v (versions_of rest l.name)).old) k ≡ false
        → (is_number (old_of rest l.name) k ≡ false → listing_of (loaded rest n l) k ≡ listing_of rest k)
        → listing_of (cond {A = Code} b (record v { current = Some (record { number = n; listing = l }); old = v.current } ∷ rest) (v ∷ loaded rest n l)) k ≡ listing_of (v ∷ rest) k
    go true g later =
        ap (λ b. cond b (Some l) (listing_in v.current k (listing_of rest k))) e ∙ ap (listing_in v.current k) (sym (not_old v.old k (listing_of rest k) g))
    go false g later = ap (λ o. listing_in v.current k (listing_in v.old k o)) (later g)

no_old : (o : Option Instance) → option_map (λ i. i.number) o ≡ None → o ≡ None
no_old None e = refl
no_old (Some i) e = cc

deleted_listing : (code : Code) (name : List ℕ) (k : ℕ) → old_of code name ≡ None → listing_of (deleted code name) k ≡ listing_of code k
deleted_listing [] name k e = refl
deleted_listing (v ∷ rest) name k e = go (same_text v.name name) e (deleted_listing rest name k)
  where
    go : (b : Bool) → option_map (λ i. i.number) (cond {A = Versions} b v (versions_of rest name)).old ≡ None → (old_of rest name ≡ None → listing_of (deleted rest name) k ≡ listing_of rest k)
        → listing_of (cond {A = Code} b (with_versions name (record v { current = None; old = v.current }) rest) (v ∷ deleted rest name)) k ≡ listing_of (v ∷ rest) k
    go true e later =
        listing_with name (record v { current = None; old = v.current }) rest k ∙ ap (λ o. listing_in v.current k (listing_in o k (listing_of rest k))) (sym (no_old v.old e))
    go false e later = ap (λ o. listing_in v.current k (listing_in v.old k o)) (later e)

purged_listing : (code : Code) (name : List ℕ) (k : ℕ) → is_number (old_of code name) k ≡ false → listing_of (purged code name) k ≡ listing_of code k
purged_listing [] name k g = refl
purged_listing (v ∷ rest) name k g = go (same_text v.name name) g (purged_listing rest name k)
  where
    go : (b : Bool) → is_number (option_map (λ i. i.number) (cond {A = Versions} b v (versions_of rest name)).old) k ≡ false → (is_number (old_of rest name) k ≡ false → listing_of (purged rest name) k ≡ listing_of rest k)
        → listing_of (cond {A = Code} b (with_versions name (record v { old = None }) rest) (v ∷ purged rest name)) k ≡ listing_of (v ∷ rest) k
    go true g later = listing_with name (record v { old = None }) rest k ∙ ap (listing_in v.current k) (sym (not_old v.old k (listing_of rest k) g))
    go false g later = ap (λ o. listing_in v.current k (listing_in v.old k o)) (later g)

-- ---- lawful code

lawful_with : (name : List ℕ) (v : Versions) (rest : Code) → IsLawful v.current → IsLawful v.old → AreLawful rest → AreLawful (with_versions name v rest)
lawful_with name v rest c o h = elim (has_instance v || has_instance (versions_of rest name)) as (λ b. AreLawful (cond {A = Code} b (v ∷ rest) rest)) [ true ↦ ((c, o), h) | false ↦ h ]

pub loaded_lawful : (code : Code) (n : ℕ) (l : Listing) → IsWellFormed l → AreLawful code → AreLawful (loaded code n l)
loaded_lawful [] n l w h = ((w, tt), tt)
loaded_lawful (v ∷ rest) n l w h =
    elim (same_text v.name l.name) as (λ b. AreLawful (cond {A = Code} b (record v { current = Some (record { number = n; listing = l }); old = v.current } ∷ rest) (v ∷ loaded rest n l))) [
      | true ↦ ((w, h.0.0), h.1)
      | false ↦ (h.0, loaded_lawful rest n l w h.1)
    ]

pub deleted_lawful : (code : Code) (name : List ℕ) → AreLawful code → AreLawful (deleted code name)
deleted_lawful [] name h = tt
deleted_lawful (v ∷ rest) name h =
    elim (same_text v.name name) as (λ b. AreLawful (cond {A = Code} b (with_versions name (record v { current = None; old = v.current }) rest) (v ∷ deleted rest name))) [
      | true ↦ lawful_with name (record v { current = None; old = v.current }) rest tt h.0.0 h.1
      | false ↦ (h.0, deleted_lawful rest name h.1)
    ]

pub purged_lawful : (code : Code) (name : List ℕ) → AreLawful code → AreLawful (purged code name)
purged_lawful [] name h = tt
purged_lawful (v ∷ rest) name h =
    elim (same_text v.name name) as (λ b. AreLawful (cond {A = Code} b (with_versions name (record v { old = None }) rest) (v ∷ purged rest name))) [
      | true ↦ lawful_with name (record v { old = None }) rest h.0.0 tt h.1
      | false ↦ (h.0, purged_lawful rest name h.1)
    ]

-- ---- places in instances that stay

module _ (gone : ℕ → Bool) where
  abbrev FreePlace : Option Place → Type 0
  FreePlace None = Unit {0}
  FreePlace (Some place) = gone place.instance ≡ false

  abbrev FreeTag : Option (List Slot) → Type 0
  FreeTag y = (tag : Tag) → tag_of y ≡ Some tag → gone tag.place.instance ≡ false

  abbrev FreeFrames : List Frame → Type 0
  FreeFrames [] = Unit {0}
  FreeFrames (frame ∷ older) = FreePlace frame.back × FreeTag frame.y × FreeFrames older

  abbrev FreeGoes : Goes → Type 0
  FreeGoes (At place) = gone place.instance ≡ false
  FreeGoes (Enter «module» function arity) = Unit {0}
  FreeGoes Nowhere = Unit {0}

  abbrev FreeDeadline : Option Deadline → Type 0
  FreeDeadline None = Unit {0}
  FreeDeadline (Some d) = gone d.after.instance ≡ false

  -- no place of the process lies in a removed instance
  abbrev pub Free : Process → Type 0
  Free p = FreeGoes p.goes × FreeDeadline p.deadline × FreeFrames p.frames

  -- the instances that stay keep their listings
  abbrev pub Keeps : Code → Code → Type 0
  Keeps old new = (k : ℕ) (l : Listing) → gone k ≡ false → listing_of old k ≡ Some l → listing_of new k ≡ Some l

  module _ (old new : Code) (keeps : Keeps old new) where
    fits_kept : (place : Place) (y : Option (List Slot)) → gone place.instance ≡ false → Fits old place y → Fits new place y
    fits_kept place y g f =
        record { listing = f.listing; found = keeps place.instance f.listing g f.found; lawful = f.lawful; shape = f.shape; before = f.before; within = f.within; row = f.row; has = f.has }

    catches_kept : (y : Option (List Slot)) → FreeTag y → Catches old y → Catches new y
    catches_kept y g c = λ tag e. fits_kept tag.place y (g tag e) (c tag e)

    wait_kept : (back : Option Place) (frames : List Frame) → FreePlace back → FreeFrames frames → Wait old back frames → Wait new back frames
    wait_kept None [] b g w = tt
    wait_kept None (frame ∷ older) b g w = absurd w
    wait_kept (Some place) [] b g w = absurd w
    wait_kept (Some place) (frame ∷ older) b g w = (fits_kept place frame.y b w.0, catches_kept frame.y g.1 w.1, wait_kept frame.back older g.0 g.2 w.2)

    behind_kept : (frames : List Frame) → FreeFrames frames → WaitBehind old frames → WaitBehind new frames
    behind_kept [] g w = absurd w
    behind_kept (frame ∷ older) g w = wait_kept frame.back older g.0 g.2 w

    goes_kept : (goes : Goes) (frames : List Frame) → FreeGoes goes → FreeFrames frames → AreFit old goes frames → AreFit new goes frames
    goes_kept (At place) frames g f k = (fits_kept place (newest frames) g k.0, behind_kept frames f k.1)
    goes_kept (Enter «module» function arity) frames g f k = k
    goes_kept Nowhere frames g f k = k

    deadline_free : (o : Option Deadline) (d : Deadline) → o ≡ Some d → FreeDeadline o → gone d.after.instance ≡ false
    deadline_free o d e g = subst FreeDeadline e g

    pub process_kept : (p : Process) → Free p → IsShaped old p → IsShaped new p
    process_kept p g k = λ lives.
        let was = k lives in
        (goes_kept p.goes p.frames g.0 g.2 was.0, λ d w e. fits_kept d.after (newest p.frames) (deadline_free p.deadline d e g.1) (was.1 d w e))

-- ---- processes that don't linger

tag_outside : (n : ℕ) (y : List Slot) (tag : Tag) → list_any (is_tag_in n) y ≡ false → tag_in y ≡ Some tag → is_in n tag.place ≡ false
tag_outside n [] tag h e = cc
tag_outside n (Value t ∷ y) tag h e = tag_outside n y tag h e
tag_outside n (TagSlot u ∷ y) tag h e = subst (λ (t : Tag). is_in n t.place ≡ false) (same_Some u tag e) (left_false (is_in n u.place) (list_any (is_tag_in n) y) h)

slots_outside : (n : ℕ) (y : Option (List Slot)) (tag : Tag) → has_tag_in n y ≡ false → tag_of y ≡ Some tag → is_in n tag.place ≡ false
slots_outside n None tag h e = cc
slots_outside n (Some y) tag h e = tag_outside n y tag h e

place_outside : (n : ℕ) (o : Option Place) → is_place_in n o ≡ false → FreePlace (is_number (Some n)) o
place_outside n None h = tt
place_outside n (Some place) h = h

frames_outside : (n : ℕ) (frames : List Frame) → list_any (is_frame_in n) frames ≡ false → FreeFrames (is_number (Some n)) frames
frames_outside n [] h = tt
frames_outside n (frame ∷ older) h =
    let this = left_false (is_frame_in n frame) (list_any (is_frame_in n) older) h in (
      place_outside n frame.back (left_false (is_place_in n frame.back) (has_tag_in n frame.y) this),
      (λ tag e. slots_outside n frame.y tag (right_false (is_place_in n frame.back) (has_tag_in n frame.y) this) e),
      frames_outside n older (right_false (is_frame_in n frame) (list_any (is_frame_in n) older) h),
    )

goes_outside : (n : ℕ) (goes : Goes) → goes_in n goes ≡ false → FreeGoes (is_number (Some n)) goes
goes_outside n (At place) h = h
goes_outside n (Enter «module» function arity) h = tt
goes_outside n Nowhere h = tt

deadline_outside : (n : ℕ) (o : Option Deadline) → is_deadline_in n o ≡ false → FreeDeadline (is_number (Some n)) o
deadline_outside n None h = tt
deadline_outside n (Some d) h = h

outside : (n : ℕ) (p : Process) → lingers n p ≡ false → Free (is_number (Some n)) p
outside n p h =
    let later = right_false (goes_in n p.goes) (is_deadline_in n p.deadline || list_any (is_frame_in n) p.frames) h in (
      goes_outside n p.goes (left_false (goes_in n p.goes) (is_deadline_in n p.deadline || list_any (is_frame_in n) p.frames) h),
      deadline_outside n p.deadline (left_false (is_deadline_in n p.deadline) (list_any (is_frame_in n) p.frames) later),
      frames_outside n p.frames (right_false (is_deadline_in n p.deadline) (list_any (is_frame_in n) p.frames) later),
    )

-- where no instance is removed, all places are free
all_places : (o : Option Place) → FreePlace none o
all_places None = tt
all_places (Some place) = refl

all_frames : (frames : List Frame) → FreeFrames none frames
all_frames [] = tt
all_frames (frame ∷ older) = (all_places frame.back, (λ tag e. refl), all_frames older)

all_goes : (goes : Goes) → FreeGoes none goes
all_goes (At place) = refl
all_goes (Enter «module» function arity) = tt
all_goes Nowhere = tt

all_deadlines : (o : Option Deadline) → FreeDeadline none o
all_deadlines None = tt
all_deadlines (Some d) = refl

all_free : (p : Process) → Free none p
all_free p = (all_goes p.goes, all_deadlines p.deadline, all_frames p.frames)

-- ---- all processes

all_kept : (old new : Code) → Keeps none old new → (ps : List Process) → AreShaped old ps → AreShaped new ps
all_kept old new k [] h = tt
all_kept old new k (p ∷ ps) h = (process_kept none old new k p (all_free p) h.0, all_kept old new k ps h.1)

-- more signals in transit to a process leave it shaped
pub signals_shaped : (code : Code) (signals : List Signal) (p : Process) → IsShaped code p → IsShaped code (with_signals signals p)
signals_shaped code signals p h = elim (is_ended p.status) as (λ b. IsShaped code (cond b p (record p { transit = p.transit ++ signals }))) [ true ↦ h | false ↦ h ]

-- a process that passes a test ends, and any other gets the DOWNs of those
ends_shaped : (test : Process → Bool) (pids : List ℕ) (new : Code) (p : Process) → (test p ≡ false → IsShaped new p) → IsShaped new (ends_or_hears test pids p)
ends_shaped test pids new p h = go (test p) refl
  where
    signals : List Signal
    signals = flat_map (λ pid. downs pid killed p.monitors) pids

    go : (b : Bool) → test p ≡ b → IsShaped new (cond b (ended p killed nil_term) (with_signals signals p))
    go true e = over new p killed nil_term
    go false e = signals_shaped new signals p (h e)

killing_shaped : (test : Process → Bool) (gone : ℕ → Bool) (old new : Code) → Keeps gone old new → ((p : Process) → test p ≡ false → Free gone p)
    → (pids : List ℕ) (ps : List Process) → AreShaped old ps → AreShaped new (map (ends_or_hears test pids) ps)
killing_shaped test gone old new k free pids [] h = tt
killing_shaped test gone old new k free pids (p ∷ ps) h =
    (ends_shaped test pids new p (λ e. process_kept gone old new k p (free p e) h.0), killing_shaped test gone old new k free pids ps h.1)

-- a process that doesn't linger in an instance has no place in it
at_free : (o : Option ℕ) (p : Process) → lingers_at o p ≡ false → Free (is_number o) p
at_free None p e = all_free p
at_free (Some n) p e = outside n p e

gone_shaped : (code new : Code) (name : List ℕ) → Keeps (is_number (old_of code name)) code new → (ps : List Process) → AreShaped code ps → AreShaped new (killing (lingers_in_old code name) ps)
gone_shaped code new name k ps h =
    killing_shaped (lingers_in_old code name) (is_number (old_of code name)) code new k (λ p e. at_free (old_of code name) p e) (pids_of (lingers_in_old code name) ps) ps h

-- whichever processes end, the others stay shaped
pub killed_shaped : (test : Process → Bool) (code : Code) (ps : List Process) → AreShaped code ps → AreShaped code (killing test ps)
killed_shaped test code ps h = killing_shaped test none code code (λ k l g e. e) (λ p e. all_free p) (pids_of test ps) ps h

-- ---- changes of code

pub purged_shaped : (code : Code) (name : List ℕ) (ps : List Process) → AreShaped code ps → AreShaped (purged code name) (killing (lingers_in_old code name) ps)
purged_shaped code name ps h = gone_shaped code (purged code name) name (λ k l g e. purged_listing code name k g ∙ e) ps h

pub deleted_shaped : (code : Code) (name : List ℕ) (ps : List Process) → old_of code name ≡ None → AreShaped code ps → AreShaped (deleted code name) ps
deleted_shaped code name ps none h = all_kept code (deleted code name) (λ k l g e. deleted_listing code name k none ∙ e) ps h

apart : (code : Code) (n k : ℕ) (l : Listing) → listing_of code n ≡ None → listing_of code k ≡ Some l → (b : Bool) → (n == k) ≡ b → b ≡ false
apart code n k l free found false e = refl
apart code n k l free found true e =
    let same : n ≡ k = grind (arith, nat_tests) in
    absurd (clash (sym free ∙ (ap (listing_of code) same ∙ found)))
  where
    clash : None ≡ Some l → ⊥
    clash e = cc

pub loaded_shaped : (code : Code) (n : ℕ) (l : Listing) (ps : List Process) → listing_of code n ≡ None → AreShaped code ps → AreShaped (loaded code n l) (killing (lingers_in_old code l.name) ps)
loaded_shaped code n l ps free h =
    gone_shaped code (loaded code n l) l.name (λ k m g e. loaded_listing code n l k (apart code n k m free e (n == k) refl) g ∙ e) ps h
