-- Changes of code, and the processes that linger in it (Erlang Reference Manual, Compilation and Code Loading; the manual of OTP's code server).
use Rattle.std.specs.Prelude.{◌≡◌, ℕ, Bool, true, false, ◌||◌, ◌==◌, if◌then◌else◌, List, [], ◌∷◌, Option, Some, None, option_map, is_some, map, filter, flat_map}
use Rattle.std.specs.List.{AllByRecursion, list_any}
use Rattle.beam_term.specs.Prelude.{nil_term}
use Rattle.beam_machine.specs.declared.process.Goes.{Goes}
use Rattle.beam_machine.specs.declared.process.Goes.TheVariants.{At, Enter, Nowhere}
use Rattle.beam_machine.specs.declared.process.Frame.{Frame}
use Rattle.beam_machine.specs.declared.process.Slot.{Slot}
use Rattle.beam_machine.specs.declared.process.Slot.TheVariants.{Value, Tag}
use Rattle.beam_machine.specs.declared.process.Deadline.{Deadline}
use Rattle.beam_model.specs.Prelude.{Listing, same_text, Place}
use Rattle.beam_machine.specs.Code.{Code, Versions, versions_of, listing_of}
use Rattle.beam_machine.specs.Process.{Process, ended, killed}
use Rattle.beam_machine.specs.State.{with_signals, downs}

-- ---- versions

abbrev pub current_of : Code → List ℕ → Option ℕ
current_of code name = option_map (λ i. i.number) (versions_of code name).current

abbrev pub old_of : Code → List ℕ → Option ℕ
old_of code name = option_map (λ i. i.number) (versions_of code name).old

-- the code with a new instance of a module: it becomes current, the current one becomes old, and the old one goes; a new module comes last
abbrev pub loaded : Code → ℕ → Listing → Code
loaded [] number l = record { name = l.name; current = Some (record { number = number; listing = l }); old = None } ∷ []
loaded (v ∷ rest) number l =
    if same_text v.name l.name then record v { current = Some (record { number = number; listing = l }); old = v.current } ∷ rest
    else v ∷ loaded rest number l

abbrev pub has_instance : Versions → Bool
has_instance v = is_some v.current || is_some v.old

-- the versions of a module, and then the rest of the code: versions without an instance are left out, but kept where the rest has
-- versions of that module too, which would otherwise count (the code has each module once)
abbrev pub with_versions : List ℕ → Versions → Code → Code
with_versions name v rest = if has_instance v || has_instance (versions_of rest name) then v ∷ rest else rest

-- the versions of a module changed, if it is there
abbrev pub changed : (Versions → Versions) → Code → List ℕ → Code
changed change [] name = []
changed change (v ∷ rest) name = if same_text v.name name then with_versions name (change v) rest else v ∷ changed change rest name

-- the current instance becomes old
abbrev pub deleted : Code → List ℕ → Code
deleted = changed (λ v. record v { current = None; old = v.current })

-- the old instance is removed
abbrev pub purged : Code → List ℕ → Code
purged = changed (λ v. record v { old = None })

-- ---- lingering

abbrev pub is_in : ℕ → Place → Bool
is_in number place = place.instance == number

abbrev pub is_place_in : ℕ → Option Place → Bool
is_place_in number (Some place) = is_in number place
is_place_in number None = false

abbrev pub goes_in : ℕ → Goes → Bool
goes_in number (At place) = is_in number place
goes_in number (Enter «module» function arity) = false
goes_in number Nowhere = false

abbrev pub is_tag_in : ℕ → Slot → Bool
is_tag_in number (Tag tag) = is_in number tag.place
is_tag_in number (Value t) = false

abbrev pub has_tag_in : ℕ → Option (List Slot) → Bool
has_tag_in number (Some y) = list_any (is_tag_in number) y
has_tag_in number None = false

abbrev pub is_frame_in : ℕ → Frame → Bool
is_frame_in number frame = is_place_in number frame.back || has_tag_in number frame.y

abbrev pub is_deadline_in : ℕ → Option Deadline → Bool
is_deadline_in number (Some d) = is_in number d.after
is_deadline_in number None = false

-- a process lingers in an instance: its place, its place after a timeout, a frame's return place or a catch tag lies there
abbrev pub lingers : ℕ → Process → Bool
lingers number p = goes_in number p.goes || (is_deadline_in number p.deadline || list_any (is_frame_in number) p.frames)

abbrev pub lingers_at : Option ℕ → Process → Bool
lingers_at (Some number) p = lingers number p
lingers_at None p = false

-- a process lingers in the old code of a module
abbrev pub lingers_in_old : Code → List ℕ → Process → Bool
lingers_in_old code name p = lingers_at (old_of code name) p

-- a process lingers in the old code of one of these modules
abbrev pub lingers_in_olds : Code → List (List ℕ) → Process → Bool
lingers_in_olds code names p = list_any (λ name. lingers_in_old code name p) names

-- ---- ends by a change of code

-- the pids of the processes that pass a test, rising
abbrev pub pids_of : (Process → Bool) → List Process → List ℕ
pids_of test ps = map (λ p. p.pid) (filter test ps)

-- a process that passes the test is killed; any other gets the DOWNs of its monitors of the killed processes, whose pids these are
abbrev pub ends_or_hears : (Process → Bool) → List ℕ → Process → Process
ends_or_hears test pids p =
    if test p then ended p killed nil_term else with_signals (flat_map (λ pid. downs pid killed p.monitors) pids) p

-- the processes that pass a test end, one after another in the order of their pids, and their DOWNs are sent
abbrev pub killing : (Process → Bool) → List Process → List Process
killing test ps = map (ends_or_hears test (pids_of test ps)) ps

-- ---- where processes stand

-- the instance is current or old
abbrev pub is_live : Code → ℕ → Bool
is_live code number = is_some (listing_of code number)

-- each instance in which a process lingers is live
abbrev pub IsHome : Code → Process → Type 0
IsHome code p = (number : ℕ) → lingers number p ≡ true → is_live code number ≡ true

abbrev pub AreHome : Code → List Process → Type 0
AreHome code ps = AllByRecursion (IsHome code) ps
