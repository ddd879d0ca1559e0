-- Rows of one process, and their effect on the others.
use Rattle.std.specs.Prelude.{◌≡◌, ℕ, Bool, true, false, not, ◌+◌, ◌==◌, if◌then◌else◌, List, [], ◌∷◌, Option}
use Rattle.beam_machine.specs.declared.event.Event.{Event}
use Rattle.beam_machine.specs.declared.process.Signal.{Signal}
use Rattle.beam_machine.specs.declared.process.Status.{Status}
use Rattle.beam_machine.specs.Prelude.{Process, is_ended, State, posted, downs, hearing_by, Rows, put_process, Sent, Private, Touch, code, process, touch_of}
use Rattle.beam_machine.specs.declared.process.Status.TheVariants.{Ended}
use Rattle.beam_model.specs.Prelude.{Listing}
pub use Rattle.beam_machine.specs.State.{with_signals}

-- a process with another name, and other signals in transit to it; an ended one stays as it is
abbrev pub with_name_and_transit : Option (List ℕ) → List Signal → Process → Process
with_name_and_transit name transit p = if is_ended p.status then p else record p { name = name; transit = transit }

-- q is p, except for the name and the signals in transit
abbrev pub IsStill : Process → Process → Type 0
IsStill p q = q ≡ with_name_and_transit q.name q.transit p

-- the DOWNs that a process gets of another with this status
abbrev pub downs_of_end : ℕ → Status → Process → List Signal
downs_of_end pid (Ended reason value) q = downs pid reason q.monitors
downs_of_end pid status q = []

-- signals posted one after another
abbrev pub posted_all : List Process → List Sent → List Process
posted_all ps [] = ps
posted_all ps (sent ∷ rest) = posted_all (posted ps sent.to sent.signal) rest

-- the node after private rows of a process: with the process that they made, then the signals posted that they sent, and then, where the
-- process has ended, its DOWNs
abbrev pub after_private : State → ℕ → Private → State
after_private s pid rows = record s { processes = hearing_by pid rows.process.status (posted_all (put_process s pid rows.process).processes rows.sent) }

-- private rows of a process that got another name, and other signals in transit, while they were done
abbrev pub with_name_and_transit_of : Process → Private → Private
with_name_and_transit_of p rows = record rows { process = with_name_and_transit p.name p.transit rows.process }

-- n rows, and then others
abbrev pub before : ℕ → Rows → Rows
before count rows = record rows { count = count + rows.count }

abbrev pub touches_others : ℕ → Touch → Bool
touches_others pid code = false
touches_others pid (process at) = not (at == pid)
touches_others pid t = true

-- whether an event is neither of this process nor a change of code
abbrev pub is_of_others : ℕ → Event Listing → Bool
is_of_others pid e = touches_others pid (touch_of e)
