-- Signals that are posted at an end, how they are taken back, and one process that stands in for another.
use Rattle.std.specs.Prelude.{◌≡◌, ℕ, ◌==◌, ◌-◌, if◌then◌else◌, List, [], ◌∷◌, length, take, Option, Some, None}
use Rattle.beam_machine.specs.Prelude.{Sent, Process, with_process, live_process, downs}
use Rattle.beam_term.specs.Prelude.{TermValue}
use Rattle.beam_laws.specs.Prelude.{AreRising, Follows, Orderly, with_name_and_transit, each_sent}

-- the process of that number hasn't ended, and the other one may take its place: it has the same pid, and if it has ended, nothing else but
-- the reason and the value
abbrev pub CanReplace : List Process → ℕ → Process → Type 0
CanReplace ps pid r = (q : Process) × (live_process ps pid ≡ Some q) × Follows q.pid q.name (with_name_and_transit q.name q.transit r)

-- the signals that all others are sent where the process of that number ends for that reason: a DOWN for each monitor of it
abbrev pub notices_of : List Process → ℕ → TermValue → List Sent
notices_of ps pid reason = each_sent 1 (λ q. if q.pid == pid then [] else downs pid reason q.monitors) ps

-- process n has pid n, no two have one name, and the references of each one's monitors rise, and are among those that were made
abbrev pub AreLawful : ℕ → List Process → Type 0
AreLawful references ps = Orderly ps × AreRising references ps

-- ---- signals that are taken back

-- a process without the last signal that is in transit to it
abbrev pub without_last : Process → Process
without_last p = record p { transit = take (length p.transit - 1) p.transit }

abbrev pub taken_of : List Process → ℕ → Option Process → List Process
taken_of ps pid (Some p) = with_process ps pid (without_last p)
taken_of ps pid None = ps

-- the last signal to a process that hasn't ended is taken back
abbrev pub taken : List Process → ℕ → List Process
taken ps pid = taken_of ps pid (live_process ps pid)

-- for each of these signals, from the last to the first, the last signal to its receiver is taken back
abbrev pub all_taken : List Process → List Sent → List Process
all_taken ps [] = ps
all_taken ps (sent ∷ rest) = taken (all_taken ps rest) sent.to
