-- What processes monitor, in the order of the references (Erlang Reference Manual, Processes: Monitors).
use Rattle.std.specs.Prelude.{◌≡◌, ◌<◌, ◌≤◌, ℕ, Bool, List, [], ◌∷◌, filter}
use Rattle.std.specs.List.{AllByRecursion}
use Rattle.beam_machine.specs.declared.process.Monitor.{Monitor}
use Rattle.beam_machine.specs.Prelude.{Process, Outcome, makes, sends, asks, sleeps}

-- some of these monitors, in their order
abbrev pub ArePart : List Monitor → List Monitor → Type 0
ArePart ms ns = (keep : Monitor → Bool) × (ns ≡ filter keep ms)

-- the process after a row has only monitors of this list
abbrev pub MonitorsNoMore : List Monitor → Outcome → Type 0
MonitorsNoMore ms (makes q) = ArePart ms q.monitors
MonitorsNoMore ms (sends q to signal) = ArePart ms q.monitors
MonitorsNoMore ms (asks q native arity after) = ArePart ms q.monitors
MonitorsNoMore ms (sleeps q n next) = ArePart ms q.monitors

-- the references rise; the first is above the first number, and none is above the second, the count of the references that were made
abbrev pub Rise : ℕ → ℕ → List Monitor → Type 0
Rise above count [] = Unit {0}
Rise above count (m ∷ rest) = (above < m.reference) × ((m.reference ≤ count) × Rise m.reference count rest)

abbrev pub AreRising : ℕ → List Process → Type 0
AreRising count ps = AllByRecursion (λ p. Rise 0 count p.monitors) ps
