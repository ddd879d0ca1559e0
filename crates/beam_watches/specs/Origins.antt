-- The index of monitors by the monitored process.
use Rattle.std.specs.Prelude.{ℕ, nat_eq, List, [], unwrap_or}
use Rattle.std.specs.Map.{lookup}
use Rattle.beam_watches.specs.declared.monitored_by.MonitorOrigin.{MonitorOrigin}

-- the origins of the monitors on a pid, in the order in which they were added
abbrev pub origins_of : List (ℕ × List MonitorOrigin) → ℕ → List MonitorOrigin
origins_of entries pid = unwrap_or (lookup (nat_eq pid) entries) []
