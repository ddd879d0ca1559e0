-- The debugger's break spots and held processes are live.
use Rattle.std.specs.Prelude.{◌≡◌, ℕ, true}
use Rattle.std.specs.List.{AllByRecursion}
use Rattle.beam_machine.specs.Prelude.{is_live, Debugged, is_live_process}
use Rattle.beam_model.specs.Prelude.{Place}

-- each break spot lies in an instance that is current or old
abbrev pub AreSpotsLive : Debugged → Type 0
AreSpotsLive d = AllByRecursion (λ (spot : Place). is_live d.node.code spot.instance ≡ true) d.spots

-- each process that is held hasn't ended
abbrev pub AreHeldLive : Debugged → Type 0
AreHeldLive d = AllByRecursion (λ (pid : ℕ). is_live_process d.node pid ≡ true) d.held
