-- The debugger's state is of code and processes that are there.
use Rattle.std.specs.Prelude.{◌≡◌, ℕ, true}
use Rattle.std.specs.List.{AllByRecursion}
use Rattle.beam_machine.specs.Prelude.{is_live, Debugged, is_live_process}
use Rattle.beam_model.specs.Prelude.{Place}

-- each break spot lies in an instance that is current or old, and no process that is held, or that may pass a break spot, has ended
abbrev pub Settled : Debugged → Type 0
Settled d =
    AllByRecursion (λ (spot : Place). is_live d.node.code spot.instance ≡ true) d.spots
    × AllByRecursion (λ (pid : ℕ). is_live_process d.node pid ≡ true) d.held
    × AllByRecursion (λ (pid : ℕ). is_live_process d.node pid ≡ true) d.passing
