-- Rows of a short turn, where no break spots are set.
use Rattle.std.proofs.Common.{◌≡◌, ℕ, Bool, List, [], Option, Some, None, Result, Ok, Err, sym, subst}
use Rattle.beam_machine.specs.declared.event.Refused.{Refused}
use Rattle.beam_machine.specs.declared.event.Then.{Then}
use Rattle.beam_machine.specs.Prelude.{State}
use Rattle.beam_model.specs.Prelude.{Place}
use Rattle.beam_core.specs.Halt.{HaltsAt, ShortHaltsAt}
use Rattle.beam_core.proofs.ShortTurns.{halts_short}
use Rattle.beam_debug.specs.Prelude.{ShortHalts}

-- they are rows that stop before none of the break spots
pub short_halts : (spots : List Place) (passes : Bool) (pid : ℕ) (s : State) (result : Result (Option (ℕ × Then)) Refused) (t : State) → spots ≡ [] → ShortHaltsAt pid s result t
    → ShortHalts spots passes pid s result t
short_halts spots passes pid s (Ok (Some (count, after))) t none h =
    subst (λ xs. HaltsAt xs passes pid count s (Ok (count, Some after)) t) (sym none) (halts_short s t pid count after h passes)
short_halts spots passes pid s (Ok None) t none h = h
short_halts spots passes pid s (Err refused) t none h = h
