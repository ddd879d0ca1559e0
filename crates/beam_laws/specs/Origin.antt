-- A process as it is checked out, to be run apart from the node. (This node's own.)
use Rattle.std.specs.Prelude.{ℕ, Bool, List}
use Rattle.beam_machine.specs.Prelude.{Code, Process}
use Rattle.beam_model.specs.Prelude.{Place}

-- a process as it was checked out, with all that its rows depend on
pub record Origin : Type 0 where
  pub pid : ℕ
  pub process : Process
  pub passes : Bool  -- whether its first row may be that of a break spot
  pub code : Code
  pub spots : List Place
