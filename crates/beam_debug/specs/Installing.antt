-- Rows of a process that were executed apart from a node with a debugger take effect in it. (This node's own.)
use Rattle.std.specs.Prelude.{◌≡◌, ◌<◌, ℕ, true}
use Rattle.beam_machine.specs.Prelude.{Debugged, Private, Process, is_running}
use Rattle.beam_laws.specs.Prelude.{Origin, slice_of, CanCommit}
use Rattle.beam_core.specs.Installing.{AreQuiet}

-- rows of the running process of a number: those of a slice of the process as it was handed out, which can be committed now
pub record AreSlices (d : Debugged) (pid : ℕ) (rows : Private) : Type 0 where
  pub origin : Origin
  pub own : origin.pid ≡ pid
  pub runs : is_running origin.process.status ≡ true
  pub limit : ℕ
  pub done : rows ≡ slice_of origin limit
  pub now : Process
  pub can : CanCommit d origin now

-- rows that take effect without memory, where the processes with numbers below `capacity` can be held without memory
abbrev pub IsQuietSlice : ℕ → Private → ℕ → Type 0
IsQuietSlice pid rows capacity = AreQuiet rows × (pid < capacity)
