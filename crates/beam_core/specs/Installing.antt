-- Rows of a process that were executed apart from the node take effect in it. (This node's own.)
use Rattle.std.specs.Prelude.{◌≡◌, ◌≢◌, ℕ, ◌+◌, Bool, true, false, List, [], Some}
use Rattle.beam_machine.specs.declared.event.Then.{Then}
use Rattle.beam_machine.specs.declared.event.Then.TheVariants.{GoesOn, Waits, Ended}
use Rattle.beam_machine.specs.Prelude.{Rows, Private, Sent, End, before_node_row, private_to_spot, Process, is_running, is_ended, State, process_of}
use Rattle.beam_model.specs.Prelude.{Place}
use Rattle.beam_machine.specs.Next.{steps}
use Rattle.beam_laws.specs.Prelude.{IsStill, after_private, before, with_name_and_transit_of}
use Rattle.beam_state.specs.Prelude.{then_at, notices_of}

-- rows of the running process of a number, over the node's code: the process is still the one with which they began, but for its name and
-- the signals in transit to it
pub record AreRowsOf (s : State) (pid : ℕ) (rows : Private) : Type 0 where
  pub first : Process
  pub runs : is_running first.status ≡ true
  pub spots : List Place
  pub passes : Bool
  pub limit : ℕ
  pub done : rows ≡ private_to_spot spots passes s.code limit first
  pub now : Process
  pub there : process_of s.processes pid ≡ Some now
  pub still : IsStill first now

-- how many rows of the node follow: 1 if the rows end before one
abbrev pub node_rows : End → ℕ
node_rows before_node_row = 1
node_rows _ = 0

-- the rows as the node's next ones, with the row of the node before which they end
abbrev pub installed : State → ℕ → Private → Rows
installed s pid rows = before rows.count (steps (after_private s pid rows) pid (node_rows rows.end))

-- the rows took effect, the process has the name and the signals in transit that it had in the node, and it stands so after them
abbrev pub Installed : State → ℕ → Private → Then → State → Type 0
Installed s pid rows then t =
    (q : Process) → process_of s.processes pid ≡ Some q
    → (installed s pid (with_name_and_transit_of q rows) ≡ record { count = rows.count + node_rows rows.end; state = t }) × (then_at t.processes pid ≡ Some then)

-- rows that take effect without memory
abbrev pub AreQuiet : Private → Type 0
AreQuiet rows = (rows.sent ≡ []) × (is_ended rows.process.status ≡ false) × (rows.end ≢ before_node_row)

-- ---- ends

-- whether the process has ended
abbrev pub is_end : Then → Bool
is_end (Ended reason value) = true
is_end GoesOn = false
is_end Waits = false

-- the DOWNs that all others are sent, if the process has ended
abbrev pub notices_at : ℕ → Then → List Process → List Sent
notices_at pid (Ended reason value) ps = notices_of ps pid reason
notices_at pid GoesOn ps = []
notices_at pid Waits ps = []
