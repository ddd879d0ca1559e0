-- What rows of a process make of the node, where memory may be refused.
use Rattle.std.specs.Prelude.{◌≡◌, ℕ, ◌<◌, ◌≤◌, Bool, true, false, List, [], Option, Some, None, IfSome, Result, Ok, Err}
use Rattle.std.specs.declared.alloc.AllocError.{AllocError}
use Rattle.beam_model.specs.Prelude.{Place}
use Rattle.beam_machine.specs.declared.event.Then.{Then}
use Rattle.beam_machine.specs.declared.event.Then.TheVariants.{GoesOn}
use Rattle.beam_machine.specs.Prelude.{Code, Process, process_of, with_process, halting, IsLoud}
use Rattle.beam_rows.specs.declared.request.Request.{Request}
use Rattle.beam_rows.specs.declared.run.StopReason.{StopReason}
use Rattle.beam_rows.specs.Prelude.{can_ask, LeadsTo, ClearRows, Halts, is_stopped, passes_after}
use Rattle.beam_state.specs.Prelude.{Parts, node, then_at, with_processes}
use Rattle.beam_core.specs.Halt.{rows_done}

-- the process of that number can ask this
abbrev pub CanAsk : ℕ → Request → List Process → Type 0
CanAsk pid request ps = (p : Process) → process_of ps pid ≡ Some p → can_ask p request ≡ true

-- private rows of a process, of which n were asked for, and why they end
abbrev pub PrivateRows : Code → List Place → Bool → ℕ → ℕ → Parts → ℕ → StopReason → Parts → Type 0
PrivateRows code spots passes pid n old count stop new =
    (p : Process) → process_of old.processes pid ≡ Some p
    → (q : Process) × (LeadsTo code count p q × (ClearRows code spots passes count p
    × (Halts code spots passes n count stop q × (new ≡ with_processes old (with_process old.processes pid q)))))

-- a process stops before its next row
abbrev pub StopsNext : List Place → Bool → Option Process → Type 0
StopsNext spots passes p = IfSome p (λ p. is_stopped spots passes p ≡ true)

-- `count` of n rows are executed. `Some`: more than none, and the process stands so; `None`: it stops before the next row; an error: memory
-- was refused for the next row, which isn't quiet
abbrev pub RowsAre : Code → List Place → Bool → ℕ → ℕ → Parts → ℕ → Result (Option Then) AllocError → Parts → Type 0
RowsAre code spots passes pid n old count (Ok (Some after)) new =
    (0 < count) × (count ≤ n) × (halting spots passes (node code old) pid count ≡ rows_done count (node code new)) × (then_at new.processes pid ≡ Some after)
RowsAre code spots passes pid n old count (Ok None) new =
    (count < n) × (halting spots passes (node code old) pid count ≡ rows_done count (node code new))
    × (then_at new.processes pid ≡ Some GoesOn) × StopsNext spots (passes_after passes count) (process_of new.processes pid)
RowsAre code spots passes pid n old count (Err refused) new =
    (count < n) × (halting spots passes (node code old) pid count ≡ rows_done count (node code new))
    × (then_at new.processes pid ≡ Some GoesOn) × IsLoud code (process_of new.processes pid)

-- `count` of n rows are executed, without break spots, and the process stands so; or memory was refused for the next row
abbrev pub SomeRowsAre : Code → ℕ → ℕ → Parts → ℕ → Result Then AllocError → Parts → Type 0
SomeRowsAre code pid n old count (Ok after) new =
    (count ≤ n) × (halting [] false (node code old) pid count ≡ rows_done count (node code new)) × (then_at new.processes pid ≡ Some after)
SomeRowsAre code pid n old count (Err refused) new =
    (count < n) × (halting [] false (node code old) pid count ≡ rows_done count (node code new)) × (then_at new.processes pid ≡ Some GoesOn)
