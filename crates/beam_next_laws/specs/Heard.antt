-- What a process hears of the end of another (Erlang Reference Manual, Processes: Monitors).
use Rattle.std.specs.Prelude.{◌≡◌, ℕ, Bool, true, false, ◌==◌, ◌&&◌, List, filter, Some}
use Rattle.std.specs.List.{list_any}
use Rattle.beam_term.specs.Prelude.{TermValue}
use Rattle.beam_machine.specs.declared.process.Monitor.{Monitor}
use Rattle.beam_machine.specs.declared.process.Signal.{Signal}
use Rattle.beam_machine.specs.declared.process.Signal.TheVariants.{Down}
use Rattle.beam_machine.specs.declared.process.Status.TheVariants.{Ended}
use Rattle.beam_machine.specs.Prelude.{Process, State, process_of, live_process, monitors_process}

-- the process of that number is alive in the first state, and has ended with this reason in the second
abbrev pub EndsBetween : ℕ → TermValue → State → State → Type 0
EndsBetween pid reason s t =
    (p : Process) × (q : Process) × (value : TermValue) × (live_process s.processes pid ≡ Some p) × (process_of t.processes pid ≡ Some q)
    × (q.status ≡ Ended reason value)

abbrev pub is_down : Signal → Bool
is_down (Down reference reason) = true
is_down signal = false

-- whether a signal is a DOWN of this reference
abbrev pub is_down_with : ℕ → Signal → Bool
is_down_with n (Down reference reason) = reference == n
is_down_with n signal = false

-- whether a signal is a DOWN of one of these monitors, one that watches the process of that number
abbrev pub is_down_of : ℕ → List Monitor → Signal → Bool
is_down_of pid ms (Down reference reason) = list_any (λ m. m.reference == reference && monitors_process pid m) ms
is_down_of pid ms signal = false

-- of signals, the DOWNs
abbrev pub downs_in : List Signal → List Signal
downs_in signals = filter is_down signals

-- of signals, the DOWNs of this reference
abbrev pub downs_with : ℕ → List Signal → List Signal
downs_with n signals = filter (is_down_with n) signals

-- of signals to a process with these monitors, the DOWNs of the process of that number
abbrev pub downs_about : ℕ → List Monitor → List Signal → List Signal
downs_about pid ms signals = filter (is_down_of pid ms) signals
