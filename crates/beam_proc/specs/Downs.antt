-- The DOWNs that a process gets of the end of another.
use Rattle.std.specs.Prelude.{ℕ, List, map}
use Rattle.beam_machine.specs.Prelude.{Sent, Process, downs}
use Rattle.beam_term.specs.Prelude.{TermValue}

-- a DOWN for each of its monitors of the process of that number, which ends with that reason
abbrev pub downs_to : ℕ → TermValue → Process → List Sent
downs_to number reason p = map (λ signal. record { to = p.pid; signal = signal }) (downs number reason p.monitors)
