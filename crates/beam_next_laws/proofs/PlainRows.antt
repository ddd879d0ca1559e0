-- A row itself sends no DOWN: of what a row may do, one thing alone sends a signal, a message.
use Rattle.std.proofs.Common.{◌≡◌, ℕ, false, true, refl, Option}
use Rattle.beam_machine.specs.Prelude.{Code, Process, Outcome, makes, sends, asks, sleeps, outcome}
use Rattle.beam_laws.proofs.Moves.{Moves, send}
use Rattle.beam_laws.proofs.Moving.{instance_of, outcome_moves}
use Rattle.beam_next_laws.specs.Heard.{is_down}

-- a signal that is sent is no DOWN
abbrev pub Plain : Outcome → Type 0
Plain (makes q) = Unit {0}
Plain (sends q to signal) = is_down signal ≡ false
Plain (asks q native arity after) = Unit {0}
Plain (sleeps q n next) = Unit {0}

moved : (code : Code) (here : Option ℕ) (p : Process) (o u : Outcome) → Moves code here true p o u → Plain o
moved code here p _ _ (send q to t place near c) = refl
moved code here p _ _ _ = tt

pub outcome_plain : (code : Code) (p : Process) → Plain (outcome code p)
outcome_plain code p = moved code (instance_of p.goes) p _ _ (outcome_moves code p)
