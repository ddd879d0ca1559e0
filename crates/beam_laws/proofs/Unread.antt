-- No row reads the name of its process or the signals in transit to it: by what a row may do to its process.
use Rattle.std.proofs.Common.{◌≡◌, ℕ, cond, Bool, true, false, List, [], ◌∷◌, refl, ap, Option, Some, None, Result}
use Rattle.beam_machine.specs.declared.callee.After.{After}
use Rattle.beam_machine.specs.declared.process.Deadline.{Deadline}
use Rattle.beam_machine.specs.declared.process.Frame.{Frame}
use Rattle.beam_machine.specs.declared.process.Goes.TheVariants.{At}
use Rattle.beam_machine.specs.declared.process.Signal.{Signal}
use Rattle.beam_machine.specs.declared.process.Status.TheVariants.{Running, Waiting}
use Rattle.beam_machine.specs.declared.process.Tag.{Tag}
use Rattle.beam_machine.specs.Prelude.{Code, Process, Outcome, makes, sends, asks, sleeps, tag_of, caught_at, unwound, returns_to, waits_for_message, finds_message, answers, outcome}
use Rattle.beam_model.specs.declared.exception.Exception.{Exception}
use Rattle.beam_model.specs.Prelude.{Place}
use Rattle.beam_term.specs.Prelude.{TermValue}
use Rattle.beam_laws.specs.Prelude.{with_name_and_transit}
use Rattle.beam_laws.proofs.Moves.{Moves, goes, enters, returns, raise, receives, waits, waits_until, sleep, send, ask, ask_last}
use Rattle.beam_laws.proofs.Moving.{instance_of, instance_after, answer_moves, outcome_moves}

-- a running process with this name, and these signals in transit to it
abbrev pub with : Option (List ℕ) → List Signal → Process → Process
with name transit p = record p { name = name; transit = transit; status = Running }

-- the outcome of a row, with another name of its process and other signals in transit to it
abbrev pub moved : Option (List ℕ) → List Signal → Outcome → Outcome
moved name transit (makes p) = makes (with_name_and_transit name transit p)
moved name transit (sends p to signal) = sends (with name transit p) to signal
moved name transit (asks p native arity after) = asks (with name transit p) native arity after
moved name transit (sleeps p n next) = sleeps (with_name_and_transit name transit p) n next

abbrev process_in : Outcome → Process
process_in (makes p) = p
process_in (sends p to signal) = p
process_in (asks p native arity after) = p
process_in (sleeps p n next) = p

module _ (name : Option (List ℕ)) (transit : List Signal) where
  -- the process with this name and these signals; and the process without them
  abbrev full : Process → Process
  full p = with name transit p

  abbrev less : Process → Process
  less p = with None [] p

  abbrev Alike : Process → Process → Type 0
  Alike q r = q ≡ with_name_and_transit name transit r

  abbrev SameRow : Outcome → Outcome → Type 0
  SameRow o u = o ≡ moved name transit u

  caught_same : (p : Process) (e : Exception) (frames : List Frame) (q r : Process) (o : Option Tag) → Alike q r
      → Alike (caught_at (full p) e frames q o) (caught_at (less p) e frames r o)
  caught_same p e frames q r None h = h
  caught_same p e frames q r (Some tag) h = refl

  unwound_same : (p : Process) (e : Exception) (frames : List Frame) → Alike (unwound (full p) e frames) (unwound (less p) e frames)
  unwound_same p e [] = refl
  unwound_same p e (frame ∷ older) = caught_same p e (frame ∷ older) (unwound (full p) e older) (unwound (less p) e older) (tag_of frame.y) (unwound_same p e older)

  returned_same : (p : Process) (older : List Frame) (o : Option Place) → Alike (returns_to (full p) older o) (returns_to (less p) older o)
  returned_same p older None = refl
  returned_same p older (Some place) = refl

  settled_same : (p : Process) (place : Place) (d : Option Deadline)
      → Alike (record (waits_for_message (full p) place) { deadline = d }) (record (waits_for_message (less p) place) { deadline = d })
  settled_same p place d = go (finds_message p place)
    where
      go : (c : Bool)
          → Alike (record (full p) { goes = At place; status = cond c Running Waiting; deadline = d })
          (record (less p) { goes = At place; status = cond c Running Waiting; deadline = d })
      go true = refl
      go false = refl

  moves_same : (code : Code) (here : Option ℕ) (p : Process) (o u : Outcome) → Moves code here true (full p) o u → SameRow o u
  moves_same code here p _ _ (goes q place near c) = refl
  moves_same code here p _ _ (enters q m f arity place far e c) = refl
  moves_same code here p _ _ (returns q frame older far e c) = ap makes (returned_same q older frame.back)
  moves_same code here p _ _ (raise q e c) = ap makes (unwound_same q e q.frames)
  moves_same code here p _ _ (receives q place near c) = refl
  moves_same code here p _ _ (waits q place near c) = ap makes (settled_same q place None)
  moves_same code here p _ _ (waits_until q place d near later c) = ap makes (settled_same q place (Some d))
  moves_same code here p _ _ (sleep q n place after near later c) = ap (λ r. sleeps r n after) (settled_same q place q.deadline)
  moves_same code here p _ _ (send q to t place near c) = refl
  moves_same code here p _ _ (ask native arity next near) = refl
  moves_same code here p _ _ (ask_last q native arity far c) = refl

  pub answers_same : (p : Process) (after : After) (value : Result TermValue Exception) → Alike (answers (full p) after value) (answers (less p) after value)
  answers_same p after value = ap process_in (moves_same [] (instance_after after) p _ _ (answer_moves [] (full p) after value))

  pub outcome_same : (code : Code) (p : Process) → SameRow (outcome code (full p)) (outcome code (less p))
  outcome_same code p = moves_same code (instance_of p.goes) p _ _ (outcome_moves code (full p))
