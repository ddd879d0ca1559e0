-- A native that changes its process alone keeps each statement that doesn't depend on the mailbox, and holds of fewer monitors too.
use Rattle.std.proofs.Common.{Bool, true, false, List, [], ◌∷◌, filter, Option, Some, None, Ok}
use Rattle.beam_machine.specs.declared.callee.After.{After}
use Rattle.beam_machine.specs.declared.process.Monitor.{Monitor}
use Rattle.beam_machine.specs.Prelude.{Process, faults, answers, demonitored, flushed_if, flush_in, demonitors, changed_by, answers_true}
use Rattle.beam_model.specs.declared.exception.Fault.TheVariants.{Badarg}
use Rattle.beam_model.specs.declared.native.ProcessNative.{ProcessNative}
use Rattle.beam_model.specs.declared.native.ProcessNative.TheVariants.{Demonitor}
use Rattle.beam_model.specs.Prelude.{Mailbox, truth}
use Rattle.beam_term.specs.Prelude.{TermValue, reference_term}

module _ (P : Process → Type 0) (other_mailbox : (q : Process) (m : Mailbox) → P q → P (record q { mailbox = m }))
    (fewer : (q : Process) (keep : Monitor → Bool) → P q → P (record q { monitors = filter keep q.monitors })) where
  abbrev If : Option Process → Type 0
  If (Some q) = P q
  If None = Unit {0}

  flushes : (flush : Bool) (q : Process) (t : TermValue) → P q → P (flushed_if flush q t)
  flushes true q t h = other_mailbox q _ h
  flushes false q t h = h

  demonitors_if : (p : Process) (t : TermValue) (flush : Option Bool) → P p → If (demonitors p t flush)
  demonitors_if p (reference_term host creation words) (Some flush) h =
      flushes flush (demonitored p (reference_term host creation words)) (reference_term host creation words) (fewer p _ h)
  demonitors_if p _ _ h = tt

  changed_if : (p : Process) (native : ProcessNative) (ts : List TermValue) → P p → If (changed_by p native ts)
  changed_if p Demonitor (t ∷ []) h = demonitors_if p t (Some false) h
  changed_if p Demonitor (t ∷ options ∷ []) h = demonitors_if p t (flush_in options) h
  changed_if p Demonitor _ h = tt

  -- the answer of the native, true or badarg, keeps it too
  pub answers_keep : (R : Process → Type 0) (p : Process) (after : After) (native : ProcessNative) (ts : List TermValue) → P p → R (faults p Badarg)
      → ((q : Process) → P q → R (answers q after (Ok (truth true)))) → R (answers_true p after (changed_by p native ts))
  answers_keep R p after native ts h wrong right = go (changed_by p native ts) (changed_if p native ts h)
    where
      go : (o : Option Process) → If o → R (answers_true p after o)
      go None i = wrong
      go (Some q) i = right q i
