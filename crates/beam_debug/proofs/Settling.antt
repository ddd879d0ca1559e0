-- After each event the debugger's state is of code and processes that are there.
use Rattle.std.proofs.Common.{◌≡◌, ℕ, sym, ap, subst, Option, Some, None, Ok, Err, Result, IfOk, OnErr}
use Rattle.beam_machine.specs.declared.debug.DebugEvent.{DebugEvent}
use Rattle.beam_machine.specs.declared.debug.DebugEvent.TheVariants.{Node as NodeEvent}
use Rattle.beam_machine.specs.declared.debug.DebugReply.TheVariants.{Node}
use Rattle.beam_machine.specs.declared.event.Event.TheVariants.{Steps}
use Rattle.beam_machine.specs.declared.event.Reply.TheVariants.{Ran}
use Rattle.beam_machine.specs.declared.event.Then.{Then}
use Rattle.beam_machine.specs.declared.event.Refused.{Refused}
use Rattle.beam_machine.specs.declared.event.Refused.TheVariants.{NoMemory}
use Rattle.beam_machine.specs.Prelude.{next, Debugged, DebugAnswer, DebugNext, debug_next, debug_cut_event, DebugAnswers}
use Rattle.beam_model.specs.Prelude.{Listing}
use Rattle.beam_laws.proofs.Settling.{event_settled}
use Rattle.beam_debug.specs.declared.outcome.Outcome.{Outcome}
use Rattle.beam_debug.specs.Prelude.{reply_of, Settled, ShortAnswers}
use Rattle.beam_debug.proofs.Debugging.{settles}

next_is : (d new : Debugged) (e : DebugEvent Listing) (a : DebugAnswer) → debug_next d e ≡ record { answer = a; state = new } → Settled d → Settled new
next_is d new e a h k = subst Settled (ap (λ (x : DebugNext). x.state) h) (event_settled Settled settles d e k)

pub answers_settled : (d new : Debugged) (e : DebugEvent Listing) (a : DebugAnswer) → DebugAnswers d e a new → Settled d → Settled new
answers_settled d new e (Err NoMemory) h k = subst Settled (sym h) k
answers_settled d new e a h k = next_is d new (debug_cut_event e a) a h k

-- rows took effect as an event, or nothing changed
pub installed_settled : (d new : Debugged) (e : DebugEvent Listing) (result : Result Outcome Refused)
    → IfOk result (λ outcome. debug_next d e ≡ record { answer = Ok (reply_of outcome); state = new }) → OnErr result (new ≡ d) → Settled d → Settled new
installed_settled d new e (Ok outcome) next err k = next_is d new e (Ok (reply_of outcome)) next k
installed_settled d new e (Err refused) next err k = subst Settled (sym err) k

-- rows of a short turn took effect as a `Steps`, or nothing changed
pub short_settled : (d new : Debugged) (pid : ℕ) (result : Result (Option (ℕ × Then)) Refused) → ShortAnswers d pid result new → Settled d → Settled new
short_settled d new pid (Ok (Some (count, after))) h k = answers_settled d new (NodeEvent (Steps pid count)) (Ok (Node (Ran count after))) h k
short_settled d new pid (Ok None) h k = subst Settled (sym h) k
short_settled d new pid (Err refused) h k = subst Settled (sym h.1) k
