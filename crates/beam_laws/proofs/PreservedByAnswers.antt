-- A process stays out over events of others also where memory may be refused.
use Rattle.std.proofs.Common.{◌≡◌, ℕ, false, refl, sym, ap, subst, ◌∙◌, Ok, Err}
use Rattle.beam_machine.specs.declared.debug.DebugEvent.{DebugEvent}
use Rattle.beam_machine.specs.declared.event.Refused.TheVariants.{NoMemory}
use Rattle.beam_machine.specs.declared.event.Reply.TheVariants.{Ran}
use Rattle.beam_machine.specs.Prelude.{Code, Debugged, DebugAnswer, debug_next, debug_cut_event, DebugAnswers}
use Rattle.beam_machine.specs.declared.debug.DebugEvent.TheVariants.{Node as NodeEvent}
use Rattle.beam_machine.specs.declared.debug.DebugReply.TheVariants.{Node}
use Rattle.beam_machine.specs.declared.event.Event.TheVariants as event
use Rattle.beam_model.specs.Prelude.{Listing}
use Rattle.beam_laws.specs.Prelude.{IsEarlierCode, Origin, IsOut, is_busy}
use Rattle.beam_laws.proofs.Kinship.{stays_kin}
use Rattle.beam_laws.proofs.StayingOut.{stays_out}

-- an event cut by a refusal of memory is of the same process
cut_busy : (pid : ℕ) (e : DebugEvent Listing) (a : DebugAnswer) → is_busy pid (debug_cut_event e a) ≡ is_busy pid e
cut_busy pid (NodeEvent (event.Steps at n)) (Ok (Node (Ran count after))) = refl
cut_busy pid (NodeEvent (event.Steps at n)) a = refl
cut_busy pid e a = refl

-- a statement that holds before, and after the event that took place, holds after the answer
module _ (Q : Debugged → Type 0) (d new : Debugged) (e : DebugEvent Listing) where
  done_so : (a : DebugAnswer) → debug_next d (debug_cut_event e a) ≡ record { answer = a; state = new } → Q (debug_next d (debug_cut_event e a)).state → Q new
  done_so a h after = subst Q (ap (λ x. x.state) h) after

  answered_so : (a : DebugAnswer) → DebugAnswers d e a new → Q d → Q (debug_next d (debug_cut_event e a)).state → Q new
  answered_so (Ok reply) h before after = done_so (Ok reply) h after
  answered_so (Err NoMemory) h before after = subst Q (sym h) before
  answered_so (Err r) h before after = done_so (Err r) h after

pub answered_out : (d new : Debugged) (o : Origin) (e : DebugEvent Listing) (a : DebugAnswer) → DebugAnswers d e a new → IsOut d o → is_busy o.pid e ≡ false → IsOut new o
answered_out d new o e a h out free = answered_so (λ x. IsOut x o) d new e a h out (stays_out d o (debug_cut_event e a) out (cut_busy o.pid e a ∙ free))

pub answered_kin : (code : Code) (d new : Debugged) (e : DebugEvent Listing) (a : DebugAnswer) → DebugAnswers d e a new → IsEarlierCode code d.node → IsEarlierCode code new.node
answered_kin code d new e a h k = answered_so (λ x. IsEarlierCode code x.node) d new e a h k (stays_kin code d (debug_cut_event e a) k)
