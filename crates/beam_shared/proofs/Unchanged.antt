-- Events that are of neither code nor break spots leave both.
use Rattle.std.proofs.Common.{◌≡◌, false, Ok, refl, sym, ap, ◌∙◌}
use Rattle.beam_machine.specs.declared.debug.DebugEvent.{DebugEvent}
use Rattle.beam_machine.specs.declared.debug.DebugReply.{DebugReply}
use Rattle.beam_machine.specs.declared.event.Reply.TheVariants.{Ran}
use Rattle.beam_machine.specs.Prelude.{Debugged, DebugNext, debug_next, debug_cut_event, DebugAnswers, View}
use Rattle.beam_machine.specs.declared.debug.DebugEvent.TheVariants.{Node as NodeEvent}
use Rattle.beam_machine.specs.declared.debug.DebugReply.TheVariants.{Node}
use Rattle.beam_machine.specs.declared.event.Event.TheVariants as event
use Rattle.beam_model.specs.Prelude.{Listing}
use Rattle.beam_laws.specs.Prelude.{AreSpotsLive, may_change}
use Rattle.beam_laws.proofs.Unchanging.{code_stays, spots_stay}
use Rattle.beam_shared.specs.Prelude.{context_in}

cut_changes : (e : DebugEvent Listing) (reply : DebugReply View) → may_change (debug_cut_event e (Ok reply)) ≡ may_change e
cut_changes (NodeEvent (event.Steps at n)) (Node (Ran count after)) = refl
cut_changes (NodeEvent (event.Steps at n)) reply = refl
cut_changes e reply = refl

pub context_stays : (d x : Debugged) (e : DebugEvent Listing) (reply : DebugReply View) → AreSpotsLive d → may_change e ≡ false → DebugAnswers d e (Ok reply) x
    → context_in x ≡ context_in d
context_stays d x e reply live none answers =
    let still : may_change (debug_cut_event e (Ok reply)) ≡ false = cut_changes e reply ∙ none in
    let after : (debug_next d (debug_cut_event e (Ok reply))).state ≡ x = ap (λ (n : DebugNext). n.state) answers in
    ap context_in (sym after)
    ∙ (ap (λ code. record { code = code; spots = (debug_next d (debug_cut_event e (Ok reply))).state.spots }) (code_stays d (debug_cut_event e (Ok reply)) still)
    ∙ ap (λ spots. record { code = d.node.code; spots = spots }) (spots_stay d (debug_cut_event e (Ok reply)) live still))
