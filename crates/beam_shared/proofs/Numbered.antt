-- Numbers of instances in a state to which a journal leads.
use Rattle.std.proofs.Common.{◌≡◌, List, [], ◌∷◌, refl, subst, arith, map}
use Rattle.beam_model.specs.Prelude.{Listing}
use Rattle.beam_machine.specs.declared.event.Event.{Event}
use Rattle.beam_machine.specs.Prelude.{Debugged, debug_run, erase, undisturbed, Entry, replay, next, run, State, empty}
use Rattle.beam_laws.specs.Prelude.{Ordered, IsEarlierCode}
use Rattle.beam_laws.proofs.Debugging.{run_erased}
use Rattle.beam_laws.proofs.Numbering.{ordered_next}
use Rattle.beam_laws.proofs.Kinship.{own_kin}

abbrev IsOrdered : State → Type 0
IsOrdered s = Ordered s.code s.instances

ordered_run : (s : State) (events : List (Event Listing)) → IsOrdered s → IsOrdered (run s events).state
ordered_run s [] h = h
ordered_run s (e ∷ events) h = ordered_run (next s e).state events (ordered_next s e h)

none_ordered : IsOrdered empty
none_ordered n = (omega arith, λ l. refl)

-- the code of a state to which a journal leads counts as earlier code of that state
pub kin_there : (d : Debugged) (es : List Entry) → replay es ≡ d → IsEarlierCode d.node.code d.node
kin_there d es e =
    let events = map (λ (e : Entry). e.event) es in
    let ordered : IsOrdered (debug_run (undisturbed empty) events).state.node =
    subst IsOrdered (run_erased (undisturbed empty) events) (ordered_run empty (erase (undisturbed empty) events) none_ordered) in
    subst (λ (x : Debugged). IsEarlierCode x.node.code x.node) e (own_kin (replay es).node ordered)
