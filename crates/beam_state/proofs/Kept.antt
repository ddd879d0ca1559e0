-- What holds of the node after an answer, if each step of the definition preserves it.
use Rattle.std.proofs.Common.{ℕ, List, [], Err, sym, ap, subst}
use Rattle.beam_model.specs.Prelude.{Listing}
use Rattle.beam_machine.specs.declared.event.Event.{Event}
use Rattle.beam_machine.specs.declared.event.Refused.TheVariants.{NoMemory}
use Rattle.beam_machine.specs.Prelude.{Process, State, Answer, next, Answers, cut_event}
use Rattle.beam_laws.proofs.Orderly.{next_orderly}
use Rattle.beam_laws.proofs.Rising.{next_rises}
use Rattle.beam_state.specs.Prelude.{parts, node, AnswersByProcesses, AreLawful}

-- a statement that each step of the definition preserves holds after each answer
pub answers_keep : (P : State → Type 0) → ((s : State) (e : Event Listing) → P s → P (next s e).state)
    → (s t : State) (e : Event Listing) (a : Answer) → Answers s e a t → P s → P t
answers_keep P keeps s t e (Err NoMemory) h p = subst P (sym h) p
answers_keep P keeps s t e a h p = subst P (ap (λ n. n.state) h) (keeps s (cut_event e a) p)

pub stays_lawful : (s t : State) (e : Event Listing) (a : Answer) → Answers s e a t → AreLawful s.references s.processes → AreLawful t.references t.processes
stays_lawful = answers_keep (λ s. AreLawful s.references s.processes) (λ s e h. (next_orderly s e h.0, (next_rises s e).1 h.1))

-- an event that changes processes alone keeps them lawful
pub processes_lawful : (references : ℕ) (old new : List Process) (e : Event Listing) (a : Answer) → AnswersByProcesses old e a new → AreLawful references old → AreLawful references new
processes_lawful references old new e a h o = stays_lawful (node [] (parts old 0 0 references)) (node [] (parts new 0 0 references)) e a (h [] 0 0 references) o
