-- Events that a source gives, one after another, and that a node enters.
use Rattle.std.proofs.Common.{◌≡◌, ℕ, ◌+◌, List, [], ◌∷◌, ◌++◌, length, map, Option, Some, None, refl, sym, ap, subst, ◌∙◌, append_assoc, MatchOption}
use Rattle.std.specs.Iterator.{Yields, YieldsThen}
use Rattle.std.proofs.lemmas.List.{length-append, length-map, map-append}
use Rattle.beam_journal.specs.Entering.{entry_of}
use Rattle.beam_machine.specs.declared.debug.DebugEvent.{DebugEvent}
use Rattle.beam_machine.specs.declared.debug.DebugReply.{DebugReply}
use Rattle.beam_machine.specs.Prelude.{Entry, SentEvent, View, sent_event_of}
use Rattle.beam_model.specs.Prelude.{Listing}
use Rattle.beam_shared.specs.Prelude.{Node}
use Rattle.beam_recall.specs.declared.error.RecallError.{RecallError}
use Rattle.beam_recall.specs.declared.error.RecallError.TheVariants.{Refused, TooManySeats, NoMemory, Unread}
use Rattle.beam_recall.specs.Recalling.{Enters, EntersThose, Hinders, Stops}

module _ {S A : Type 0} (gives : S → Option A → S → Type 0) where
  pub yields_more : (s : S) (given : List A) (t : S) (x : A) (u : S) → Yields gives s given t → gives t (Some x) u → Yields gives s (given ++ x ∷ []) u
  yields_more s [] t x u same more = (u, subst (λ r. gives r (Some x) u) (sym same) more, refl)
  yields_more s (y ∷ rest) t x u (j, first, others) more = (j, first, yields_more j rest t x u others more)

  -- a source that gives the first of a list that it has left: it gave just those
  pub all_that_was_left : (left : S → Option (List A)) → ((s t : S) (o : Option A) → gives s o t → (l : List A) → left s ≡ Some l → MatchOption o (l ≡ []) (λ x. (rest : List A) × (l ≡ x ∷ rest) × (left t ≡ Some rest)))
      → (s t : S) (given l : List A) → YieldsThen gives s given None t → left s ≡ Some l → l ≡ given
  all_that_was_left left first s t [] l (m, same, last) here = first m t None last l (subst (λ r. left r ≡ Some l) same here)
  all_that_was_left left first s t (x ∷ given) l (m, (j, one, others), last) here =
      let (rest, is, there) = first s j (Some x) one l here in
      is ∙ ap (λ r. x ∷ r) (all_that_was_left left first j t given rest (m, others, last) there)

pub enters_one : (old new : List Entry) (event : DebugEvent Listing) (seat : Option ℕ) (reply : DebugReply View) (sent : SentEvent)
    → new ≡ old ++ entry_of event seat reply ∷ [] → sent_event_of (entry_of event seat reply) ≡ sent
    → map sent_event_of new ≡ map sent_event_of old ++ sent ∷ []
enters_one old new event seat reply sent is same =
    ap (map sent_event_of) is
    ∙ (map-append sent_event_of old (entry_of event seat reply ∷ []) ∙ ap (λ s. map sent_event_of old ++ s ∷ []) same)

pub enters_more : (old between new : Node) (given : List SentEvent) (sent : SentEvent) → Enters old given between → Enters between (sent ∷ []) new → Enters old (given ++ sent ∷ []) new
enters_more old between new given sent before one =
    one ∙ (ap (λ l. l ++ sent ∷ []) before ∙ append_assoc (map sent_event_of old.journal) given (sent ∷ []))

pub one_longer : (old new : Node) (sent : SentEvent) → Enters old (sent ∷ []) new → length new.journal ≡ length old.journal + 1
one_longer old new sent enters =
    sym (length-map new.journal sent_event_of)
    ∙ (ap length enters ∙ (length-append (map sent_event_of old.journal) (sent ∷ []) ∙ ap (λ n. n + 1) (length-map old.journal sent_event_of)))

module _ {S : Type 0} (gives : S → Option SentEvent → S → Type 0) (s : S) (old : Node) (t u : S) (between new : Node) (event : SentEvent) where
  pub enters_those : EntersThose gives s old t between → gives t (Some event) u → Enters between (event ∷ []) new → EntersThose gives s old u new
  enters_those (given, yields, before) more one =
      (given ++ event ∷ [], yields_more gives s given t event u yields more, enters_more old between new given event before one)

  pub stops : {F : Type 0} (e : RecallError F) → EntersThose gives s old t between → gives t (Some event) u → Hinders new event e
      → ((e ≡ NoMemory → ⊥) → new.journal ≡ between.journal) → Stops gives s old e u new
  stops (Refused number refusal) (given, yields, before) more hinders same =
      (event, (given, (t, yields, more), ap (map sent_event_of) (same (λ e. cc e)) ∙ before), hinders)
  stops (TooManySeats number) (given, yields, before) more hinders same =
      (event, (given, (t, yields, more), ap (map sent_event_of) (same (λ e. cc e)) ∙ before), hinders)
  stops NoMemory those more hinders same = tt
  stops (Unread fault) those more hinders same = absurd hinders
