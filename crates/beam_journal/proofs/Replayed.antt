-- Journals that are run, entry by entry.
use Rattle.std.proofs.Common.{◌≡◌, ◌↔◌, ℕ, suc, ◌||◌, Bool, true, false, List, [], ◌∷◌, ◌++◌, length, refl, ap, ◌∙◌, arith, Ok, map, not, Option, is_ok}
use Rattle.beam_model.specs.Prelude.{Listing}
use Rattle.beam_machine.specs.declared.debug.DebugEvent.{DebugEvent}
use Rattle.beam_machine.specs.declared.debug.DebugReply.{DebugReply}
use Rattle.beam_machine.specs.Prelude.{empty, View, Debugged, DebugAnswer, debug_next, debug_run, undisturbed, debug_cut_event, is_quiet_debug_event, Entry, SentEvent, IsLawful, replay, sent_event_of}
use Rattle.beam_journal.specs.Entering.{Accepts, Accepted, entry_of, reply_in, answered_from, entries_of, takes_memory}

abbrev pub events_of : List Entry → List (DebugEvent Listing)
events_of entries = map (λ e. e.event) entries

abbrev pub replies_of : List Entry → List DebugAnswer
replies_of entries = map (λ e. Ok e.reply) entries

-- from the state d on the entries are lawful, and lead to the state t
pub record Leads (d : Debugged) (entries : List Entry) (t : Debugged) : Type 0 where
  pub replies : (debug_run d (events_of entries)).answers ≡ replies_of entries
  pub state : (debug_run d (events_of entries)).state ≡ t

first_is : (a b : DebugAnswer) (as' bs : List DebugAnswer) → a ∷ as' ≡ b ∷ bs → a ≡ b
first_is a b as' bs e = cc

rest_is : (a b : DebugAnswer) (as' bs : List DebugAnswer) → a ∷ as' ≡ b ∷ bs → as' ≡ bs
rest_is a b as' bs e = cc

-- a run goes on by one entry that is accepted
answers_more : (d : Debugged) (es : List Entry) (e : Entry) → (debug_run d (events_of es)).answers ≡ replies_of es
    → (debug_next (debug_run d (events_of es)).state e.event).answer ≡ Ok e.reply → (debug_run d (events_of (es ++ e ∷ []))).answers ≡ replies_of (es ++ e ∷ [])
answers_more d [] e lawful accepted = ap (λ (a : DebugAnswer). a ∷ []) accepted
answers_more d (x ∷ xs) e lawful accepted =
    let next = debug_next d x.event in
    let first : next.answer ≡ Ok x.reply = first_is next.answer (Ok x.reply) (debug_run next.state (events_of xs)).answers (replies_of xs) lawful in
    let others : (debug_run next.state (events_of xs)).answers ≡ replies_of xs = rest_is next.answer (Ok x.reply) (debug_run next.state (events_of xs)).answers (replies_of xs) lawful in
    let more = answers_more next.state xs e others accepted in
    ap (λ (a : DebugAnswer). a ∷ (debug_run next.state (events_of (xs ++ e ∷ []))).answers) first ∙ ap (λ (l : List DebugAnswer). Ok x.reply ∷ l) more

state_more : (d : Debugged) (es : List Entry) (e : Entry) → (debug_run d (events_of (es ++ e ∷ []))).state ≡ (debug_next (debug_run d (events_of es)).state e.event).state
state_more d [] e = refl
state_more d (x ∷ xs) e = state_more (debug_next d x.event).state xs e

-- a journal stays lawful if its last entry is accepted
pub lawful_more : (es : List Entry) (e : Entry) → IsLawful es → (debug_next (replay es) e.event).answer ≡ Ok e.reply → IsLawful (es ++ e ∷ [])
lawful_more = answers_more (undisturbed empty)

pub replay_more : (es : List Entry) (e : Entry) → replay (es ++ e ∷ []) ≡ (debug_next (replay es) e.event).state
replay_more = state_more (undisturbed empty)

-- ---- the part of an entry that is stored

answered_more : (d : Debugged) (ss : List SentEvent) (s : SentEvent)
    → answered_from d (ss ++ s ∷ []) ≡ answered_from d ss
    ++ record { event = s.event; seat = s.seat; reply = reply_in (debug_next (debug_run d (events_of (answered_from d ss))).state s.event).answer } ∷ []
answered_more d [] s = refl
answered_more d (x ∷ ss) s =
    ap (λ (l : List Entry). record { event = x.event; seat = x.seat; reply = reply_in (debug_next d x.event).answer } ∷ l) (answered_more (debug_next d x.event).state ss s)

-- the entries after one more event was sent
pub entries_more : (ss : List SentEvent) (event : DebugEvent Listing) (seat : Option ℕ) (reply : DebugReply View) → Accepts (replay (entries_of ss)) event reply
    → entries_of (ss ++ record { event = debug_cut_event event (Ok reply); seat = seat } ∷ []) ≡ entries_of ss ++ entry_of event seat reply ∷ []
entries_more ss event seat reply accepts =
    answered_more (undisturbed empty) ss (record { event = debug_cut_event event (Ok reply); seat = seat })
    ∙ ap (λ (a : DebugAnswer). entries_of ss ++ record { event = debug_cut_event event (Ok reply); seat = seat; reply = reply_in a } ∷ []) accepts

sendings_from : (d : Debugged) (ss : List SentEvent) → map sent_event_of (answered_from d ss) ≡ ss
sendings_from d [] = refl
sendings_from d (s ∷ ss) = ap (λ (l : List SentEvent). s ∷ l) (sendings_from (debug_next d s.event).state ss)

pub sendings : (ss : List SentEvent) → map sent_event_of (entries_of ss) ≡ ss
sendings = sendings_from (undisturbed empty)

length_from : (d : Debugged) (ss : List SentEvent) → length (answered_from d ss) ≡ length ss
length_from d [] = refl
length_from d (s ∷ ss) = ap suc (length_from (debug_next d s.event).state ss)

pub length_entries : (ss : List SentEvent) → length (entries_of ss) ≡ length ss
length_entries = length_from (undisturbed empty)

-- there are no entries exactly if no event was sent
pub none_entered : (ss : List SentEvent) → (entries_of ss ≡ []) ↔ (length ss ≡ 0)
none_entered [] = ((λ e. refl), (λ e. refl))
none_entered (s ∷ ss) = ((λ e. cc), (λ e. absurd (omega (arith, e))))

-- ---- entries that are run again

-- from the state d on the sent events are lawful, and lead to the state t
pub record SentLeads (d : Debugged) (ss : List SentEvent) (t : Debugged) : Type 0 where
  pub replies : (debug_run d (events_of (answered_from d ss))).answers ≡ replies_of (answered_from d ss)
  pub state : (debug_run d (events_of (answered_from d ss))).state ≡ t

ok_is : (a : DebugAnswer) (r : DebugReply View) → a ≡ Ok r → is_ok a ≡ true
ok_is a r e = ap is_ok e

pub first_accepted : (d t : Debugged) (s : SentEvent) (ss : List SentEvent) → SentLeads d (s ∷ ss) t → Accepted d s.event
first_accepted d t s ss h =
    let next = debug_next d s.event in
    let rest = answered_from next.state ss in
    ok_is next.answer (reply_in next.answer) (first_is next.answer (Ok (reply_in next.answer)) (debug_run next.state (events_of rest)).answers (replies_of rest) h.replies)

pub rest_leads : (d t : Debugged) (s : SentEvent) (ss : List SentEvent) → SentLeads d (s ∷ ss) t → SentLeads (debug_next d s.event).state ss t
rest_leads d t s ss h =
    let next = debug_next d s.event in
    let rest = answered_from next.state ss in
    record { replies = rest_is next.answer (Ok (reply_in next.answer)) (debug_run next.state (events_of rest)).answers (replies_of rest) h.replies; state = h.state }

-- ---- entries that may take memory

abbrev pub sent_events : List SentEvent → List (DebugEvent Listing)
sent_events ss = map (λ s. s.event) ss

abbrev pub TakesMemory : Debugged → List SentEvent → Type 0
TakesMemory d ss = takes_memory d (sent_events ss) ≡ true

-- from the state d on these last sent events lead to the state after all; if they may take memory, so may all
pub record SentOn (d : Debugged) (ss : List SentEvent) (all : List SentEvent) : Type 0 where
  pub leads : SentLeads d ss (replay (entries_of all))
  pub loud : TakesMemory d ss → TakesMemory (undisturbed empty) all

or_true : (b : Bool) → (b || true) ≡ true
or_true false = refl
or_true true = refl

first_loud : (d : Debugged) (s : SentEvent) (ss : List SentEvent) → is_quiet_debug_event d s.event ≡ false → TakesMemory d (s ∷ ss)
first_loud d s ss loud = ap (λ b. not b || takes_memory (debug_next d s.event).state (sent_events ss)) loud

rest_loud : (d : Debugged) (s : SentEvent) (ss : List SentEvent) → TakesMemory (debug_next d s.event).state ss → TakesMemory d (s ∷ ss)
rest_loud d s ss loud = ap (λ b. not (is_quiet_debug_event d s.event) || b) loud ∙ or_true (not (is_quiet_debug_event d s.event))

pub first_of : (d : Debugged) (s : SentEvent) (ss all : List SentEvent) → SentOn d (s ∷ ss) all → Accepted d s.event
first_of d s ss all h = first_accepted d (replay (entries_of all)) s ss h.leads

pub rest_of : (d : Debugged) (s : SentEvent) (ss all : List SentEvent) → SentOn d (s ∷ ss) all → SentOn (debug_next d s.event).state ss all
rest_of d s ss all h = record { leads = rest_leads d (replay (entries_of all)) s ss h.leads; loud = λ e. h.loud (rest_loud d s ss e) }

pub loud_of : (d : Debugged) (s : SentEvent) (ss all : List SentEvent) → SentOn d (s ∷ ss) all → is_quiet_debug_event d s.event ≡ false → TakesMemory (undisturbed empty) all
loud_of d s ss all h e = h.loud (first_loud d s ss e)

events_sent : (d : Debugged) (ss : List SentEvent) → events_of (answered_from d ss) ≡ sent_events ss
events_sent d [] = refl
events_sent d (s ∷ ss) = ap (λ (l : List (DebugEvent Listing)). s.event ∷ l) (events_sent (debug_next d s.event).state ss)

pub loud_among : (ss : List SentEvent) → TakesMemory (undisturbed empty) ss → takes_memory (undisturbed empty) (events_of (entries_of ss)) ≡ true
loud_among ss loud = ap (takes_memory (undisturbed empty)) (events_sent (undisturbed empty) ss) ∙ loud
