-- A journal of which the first entries have left memory.
use Rattle.std.proofs.Common.{◌≡◌, ◌↔◌, ℕ, ◌+◌, ◌-◌, ◌≤◌, List, [], ◌∷◌, ◌++◌, length, map, drop, refl, sym, ap, ◌∙◌, arith, Ok, Option, append-nil, append_assoc, length-append}
use Rattle.std.proofs.Math.Seq.{drop-append_seam}
use Rattle.std.proofs.lemmas.List.{nil_from_length}
use Rattle.beam_model.specs.Prelude.{Listing}
use Rattle.beam_machine.specs.declared.debug.DebugEvent.{DebugEvent}
use Rattle.beam_machine.specs.declared.debug.DebugReply.{DebugReply}
use Rattle.beam_machine.specs.Prelude.{View, debug_cut_event, SentEvent, replay, sent_event_of}
use Rattle.beam_journal.specs.Entering.{Accepts, entry_of, entries_of, in_memory}
use Rattle.beam_journal.proofs.Replayed.{entries_more, length_entries, none_entered as none_sent, sendings}

-- all entries are those that have left memory and those in it
pub count_all : (gone here : List SentEvent) (drained : ℕ) → drained ≡ length gone → length (entries_of (gone ++ here)) ≡ drained + length here
count_all gone here drained is = length_entries (gone ++ here) ∙ length-append gone here ∙ ap (λ n. n + length here) (sym is)

pub few_drained : (gone here : List SentEvent) (drained : ℕ) → drained ≡ length gone → drained ≤ length (entries_of (gone ++ here))
few_drained gone here drained is = omega (arith, count_all gone here drained is)

pub count_in_memory : (gone here : List SentEvent) (drained : ℕ) → drained ≡ length gone → in_memory (entries_of (gone ++ here)) drained ≡ length here
count_in_memory gone here drained is = omega (arith, count_all gone here drained is)

pub none_entered : (gone here : List SentEvent) (drained : ℕ) → drained ≡ length gone
    → (entries_of (gone ++ here) ≡ []) ↔ ((drained ≡ 0) × (length here ≡ 0))
none_entered gone here drained is = (
  (λ e. let none : length (entries_of (gone ++ here)) ≡ 0 = ap length e in
      let all = count_all gone here drained is in
      (omega (arith, none, all), omega (arith, none, all))),
  (λ z. (none_sent (gone ++ here)).1 (let all = length-append gone here in omega (arith, z.0, z.1, is, all))),
)

-- those in memory are those after as many as have left it
pub those_in_memory : (gone here : List SentEvent) (drained : ℕ) → drained ≡ length gone → drop drained (map sent_event_of (entries_of (gone ++ here))) ≡ here
those_in_memory gone here drained is =
    ap (drop drained) (sendings (gone ++ here)) ∙ ap (λ n. drop n (gone ++ here)) is ∙ drop-append_seam gone here

-- one more entry in memory is one more entry
pub one_more : (gone here : List SentEvent) (event : DebugEvent Listing) (seat : Option ℕ) (reply : DebugReply View) → Accepts (replay (entries_of (gone ++ here))) event reply
    → entries_of (gone ++ (here ++ record { event = debug_cut_event event (Ok reply); seat = seat } ∷ [])) ≡ entries_of (gone ++ here) ++ entry_of event seat reply ∷ []
one_more gone here event seat reply accepts =
    ap entries_of (sym (append_assoc gone here (record { event = debug_cut_event event (Ok reply); seat = seat } ∷ [])))
    ∙ entries_more (gone ++ here) event seat reply accepts

-- once all have left memory the entries are the same
pub all_drained : (gone here : List SentEvent) → entries_of ((gone ++ here) ++ []) ≡ entries_of (gone ++ here)
all_drained gone here = ap entries_of (append-nil (gone ++ here))

-- if none have left memory, all are in it
pub none_gone : (gone here : List SentEvent) (drained : ℕ) → drained ≡ length gone → drained ≡ 0 → entries_of (gone ++ here) ≡ entries_of here
none_gone gone here drained is zero = ap (λ (l : List SentEvent). entries_of (l ++ here)) (nil_from_length gone (sym is ∙ zero))
