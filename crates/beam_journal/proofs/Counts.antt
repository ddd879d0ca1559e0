-- How many entries of each kind a journal has, and that these are together as many as it has.
use Rattle.std.proofs.Common.{◌≡◌, ℕ, suc, ◌+◌, ◌-◌, ◌^◌, ◌<◌, ◌≤◌, List, [], ◌∷◌, ◌++◌, length, map, fold, refl, sym, ap, subst, ◌∙◌, arith, append_assoc, length-append}
use Rattle.std.proofs.lemmas.List.Sums.{fold-append}
use Rattle.beam_machine.specs.Prelude.{SentEvent, sent_event_of}
use Rattle.beam_journal.specs.declared.entry_counts.EntryCounts.{EntryCounts}
use Rattle.beam_journal.specs.declared.entry_counts.EntryKind.{EntryKind}
use Rattle.beam_journal.specs.declared.entry_counts.EntryKind.TheVariants.{Slice, Delivery, Moment, Timeout, Command}
use Rattle.beam_journal.specs.Counts.{kind_of, no_entries, one_more, counts_of, total}
use Rattle.beam_journal.specs.Entering.{entries_of, most_entries}
use Rattle.beam_journal.proofs.Replayed.{sendings}

abbrev counted : EntryCounts → SentEvent → EntryCounts
counted counts s = one_more counts (kind_of s.event)

one_is : (counts : EntryCounts) (kind : EntryKind) → total (one_more counts kind) ≡ total counts + 1
one_is counts Slice = omega arith
one_is counts Delivery = omega arith
one_is counts Moment = omega arith
one_is counts Timeout = omega arith
one_is counts Command = omega arith

total_from : (counts : EntryCounts) (ss : List SentEvent) → total (fold counted counts ss) ≡ total counts + length ss
total_from counts [] = omega arith
total_from counts (s ∷ ss) = let one = one_is counts (kind_of s.event) in let rest = total_from (counted counts s) ss in omega (arith, one, rest)

-- each entry is of one kind
pub all_counted : (ss : List SentEvent) → total (counts_of ss) ≡ length ss
all_counted ss = let all = total_from no_entries ss in omega (arith, all)

-- one more entry in memory is one more of its kind
pub one_more_counted : (gone here : List SentEvent) (s : SentEvent) → counts_of (gone ++ (here ++ s ∷ [])) ≡ one_more (counts_of (gone ++ here)) (kind_of s.event)
one_more_counted gone here s = ap counts_of (sym (append_assoc gone here (s ∷ []))) ∙ fold-append counted no_entries (gone ++ here) (s ∷ [])

-- the counts are those of all entries
pub counts_all : (ss : List SentEvent) → counts_of (map sent_event_of (entries_of ss)) ≡ counts_of ss
counts_all ss = ap counts_of (sendings ss)

-- there is room for one more in each count
pub few_counted : (gone here : List SentEvent) (counts : EntryCounts) (drained limit : ℕ) → counts ≡ counts_of (gone ++ here)
    → drained ≡ length gone → drained ≤ 2 ^ 63 → length here ≤ limit → limit ≤ most_entries → total counts < 2 ^ 64 - 1
few_counted gone here counts drained limit is of few within most =
    let all = all_counted (gone ++ here) in
    let both = length-append gone here in
    subst (λ c. total c < 2 ^ 64 - 1) (sym is) (omega (arith, all, both, of, few, within, most))
