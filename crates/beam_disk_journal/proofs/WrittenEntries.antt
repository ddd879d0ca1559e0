-- Entries that left a node's memory, on their way to its journal's file.
use Rattle.std.proofs.Common.{◌≡◌, ◌∙◌, ◌+◌, ◌++◌, ◌∷◌, [], List, OnErr, OnOk, Result, Ok, Err, ap, arith, subst, sym, append_assoc, append-nil}
use Rattle.beam_journal_file.specs.WrittenJournal.{HasTaken, HasWritten, WrittenJournal}
use Rattle.beam_machine.specs.Prelude.{SentEvent}
use Rattle.beam_disk_journal.specs.WrittenEntries.{HasAllBut}

-- a writer with the same file has what the other one had written
same_written : (j k : WrittenJournal) (ss : List SentEvent) → k.file ≡ j.file → k.written ≡ j.written → HasWritten j ss → HasWritten k ss
same_written j k ss file count w =
    subst (λ f. HasWritten (record k { file = f }) ss) (sym file) (subst (λ n. HasWritten (record k { file = j.file; written = n }) ss) (sym count) w)

-- the first of them is taken too
pub one_more : (sent : List SentEvent) (j k : WrittenJournal) (s : SentEvent) (end : List SentEvent) → k.file ≡ j.file → k.written ≡ j.written
    → ((ss : List SentEvent) → HasTaken j ss → HasTaken k (ss ++ s ∷ [])) → HasAllBut sent j (s ∷ end) → HasAllBut sent k end
one_more sent j k s end file count more (written, taken, w, t, is) = (
  written,
  taken ++ s ∷ [],
  same_written j k written file count w,
  more taken t,
  is ∙ sym (append_assoc (written ++ taken) (s ∷ []) end) ∙ ap (λ (l : List SentEvent). l ++ end) (append_assoc written taken (s ∷ [])),
)

-- nothing more is taken
pub no_more : (sent : List SentEvent) (j k : WrittenJournal) (end : List SentEvent) → k.file ≡ j.file → k.written ≡ j.written
    → ((ss : List SentEvent) → HasTaken j ss → HasTaken k ss) → HasAllBut sent j end → HasAllBut sent k end
no_more sent j k end file count more (written, taken, w, t, is) = (written, taken, same_written j k written file count w, more taken t, is)

-- more entries leave memory, where the file and its page have all that left it before
pub more_left : (old new more : List SentEvent) (j : WrittenJournal) (end : List SentEvent) → end ≡ [] → new ≡ old ++ more → HasAllBut old j end → HasAllBut new j more
more_left old new more j end over is (written, taken, w, t, was) = (
  written,
  taken,
  w,
  t,
  is ∙ ap (λ (l : List SentEvent). l ++ more) (was ∙ (ap (λ (l : List SentEvent). (written ++ taken) ++ l) over ∙ append-nil (written ++ taken))),
)

-- a page without entries
none_taken : (k : WrittenJournal) → k.taken ≡ 0 → HasTaken k []
none_taken k none = (sym none, λ some. absurd (omega (arith, none, some)))

-- a writer with the same page, in the same place, has taken what the other one had
same_taken : (j k : WrittenJournal) (ss : List SentEvent) → k.page ≡ j.page → k.taken ≡ j.taken → k.written ≡ j.written → HasTaken j ss → HasTaken k ss
same_taken j k ss page number place t =
    subst (λ p. HasTaken (record k { page = p }) ss) (sym page)
    (subst (λ n. HasTaken (record k { page = j.page; taken = n }) ss) (sym number)
    (subst (λ n. HasTaken (record k { page = j.page; taken = j.taken; written = n }) ss) (sym place) t))

-- the page is written, or it stays
pub page_written : {A F : Type 0} (result : Result A F) (sent : List SentEvent) (j k : WrittenJournal) (end : List SentEvent)
    → OnOk result ((kept taken : List SentEvent) → HasWritten j kept → HasTaken j taken → HasWritten k (kept ++ taken))
    → OnOk result ((k.written ≡ j.written + j.taken) × (k.taken ≡ 0))
    → OnErr result ((kept : List SentEvent) → HasWritten j kept → HasWritten k kept)
    → OnErr result ((k.page ≡ j.page) × (k.taken ≡ j.taken) × (k.written ≡ j.written))
    → HasAllBut sent j end → HasAllBut sent k end
page_written (Ok a) sent j k end more counts kept same (written, taken, w, t, is) = (
  written ++ taken,
  [],
  more written taken w t,
  none_taken k counts.1,
  is ∙ ap (λ (l : List SentEvent). l ++ end) (sym (append-nil (written ++ taken))),
)
page_written (Err f) sent j k end more counts kept (page, number, place) (written, taken, w, t, is) = (
  written,
  taken,
  kept written w,
  same_taken j k taken page number place t,
  is,
)
