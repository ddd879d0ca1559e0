-- A node that entered all that the reader of a journal's file gave: what the reader gave since the file's beginning is what the journal has.
use Rattle.std.proofs.Common.{List, [], ◌∷◌, ◌++◌, map, Some, None, sym, subst, append_assoc, append-nil}
use Rattle.std.specs.Iterator.{Yields}
use Rattle.beam_journal_file.specs.JournalRead.{HasRead, IsOver, JournalRead, ReadsOn, gives}
use Rattle.beam_journal_file.proofs.Given.{next_read}
use Rattle.beam_journal_file.proofs.ReadOn.{reads_those}
use Rattle.beam_machine.specs.Prelude.{SentEvent, sent_event_of}
use Rattle.beam_shared.specs.Prelude.{Node}
use Rattle.beam_recall.specs.Recalling.{EntersAll, EntersThose}

pub those_read : (r t : JournalRead) (given ss : List SentEvent) → Yields gives r given t → HasRead r ss → HasRead t (ss ++ given)
those_read r t [] ss same read =
    subst (λ (l : List SentEvent). HasRead t l) (sym (append-nil ss)) (subst (λ (j : JournalRead). HasRead j ss) same read)
those_read r t (s ∷ given) ss (j, one, others) read =
    subst (λ (l : List SentEvent). HasRead t l) (append_assoc ss (s ∷ []) given)
    (those_read j t given (ss ++ s ∷ []) others (next_read r j (Some s) one ss read))

pub read_so_far : (r t : JournalRead) (old new : Node) → EntersThose gives r old t new → HasRead r (map sent_event_of old.journal)
    → HasRead t (map sent_event_of new.journal)
read_so_far r t old new (sent, those, enters) read =
    subst (λ (l : List SentEvent). HasRead t l) (sym enters) (those_read r t sent (map sent_event_of old.journal) those read)

pub recalled_is_read : (r t : JournalRead) (old new : Node) → EntersAll gives r old t new → HasRead r (map sent_event_of old.journal)
    → HasRead t (map sent_event_of new.journal)
recalled_is_read r t old new (sent, (m, those, last), enters) read =
    let all = map sent_event_of old.journal ++ sent in
    let given : HasRead m all = those_read r m sent (map sent_event_of old.journal) those read in
    subst (λ (l : List SentEvent). HasRead t l) (sym enters) (next_read m t None last all given)

-- it reads on in the same file, and up to its end where it has no more
pub those_of_the_file : (r t : JournalRead) (old new : Node) → EntersThose gives r old t new → ReadsOn r t
those_of_the_file r t old new (sent, those, enters) = reads_those r t sent those

pub all_of_the_file : (r t : JournalRead) (old new : Node) → EntersAll gives r old t new → ReadsOn r t × IsOver t
all_of_the_file r t old new (sent, (m, those, (same, over)), enters) =
    subst (λ (j : JournalRead). ReadsOn r j × IsOver j) (sym same) (reads_those r m sent those, over)
