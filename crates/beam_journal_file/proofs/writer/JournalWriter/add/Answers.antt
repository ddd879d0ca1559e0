use Rattle.std.proofs.Common.{◌≡◌, ◌+◌, ◌<◌, [], ◌∷◌, ◌++◌, length, sym, ap, subst, ◌∙◌}
use Rattle.beam_machine.specs.Prelude.{SentEvent}
use Rattle.beam_records.specs.JournalFile.{IsPage}
use Rattle.beam_journal_file.specs.WrittenJournal.{WrittenJournal}
use Rattle.beam_journal_file.proofs.Pages.{taken_more}
use Rattle.beam_journal_file.proofs.writer.JournalWriter.add.Goals as goal

pub returns-clause-taken : goal.returns-clause-taken
returns-clause-taken g c = λ ss has.
    let s : SentEvent = record { event = c.args.event.now; seat = c.args.seat } in
    let page = c.put_record.new.out.items in
    let put = c.in_ok-put_record.ensures.ok in
    let more = put.1 ∙ ap (λ (j : WrittenJournal). j.page ++ put.0) c.self.view_is in
    subst (λ (j : WrittenJournal). (length (ss ++ s ∷ []) ≡ j.taken + 1) × (0 < j.taken + 1 → IsPage j.written page (ss ++ s ∷ []))) (sym c.self.view_is)
    (taken_more c.args.self.now c.begin.new.self page put.0 s c.begin.ensures.same more put.2 ss has (c.in_ok-begin.ensures.page ss has))
