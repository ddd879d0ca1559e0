use Rattle.std.proofs.Common.{◌≡◌, ℕ, ◌+◌, ◌<◌, ◌^◌, List, option_map, length, sym, ap, subst, ◌∙◌, arith}
use Rattle.beam_block_file.specs.StoredBlocks.{with_block}
use Rattle.beam_journal_file.specs.WrittenJournal.{HasTaken, HasWritten, WrittenJournal}
use Rattle.beam_journal_file.proofs.Pages.{written_more}
use Rattle.beam_journal_file.proofs.writer.JournalWriter.write.Goals as goal

pub returns-clause-written : goal.returns-clause-written
returns-clause-written g c = λ kept taken has_kept has_taken.
    let i = c.self.inside in
    let old : WrittenJournal = record { file = i.file; page = i.page.items; written = i.written; taken = i.taken } in
    let new : WrittenJournal = record { file = c.put.new.self; page = i.page.items; written = c.in-Some.written; taken = 0 } in
    let short : length i.page.items < 2 ^ 32 = search (c.len.ensures, c.if-len.false, arith) in
    let some : 0 < i.taken = omega (arith, c.if-self-eq0.false) in
    let known = c.in_ok-put.ensures.put ∙ ap (λ (b : List ℕ). option_map (with_block b) i.file.known) c.deref.ensures.value in
    let count : c.in-Some.written ≡ i.written + i.taken = search (c.in-Some.ensures, c.in-Some.is, c.checked_add.ensures, c.from.ensures, arith) in
    written_more old new short some known count kept taken
    (subst (λ (j : WrittenJournal). HasWritten j kept) (sym c.self.view_is) has_kept) (subst (λ (j : WrittenJournal). HasTaken j taken) (sym c.self.view_is) has_taken)
