use Rattle.std.proofs.Common.{◌≡◌, ℕ, ◌-◌, ◌+◌, List, ◌++◌, drop, length, refl, sym, ap, subst, ◌∙◌, arith, vec_len}
use Rattle.beam_journal_file.specs.JournalRead.{GivesRecord, JournalRead}
use Rattle.beam_journal_file.proofs.Pages.{gives_record, tail_is}
use Rattle.beam_journal_file.proofs.reader.JournalReader.next_record.Goals as goal

pub returns-in-Ok : goal.returns-in-Ok
returns-in-Ok g c =
    let i = c.self.inside in
    let old : JournalRead = record { known = i.blocks.known; rest = drop i.used i.page.items; number = i.entries; upto = i.upto } in
    let found = c.in-Ok.ensures.found in
    let stands : drop i.used i.page.items ≡ found.0 ++ c.in-Ok.rest.now = ap (λ (page : List ℕ). drop i.used page) (sym c.deref.ensures.value) ∙ (sym (tail_is c.deref.result.now i.used) ∙ found.1) in
    let given = gives_record old i.page.items found.0 c.in-Ok.rest.now i.used c.in-Ok.sent refl stands found.2 in
    let size : length i.page.items ≡ vec_len i.page = omega (arith) in
    let counted : GivesRecord old c.in-Ok.sent (record old { rest = drop (c.len.result - length c.in-Ok.rest.now) i.page.items; number = old.number + 1 }) =
    subst (λ (n : ℕ). GivesRecord old c.in-Ok.sent (record old { rest = drop (n - length c.in-Ok.rest.now) i.page.items; number = old.number + 1 })) (sym c.len.ensures)
    (subst (λ (n : ℕ). GivesRecord old c.in-Ok.sent (record old { rest = drop (n - length c.in-Ok.rest.now) i.page.items; number = old.number + 1 })) size given) in
    subst (λ (r : JournalRead). GivesRecord r c.in-Ok.sent (record old { rest = drop (c.len.result - length c.in-Ok.rest.now) i.page.items; number = old.number + 1 })) c.self.view_is counted
