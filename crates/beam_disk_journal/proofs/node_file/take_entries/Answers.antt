use Rattle.std.proofs.Common.{◌≡◌, ◌∙◌, ◌+◌, ◌∷◌, List, ap, drop, subst, sym}
use Rattle.std.proofs.lemmas.List.{drop_more}
use Rattle.beam_machine.specs.Prelude.{SentEvent}
use Rattle.beam_disk_journal.proofs.WrittenEntries.{no_more, one_more}
use Rattle.beam_disk_journal.specs.WrittenEntries.{HasAllBut}
use Rattle.beam_disk_journal.proofs.node_file.take_entries.Goals as goal

pub returns-in_err-add-clause-taken : goal.returns-in_err-add-clause-taken
returns-in_err-add-clause-taken g c = λ sent first.
    let l = c.loop-next in
    no_more sent l.writer c.add.new.self (drop l.next c.args.entries.now) c.add.ensures.file.0 c.add.ensures.file.1 c.in_err-add.ensures.kept.1
    (l.invariant.taken sent first)

pub loop-next-preserved : goal.loop-next-preserved
loop-next-preserved g c =
    let l = c.loop-next in
    let entries = c.args.entries.now in
    let taken : SentEvent = record { event = c.event.result.now; seat = c.seat.result } in
    let event = sym c.event.ensures in
    let seat = sym c.seat.ensures in
    let is : c.index-entries-next.result ≡ taken = λ i. record { event = event i; seat = seat i } in
    let later : List SentEvent = drop (l.next + 1) entries in
    let those : drop l.next entries ≡ taken ∷ later =
    drop_more entries l.next _ c.loop-next-test.true ∙ ap (λ (s : SentEvent). s ∷ later) (sym c.index-entries-next.is ∙ is) in
    record {
      taken = λ sent first. one_more sent l.writer c.add.new.self taken later c.in_ok-add.ensures.file.0 c.in_ok-add.ensures.file.1 c.in_ok-add.ensures.taken
          (subst (λ (rest : List SentEvent). HasAllBut sent l.writer rest) those (l.invariant.taken sent first));
      file = (c.in_ok-add.ensures.file.0 ∙ l.invariant.file.0, c.in_ok-add.ensures.file.1 ∙ l.invariant.file.1);
    }
