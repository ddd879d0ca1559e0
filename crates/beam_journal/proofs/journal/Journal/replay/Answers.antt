use Rattle.std.proofs.Common.{rules, ◌≡◌, true, List, sym, ap, ◌∙◌, map}
use Rattle.beam_machine.specs.Prelude.{undisturbed, Entry, SentEvent, empty}
use Rattle.beam_journal.specs.Entering.{entries_of, takes_memory}
use Rattle.beam_journal.proofs.Replayed.{TakesMemory, events_of, loud_among}
use Rattle.beam_journal.proofs.journal.Journal.replay.Goals as goal

pub returns-in-Err-clause-memory : goal.returns-in-Err-clause-memory
returns-in-Err-clause-memory c =
    let ss : List SentEvent = c.self.inside.entries.items in
    let sent : TakesMemory (undisturbed empty) ss = search rules in
    let entries : c.args.self.now.entries ≡ entries_of ss = search rules in
    ap (λ (es : List Entry). takes_memory (undisturbed empty) (events_of es)) entries ∙ loud_among ss sent
