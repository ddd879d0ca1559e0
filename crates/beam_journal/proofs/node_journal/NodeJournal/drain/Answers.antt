use Rattle.std.proofs.Common.{rules, ◌≡◌, ◌+◌, ◌^◌, ◌≤◌, ◌++◌, [], List, length, sym, ap, subst, ◌∙◌, arith, append-nil, length-append}
use Rattle.std.specs.Vec.{vec_len}
use Rattle.std.proofs.lemmas.List.{nil_from_length}
use Rattle.beam_machine.specs.Journal.{IsLawful, SentEvent}
use Rattle.beam_journal.specs.Drained.{after_drain}
use Rattle.beam_journal.specs.declared.drained_events.DrainedEvents.{DrainedEvents}
use Rattle.beam_journal.specs.Counts.{counts_of}
use Rattle.beam_journal.specs.Entering.{entries_of}
use Rattle.beam_journal.proofs.DrainedEntries.{all_drained, count_all}
use Rattle.beam_journal.proofs.node_journal.NodeJournal.drain.Goals as goal

-- all entries have left memory, and the list that takes their place has none
pub invariant_of-self : goal.invariant_of-self
invariant_of-self c =
    let i = c.self.inside in
    let gone : List SentEvent = i.gone.events in
    let here : List SentEvent = i.entries.items in
    let left : List SentEvent = c.after-self-inside.result.events in
    let room : List SentEvent = c.replace.new.dest.items in
    let none : room ≡ [] = search (rules, nil_from_length c.args.room.items) in
    let all : left ≡ gone ++ here
    = ap (λ (d : DrainedEvents). d.events) c.after-self-inside.ensures ∙ ap (λ (l : List SentEvent). gone ++ l) c.deref.ensures.value in
    let whole : left ++ room ≡ (gone ++ here) ++ [] = (λ j. all j ++ none j) in
    let count : c.len-count.result ≡ length left = search (rules, all, count_all gone here i.drained, length-append gone here) in (
      subst (λ (l : List SentEvent). IsLawful (entries_of l)) (sym whole) (subst IsLawful (sym (all_drained gone here)) c.self.invariant.0),
      search (rules, none),
      c.self.invariant.2,
      count,
      search rules,
      c.self.invariant.5 ∙ ap counts_of (sym (append-nil (gone ++ here))) ∙ ap counts_of (sym whole),
    )
