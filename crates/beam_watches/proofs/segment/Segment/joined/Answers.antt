use Rattle.beam_watches.specs.MonitorEntries.{monitors_in, AreApart}
use Rattle.beam_watches.proofs.Parts.{joined_rising}
use Rattle.beam_watches.proofs.segment.Segment.joined.Goals as goal

pub whole-requires : goal.whole-requires
whole-requires c =
    let apart : AreApart (monitors_in c.entries.result) (monitors_in c.entries-2.result) = rw (c.entries.ensures.all, c.entries-2.ensures.all) c.requires.apart in
    rw (c.in_ok-gather-2.ensures, c.in_ok-gather.ensures, c.in_ok-all.ensures.items)
    (joined_rising c.entries.result c.entries-2.result c.entries.ensures.rising c.entries-2.ensures.rising apart)
