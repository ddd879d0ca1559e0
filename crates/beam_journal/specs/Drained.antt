-- The events of entries that have left memory.
use Rattle.std.specs.Prelude.{[], ◌++◌}
use Rattle.beam_journal.specs.declared.drained_events.DrainedEvents.{DrainedEvents}
use Rattle.beam_journal.specs.declared.drained_events.Leaving.{Leaving}

abbrev pub none_drained : DrainedEvents
none_drained = record { events = [] }

-- these leave memory too
abbrev pub after_drain : DrainedEvents → Leaving → DrainedEvents
after_drain so_far leaving = record { events = so_far.events ++ leaving.entries.now }
