-- The definitions of this crate that specs and proofs above cite, passed on from one place. Declares nothing.
pub use Rattle.beam_agenda.specs.Entries.{earlier, is_due_by}
pub use Rattle.beam_agenda.specs.First.{first_of, first_ready, least_due, least_time, with_position}
pub use Rattle.beam_agenda.specs.FlagSizes.{length-groups}
pub use Rattle.beam_agenda.specs.FlagsAndTimes.{Covers, entries_of}
pub use Rattle.beam_agenda.specs.Groups.{all_groups, groups, is_set}
pub use Rattle.beam_agenda.specs.Least.{least_of}
pub use Rattle.beam_agenda.specs.Pairs.{pairs}
pub use Rattle.beam_agenda.specs.Positions.{first_position, position_from}
pub use Rattle.beam_agenda.specs.TimeSizes.{length-pairs}
