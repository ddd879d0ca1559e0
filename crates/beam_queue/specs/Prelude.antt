-- The definitions of this crate that specs and proofs above cite, passed on from one place. Declares nothing.
pub use Rattle.beam_queue.specs.Closing.{HaveNoStealers, KeepsCounts, RemovesStealer, lent, stealer_count}
pub use Rattle.beam_queue.specs.Counting.{one_if, times, total}
pub use Rattle.beam_queue.specs.Making.{AddsAllStealers, AddsStealersInRange, AddsStealersOf, LentAtMost, number_of}
pub use Rattle.beam_queue.specs.Rule.{Balanced, DequeId, IdleIsEmpty, contribution}
pub use Rattle.beam_queue.specs.RunQueues.{HaveAllStealers, OneStole, OwnQueue, RunQueue, Stealer, Steals, enqueued_by, lends, lent_of, new_run_queue, new_stealer, others, stealer_takes, stealers_of, stolen_by, taken_by, takes, takes_back, victims}
