-- The definitions of this crate that specs and proofs above cite, passed on from one place. Declares nothing.
pub use Rattle.beam_rows.specs.Asked.{Performs, after_drop, asked, calls_after, can_ask, enters_after, native_answers, without_exception}
pub use Rattle.beam_rows.specs.Finds.{AlwaysFinds, FindsRow}
pub use Rattle.beam_rows.specs.OfProcess.{called, leaves_without, without}
pub use Rattle.beam_rows.specs.Private.{LeadsTo}
pub use Rattle.beam_rows.specs.Quick.{Quick, RecordAt, StandsIn, StayIn}
pub use Rattle.beam_rows.specs.Reads.{removes, selects_by_size, selects_by_value, skips, updated_items, value_of}
pub use Rattle.beam_rows.specs.RowErrors.{Chooses, Finishes, GoesTo, MakesTerm, Misses, Why}
pub use Rattle.beam_rows.specs.Short.{asked_for}
pub use Rattle.beam_rows.specs.Spots.{AreElsewhere, ClearRows, Halts, HasSpotsOf, NoneIn, is_stopped, passes_after}
