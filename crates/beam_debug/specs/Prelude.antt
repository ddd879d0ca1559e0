-- The definitions of this crate that specs and proofs above cite, passed on from one place. Declares nothing.
pub use Rattle.beam_debug.specs.Answers.{Inspected, answer_of, change_answer, release_answer, reply_of}
pub use Rattle.beam_debug.specs.Capacity.{AreRising, BeginBelow, CapacityFor, HasCapacity, has_begun, is_at_row}
pub use Rattle.beam_debug.specs.DebuggedNode.{debugged}
pub use Rattle.beam_debug.specs.Debugger.{Debugger, capacity_of}
pub use Rattle.beam_debug.specs.Each.{Each, LacksMemory}
pub use Rattle.beam_debug.specs.Halt.{RowIs, steps_in, then_at}
pub use Rattle.beam_debug.specs.InsertPosition.{insert_position, spot_insert_position}
pub use Rattle.beam_debug.specs.Installing.{AreSlices}
pub use Rattle.beam_debug.specs.LabelOrRows.{label_or_rows_at, label_or_rows_by}
pub use Rattle.beam_debug.specs.Loud.{DebugLoudly}
pub use Rattle.beam_debug.specs.Seen.{frame_seen, frame_text, live_seen, next_seen}
pub use Rattle.beam_debug.specs.Settled.{Settled}
pub use Rattle.beam_debug.specs.Short.{ShortAnswers, ShortHalts}
