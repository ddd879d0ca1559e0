-- The definitions of this crate that specs and proofs above cite, passed on from one place. Declares nothing.
pub use Rattle.beam_shared.specs.Commands.{changes_after, context_after}
pub use Rattle.beam_shared.specs.Committing.{advanced, checked_in, event_of, is_live, is_open, is_serial, without_checkout}
pub use Rattle.beam_shared.specs.FinishedSlice.{CodeContext, FinishedSlice, IsFinishedSlice, context_of, finished_slice}
pub use Rattle.beam_shared.specs.Invariant.{AreDrained, AreHanded, AreThoseOut, HasCapacityFor, IsHanded, NodeInvariant, checked_out_of, context_in, entry_of, node_of, origin_by}
pub use Rattle.beam_shared.specs.Node.{CheckedOut, Node, accepted, accepted_without_seat, all_arrived, delivered_if, deliveries, has_any, origin, origin_in, process_has_incoming, serial_of}
pub use Rattle.beam_shared.specs.Refusals.{RefusesCommand, must_wait, refusal_in, refusal_of, refused_command, refused_now, why_not, with_refused}
pub use Rattle.beam_shared.specs.Returned.{is_alike, same_places, without_entry}
pub use Rattle.beam_shared.specs.Seats.{AddUp, Agree, AreAll, AreBelow, AreDistinct, AreOfSeats, WereAllRefused, WereEachRefused, commands_in, commands_kept, commands_of}
