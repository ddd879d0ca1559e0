-- The definitions of this crate that specs and proofs above cite, passed on from one place. Declares nothing.
pub use Rattle.beam_laws.specs.Changes.{may_change, touches_code}
pub use Rattle.beam_laws.specs.Debugger.{AreSpotsLive}
pub use Rattle.beam_laws.specs.EarlierCode.{IsEarlierCode, IsIn, same_number, same_numbers}
pub use Rattle.beam_laws.specs.Listings.{e}
pub use Rattle.beam_laws.specs.Maps.{IsMap, Lacks}
pub use Rattle.beam_laws.specs.Monitors.{ArePart, AreRising, MonitorsNoMore, Rise}
pub use Rattle.beam_laws.specs.Numbers.{Ordered, bears, how_many}
pub use Rattle.beam_laws.specs.Orderly.{Ends, Follows, Orderly}
pub use Rattle.beam_laws.specs.Origin.{Origin}
pub use Rattle.beam_laws.specs.Out.{IsAsItWas, IsOut, is_busy, is_of, touches_process}
pub use Rattle.beam_laws.specs.Private.{IsStill, after_private, before, downs_of_end, is_of_others, posted_all, touches_others, with_name_and_transit, with_name_and_transit_of, with_signals}
pub use Rattle.beam_laws.specs.Signals.{asker_sends, brought, deliver_sends, down_brings, each_sent, end_sends, event_brings, event_sends, messages_for, native_sends, noproc_sends, on_its_way, row_and_send, row_sends, sent, signal_if, signal_to, signals_to, steps_send}
pub use Rattle.beam_laws.specs.Slice.{CanCommit, and_next_row, before_halting, committed, passes_after, rows_at_end, rows_of_event, slice_of}
pub use Rattle.beam_laws.specs.Upgrades.{loaded_each}
