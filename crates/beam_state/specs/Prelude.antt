-- The definitions of this crate that specs and proofs above cite, passed on from one place. Declares nothing.
pub use Rattle.beam_state.specs.Asking.{AnswersNative, AreRead, CanDrop, EndsAfter, HasSlots, IsAsking, MadeBy, Responds, RespondsBy, asking, asking_dropping, bare_if, ending, sending, sleeping}
pub use Rattle.beam_state.specs.Indexed.{GoesOnFrom, KeepsName, due_time, entry_of, if_named}
unfoldable pub use Rattle.beam_state.specs.Indexed.{IsIndexed}
pub use Rattle.beam_state.specs.MonitorKeys.{AreKeyed, AreMonitorsKeyed, IsKeyed, MonitorNoMore, TellAll, down_of, has_key, is_key_of, is_live_key, is_monitored_by, is_told, monitor_key, monitored_in, monitors_under, names_number, receiver_in, reference_in}
unfoldable pub use Rattle.beam_state.specs.MonitorKeys.{AreMonitorsKeyedIf}
pub use Rattle.beam_state.specs.Parts.{AnswersByProcesses, Parts, node, parts, then_at, with_processes}
pub use Rattle.beam_state.specs.Posting.{AreLawful, CanReplace, notices_of}
pub use Rattle.beam_state.specs.Returns.{IsNext, Returns, ReturnsCounting, Sends, does_send, is_make_ref, posted_if, with_monitor}
