-- The definitions of this crate that specs and proofs above cite, passed on from one place. Declares nothing.
pub use Rattle.beam_proc.specs.Continuation.{reason_of}
pub use Rattle.beam_proc.specs.Deliveries.{added, arriving, but_of, ending, ends_by, is_down, left_by, message_by, received_all, this_reason, with_delivered, woken}
pub use Rattle.beam_proc.specs.Does.{Does, DoesAtOnce, DoesOrAsks, Makes}
pub use Rattle.beam_proc.specs.Ending.{end_of}
pub use Rattle.beam_proc.specs.Entry.{process_in}
pub use Rattle.beam_proc.specs.Frames.{all_there, cleared_x, cleared_y, has_register, is_ready, puts_two}
pub use Rattle.beam_proc.specs.References.{left_without, number_of_words, reference_number}
pub use Rattle.beam_proc.specs.Undoing.{stepped_back, with_first}
