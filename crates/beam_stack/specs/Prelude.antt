-- The definitions of this crate that specs and proofs above cite, passed on from one place. Declares nothing.
pub use Rattle.beam_stack.specs.Frames.{back_of, count_in, drops, first_tag, from_tag, head_of, is_bare, newest_back, newest_y, older_than, slot_at, this_or, with_slot, y_count}
pub use Rattle.beam_stack.specs.Plain.{is_plain}
pub use Rattle.beam_stack.specs.Word.{Word, word_in}
pub use Rattle.beam_stack.specs.Words.{IsStack, are_linked, below_in, frames_of, grown, grown_by, head_in, is_linked, is_word_in, marked, needs_no_drop, slot_in, slots_with, tag_of_word, with_one, word_of}
