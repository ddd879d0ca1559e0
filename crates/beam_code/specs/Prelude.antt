-- The definitions of this crate that specs and proofs above cite, passed on from one place. Declares nothing.
pub use Rattle.beam_code.specs.Ascending.{bound_after, with_label}
unfoldable pub use Rattle.beam_code.specs.Ascending.{ascending_from}
pub use Rattle.beam_code.specs.Bytes.{AreAscending, AreStarts, CodeBytes, Spans, Spelled, byte_after, end_of, read_or_end, start_of}
unfoldable pub use Rattle.beam_code.specs.Bytes.{instructions_in, raw_in, standing_at}
pub use Rattle.beam_code.specs.ChunkLayout.{HasLayout, chunk_with}
pub use Rattle.beam_code.specs.Faults.{Fails, Gives, number_of}
pub use Rattle.beam_code.specs.Operands.{AreRead, IsFront, OperandReader, argument_in, argument_of, index_in, is_argument_next, is_import_next, meant_in, operands_from, read_or_none}
unfoldable pub use Rattle.beam_code.specs.Operands.{argument_at, index_at}
pub use Rattle.beam_code.specs.ReadChunk.{parts_of, tables_of}
pub use Rattle.beam_code.specs.Shared.{IsPut, IsWithin, made_of, put_last}
pub use Rattle.beam_code.specs.Starts.{AreGrouped, start_at}
unfoldable pub use Rattle.beam_code.specs.Starts.{starts_of}
pub use Rattle.beam_code.specs.Whole.{argument_of_byte, argument_of_bytes, import_of_byte, label_of_byte, number_in_three, number_in_two, number_of_byte, numbered_import, register_of_byte, two_or_three, wide_number}
pub use Rattle.beam_code.specs.Writing.{Refuses, with_before}
