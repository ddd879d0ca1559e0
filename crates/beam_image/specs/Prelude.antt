-- The definitions of this crate that specs and proofs above cite, passed on from one place. Declares nothing.
pub use Rattle.beam_image.specs.EntryRows.{NamedRows, Table, row_by_name, row_in, with_row}
unfoldable pub use Rattle.beam_image.specs.EntryRows.{entries_of}
pub use Rattle.beam_image.specs.InstructionRecord.{AreRecords, Knows, Makes, choices_of, elements_of, fault_of, general, list_numbered, record_step, registers_of, sizes_of}
pub use Rattle.beam_image.specs.FileForm.{Spells, with_code, without_code}
pub use Rattle.beam_image.specs.Linked.{AreWithin, row_after, row_after_position, step_in}
pub use Rattle.beam_image.specs.ListOperands.{AreBelow, AreLists, last_list, list_of_instruction, operand_list_at, operand_list_below}
pub use Rattle.beam_image.specs.ModuleFile.{ModuleFile}
pub use Rattle.beam_image.specs.Reading.{AreShaped, Reading}
pub use Rattle.beam_image.specs.Shapes.{Finds}
