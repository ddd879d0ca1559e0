-- The definitions of this crate that specs and proofs above cite, passed on from one place. Declares nothing.
pub use Rattle.beam_model.specs.Assembly.{HasFile, Numbering, are_few_atoms, are_short_atoms, atom_index, both, compact_before, file_of, greatest_opcode, import_index, literal_index, noted, numbering_of, same_import, tables_with, with_argument, with_instruction, with_operand, with_term, without_line_number, without_line_numbers, word}
unfoldable pub use Rattle.beam_model.specs.Assembly.{code_bytes, compact_argument, compact_arguments, compact_of, compact_term, file_with, instruction_bytes, instructions_bytes, operand_bytes, operands_bytes, words_bytes}
pub use Rattle.beam_model.specs.ChunkForm.{AreChunks, IsChunk, IsForm, IsPadding, contents_of}
pub use Rattle.beam_model.specs.CodeChunk.{CodeFault, CodeParts, argument_of, argument_of_atom, argument_of_member, argument_of_source, bad_operand, import_of_index, in_front, listed_operands, opcode_in, or_bad_operand, or_unsupported_opcode, position_after, unsupported_opcode}
unfoldable pub use Rattle.beam_model.specs.CodeChunk.{code_of, expected_at, instruction_after_opcode, instructions_at, meaning_of, meant_at, members_of, opcode_at, operands_at, spelled_at, word_at}
pub use Rattle.beam_model.specs.CodeForm.{AreOperands, IsCode, IsInstruction, IsOperand}
pub use Rattle.beam_model.specs.Compact.{HasNumbers, HasOperandNumbers, HasSmall, HasSmallIntegers, HaveNumbers, OperandFault, SpellsOperand, as_operand, atom_or_nil, bad_sign, compact_tag, eleven_bits_at, is_one, is_small, magnitude, natural, operand_at, register_at, single_at, tag_number, unsupported_operand, wide_at, wide_length, wide_of}
unfoldable pub use Rattle.beam_model.specs.Compact.{compact_integer_at, compact_list_at, extended_of, field, members_at, members_spelling, natural_at, number_at, operand_of_tag, register_of_tag, single_of_tag, single_spelling, spelling, value_at}
pub use Rattle.beam_model.specs.CompactForm.{AreMembers, IsElevenBits, IsField, IsFourBits, IsListed, IsLiteralOperand, IsRegister, IsSingle, IsSpelling, IsTaggedNumber, IsTyped, IsValue, IsWide}
pub use Rattle.beam_model.specs.Exception.{around, caught, class_of, class_term, clause_exception, exit_reason, trace_of, value_of}
pub use Rattle.beam_model.specs.External.{AreWords, IsExternal, IsHalf, IsSigned, SpellsAll, SpellsAtom, SpellsList, SpellsTerm, all_written, atom_utf8_ext, byte_count, byte_of, bytes_of_list, empty_list_ext, external_bytes, head_before, integer_ext, is_byte, is_byte_list, large_tuple_ext, list_ext, little, minus_sign, new_pid_ext, newer_reference_ext, nil_ext, no_elements, no_words, one_element, one_word, only_tail, pair_count, plus_sign, sign_of, small_atom_utf8_ext, small_big_ext, small_integer_ext, small_tuple_ext, string_ext, utf8_atom, written_big, written_part}
unfoldable pub use Rattle.beam_model.specs.External.{tuple_front, written_atom, written_integer, written_list, written_pid, written_reference}
pub use Rattle.beam_model.specs.ExternalFault.{AtomFault, ExternalFault, HasExternalFault, HasFault, IsUnknown, ItemsFault, ListFault, NodeFault, TextFault, after_version, atom_fault, bad_tag, bad_utf8, byte_of_integer, count_cut, count_of_big, count_of_large_tuple, count_of_list, count_of_reference, count_of_small_tuple, count_of_string, digits_cut, field_cut, in_tail, integer_large, is_left_out, large_tuple_deep, large_tuple_fault, later_element, later_item, list_deep, list_fault, long_text, no_depth_left, node_atom, node_fault, node_left_out, node_missing, node_no_atom, out_of_profile, pid_cut, reference_cut, reference_left_out, reference_node, sign_bad, sign_of_big, small_count_cut, small_text, small_tuple_deep, small_tuple_fault, string_cut, string_deep, tag_left_out, tag_missing, tag_unknown, text_bad, text_cut, text_long, this_element, this_item, too_deep, version_bad, version_missing, word_of_integer}
unfoldable pub use Rattle.beam_model.specs.ExternalForm.{form_of}
pub use Rattle.beam_model.specs.ExternalReading.{Inner, empty_list, greatest, signed, text_list}
unfoldable pub use Rattle.beam_model.specs.ExternalReading.{after_empty_lists, atom_of_form, below, big_at, big_endian_at, byte_at, bytes_at, external_at, external_atom_at, external_list_at, external_string_at, external_tuple_at, items_at, leaf_at, long_atom_at, pair_at, pid_at, read_at, reference_at, small_atom_at, term_of_form, text_at, whole_at, words_at}
pub use Rattle.beam_model.specs.Fetch.{end_of_code, instruction_at}
pub use Rattle.beam_model.specs.File.{FileFault, Parts, code_fault, form_fault, in_layer, table_fault}
unfoldable pub use Rattle.beam_model.specs.File.{listing_of_file, listing_of_form, listing_of_parts, parts_of_form}
pub use Rattle.beam_model.specs.FileForm.{IsFile}
pub use Rattle.beam_model.specs.Form.{Chunk, Form, FormFault, agree, compressed_file, duplicate_chunk, empty_form, form_body, form_bytes, form_end, not_form, once, padded, size_at}
unfoldable pub use Rattle.beam_model.specs.Form.{chunk_at, content_at, form_at, with_chunk, with_chunks}
pub use Rattle.beam_model.specs.FormLaws.{after_chunk, chunk_takes, cut_short, is_done, read_again}
pub use Rattle.beam_model.specs.Forms.{alone, closed, element_by, elements_after, inside_after, is_closing, is_comment, is_stop, list_parts, open_after, stop_in, tuple_parts, uncommented}
unfoldable pub use Rattle.beam_model.specs.Forms.{bracketed_elements, elements_from, elements_within, stop_from, uncommented_from}
pub use Rattle.beam_model.specs.Framed.{AreFramed, Assignment, FrameEffect, IsFramed, Shape, after_effect, allocates, any, are_choices, bare, begins_bare, built_in, called, calls_exit, calls_exit_by, drops, entries, entry_by, finds, first_in, first_tag, fits, fits_at, fits_if, frame_effect, frame_effect_by, in_list, is_bare, is_choice, is_jump, is_read, is_register, is_size, is_there, is_total, is_value, is_value_in, is_written, jumps, keeps, label_in, label_of_argument, labels_in, leads, leads_on, may_fail, may_fall_through, may_have, may_raise, named_by, never_jumps, never_returns, number, put_all, put_ys, read_ys, row_at, same_shape, shape_after, shape_of_label, sized, tag, tags_a_y, targets, trims, wants_bare, written_ys, y_in, ys_in}
pub use Rattle.beam_model.specs.Heads.{AreFunctions, CanLoad, IsFunction, IsInBody, IsLine, IsWellFormed, func_info, label}
pub use Rattle.beam_model.specs.Listing.{Listing, entry_at, export_of, gap_before_row, is_export, is_row, is_row_by, is_this_number, label_by, label_of, next_at, next_row, row_of_label}
pub use Rattle.beam_model.specs.ListingForms.{as_import, as_list, as_one, headed_by, import_of_parts, instruction_of_parts, is_bif0_shape, is_bif_shape, is_gc_bif_shape, is_plain_shape, is_raise_call, is_raise_shape, is_register_name, is_test_shape, label_argument, line_instruction, number_member, only, signature_of_parts, source_of_parts, whole_of, word_of}
unfoldable pub use Rattle.beam_model.specs.ListingForms.{atom_argument, atom_of_text, attributes_of, bare_item, bif0_of, bif_by, bif_of, counted, exports_of, function_of_parts, gc_bif_of, headed_of, import_of_text, instruction_by, integer_of_text, item_by, item_of, label_of_text, labels_of, member_of_parts, member_of_text, members_from, members_of_text, module_of, native_of, nil_source, number_of_text, operand_of_text, operands_from, part_of, plain_of, plain_register, raise_by, raise_of_text, register_of_parts, register_of_text, signature_of_text, signatures_from, source_of_text, term_of, term_of_part, term_source, test_of, typed_register}
pub use Rattle.beam_model.specs.ListingReading.{ListingBody, ListingFault, body_by, ended_form, entry_label_of, export_by, form_up_to, is_partial_list, is_partial_tuple, is_term, listing_of_text, meant, no_body, syntax, unknown, with_item, with_line}
unfoldable pub use Rattle.beam_model.specs.ListingReading.{body_from, is_partial_term, listing_at, listing_form_at, listing_of_forms, next_form}
pub use Rattle.beam_model.specs.ListingShapes.{shape_of}
pub use Rattle.beam_model.specs.ListingText.{after_leading_lines, argument_text, arguments_text, before_text, bif0_text, bif_text, call_text, export_text, exports_line, exports_text, front_label_or_zero, function_line_at, gc_bif_text, heads_text, import_text, informed_text, instruction_text, instructions_text, is_func_info, is_line, labels_lines, line_text, list_text, module_line, named_text, operand_text, operands_text, plain_text, raise_text, shape_text, stop, tagged, term_text, test_text}
unfoldable pub use Rattle.beam_model.specs.ListingText.{listing_text}
pub use Rattle.beam_model.specs.Loadable.{Stage, after_body_label, after_first_label, all_operands, are_exports_lawful, are_functions_lawful, are_heads_lawful, are_labels_lawful, are_limits_met, are_natives_known, are_new, are_signatures_new, are_targets, atom_in, body, body_label, defined_labels, exported, exported_signature, first_label, function_at, functions_from, functions_of, informed, informed_by, informed_from, is_among, is_argument_defined, is_arity, is_atom_operand, is_defined, is_defined_in, is_entry, is_entry_of, is_frame_size, is_import_operand, is_known, is_label_operand, is_list_operand, is_native, is_none_label, is_number_operand, is_register_operand, is_source_operand, is_within, next_stage, number_in, same_signature, signature_of, start, with_label, within_body}
pub use Rattle.beam_model.specs.Loads.{IsLoadable}
pub use Rattle.beam_model.specs.Mailbox.{Mailbox, empty_mailbox, message_at, with_flushed, with_message, with_next, with_removed, with_reset, without_first}
pub use Rattle.beam_model.specs.Native.{binary_value, class_in, compares, element_of, elements_in, has_lawful_size, is_equal, is_exit, is_of_type, limited, limited_term, list_of_tuple, native_value, nullary_value, or_badarg, put_before, set_element_of, truth, tuple_size_of, unary_value}
pub use Rattle.beam_model.specs.NativeNames.{allowed, binary_names, is_built_in, is_erlang, look_up, native_named, node_native_named, nullary_names, process_native_named, unary_names}
unfoldable pub use Rattle.beam_model.specs.NativeNames.{built_in_of}
pub use Rattle.beam_model.specs.Opcodes.{kinds_of, name_of, number_of, opcode_named, opcode_of, opcodes}
pub use Rattle.beam_model.specs.Place.{Place, is_same_place}
pub use Rattle.beam_model.specs.SameText.{same_text}
pub use Rattle.beam_model.specs.Sequence.{InSequence}
pub use Rattle.beam_model.specs.Tables.{TableChunks, TableFault, Tables, bad_literal, bad_table, compressed_literals, form_with, found, literal_alone, missing_chunk}
unfoldable pub use Rattle.beam_model.specs.Tables.{atom_bytes, atom_of_index, atoms_at, entries_at, entries_bytes, export_at, export_bytes, exports_at, import_at, import_bytes, imports_at, literal_at, literal_bytes, literal_of, literals_at, literals_in, number_bytes, required_chunk, sized_at, table_atom_at, table_bytes, table_number_at, tables_at, tables_bytes, utf8_text}
pub use Rattle.beam_model.specs.TablesForm.{AreAtoms, AreLiterals, AreTables, IsAtom, IsAtomIndex, IsExport, IsImport, IsLiteral, IsTable}
pub use Rattle.beam_model.specs.TablesLaws.{IsReadBack, length-entries, tables_again}
pub use Rattle.beam_model.specs.Text.{AllHaveText, HasText, atom_text, escaped, is_digit, is_lower, is_name, is_unquoted, items_text, tail_text, text_of, word_text}
unfoldable pub use Rattle.beam_model.specs.Text.{is_reserved}
pub use Rattle.beam_model.specs.TextGrammar.{AreFurther, AreItems, Barred, Front, IsString, IsTail, IsText, IsTextOf, Mark, Then}
pub use Rattle.beam_model.specs.TextReading.{Reading, at_line, checked_atom, closed_by, escape_of, fault_at, is_atom_text, is_blank, items_after, line_of, list_by, list_of_characters, name_len, or_fault, pairs_by, quoted_at, string_within, tail_by, term_by, term_of_text, tuple_by, unquoted_atom_at, whole, with_front}
unfoldable pub use Rattle.beam_model.specs.TextReading.{after_blanks, atom_at, code_point_at, digits_after, digits_at, escape_at, hexadecimal_after, hexadecimal_at, integer_at, items_by, pairs_at, quoted_within, read_text, string_at, term_at, tuple_at}
