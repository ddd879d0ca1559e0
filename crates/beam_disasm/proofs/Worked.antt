-- The worked file, computed.
use Rattle.std.proofs.Common.{◌≡◌, Ok, refl}
use lib.Utf8.{encode}
use Rattle.std.specs.Str.{is_utf8, chars}
use Rattle.beam_model.specs.Prelude.{content_at, chunk_at, with_chunk, with_chunks, form_at, table_number_at, entries_at, utf8_text, table_atom_at, atoms_at, atom_of_index, import_at, imports_at, export_at, exports_at, literals_in, required_chunk, tables_at, value_at, natural_at, compact_integer_at, number_at as count_at, register_of_tag, extended_of, single_of_tag, members_at, compact_list_at, operand_of_tag, members_of, meaning_of, spelled_at, meant_at, operands_at, opcode_at, instruction_after_opcode, instructions_at, word_at, expected_at, code_of, parts_of_form, listing_of_parts, listing_of_form, listing_of_file, IsCode, IsFile}
use Rattle.beam_disasm.specs.Worked.{tables, code, code_bytes, file_bytes, listing}
use Rattle.beam_code.proofs.Codes.{code_told}
use Rattle.beam_disasm.proofs.Files.{file_told}

code_computed : code_of tables.atoms tables.imports tables.literals code_bytes ≡ Ok code
unfolding value_at natural_at compact_integer_at count_at register_of_tag extended_of single_of_tag members_at compact_list_at operand_of_tag members_of meaning_of spelled_at meant_at operands_at opcode_at instruction_after_opcode instructions_at word_at expected_at code_of
code_computed = refl

pub code_stands : IsCode tables code code_bytes
code_stands = code_told tables code_bytes code code_computed

file_computed : listing_of_file file_bytes ≡ Ok listing
unfolding is_utf8 chars encode content_at chunk_at with_chunk with_chunks form_at table_number_at entries_at utf8_text table_atom_at atoms_at atom_of_index import_at imports_at export_at exports_at literals_in required_chunk tables_at value_at natural_at compact_integer_at count_at register_of_tag extended_of single_of_tag members_at compact_list_at operand_of_tag members_of meaning_of spelled_at meant_at operands_at opcode_at instruction_after_opcode instructions_at word_at expected_at code_of parts_of_form listing_of_parts listing_of_form listing_of_file
file_computed = refl

pub file_stands : IsFile file_bytes listing
file_stands = file_told file_bytes listing file_computed
