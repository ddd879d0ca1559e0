-- A form's value by reading is its value by the definition.
use Rattle.std.proofs.Common.{◌≡◌, Some, refl, codes}
use Rattle.std.specs.Str.{is_utf8, chars}
use Rattle.beam_model.specs.Prelude.{is_reserved, after_blanks, digits_after, digits_at, integer_at, atom_at, stop_from, elements_from, elements_within, bracketed_elements, integer_of_text, atom_of_text, number_of_text, headed_of, plain_register, register_of_parts, register_of_text, term_of_part, term_source, source_of_text, operand_of_text, operands_from, plain_of, instruction_by, item_by, item_of}
use Rattle.beam_listing.specs.Prelude.{IsItemForm, moves_ok}
use Rattle.beam_listing.proofs.ItemMeans.{item_means}

move_read : item_of (codes "{move,{atom,ok},{x,0}}") ≡ Some moves_ok
unfolding is_reserved chars is_utf8 lib.Utf8.encode after_blanks digits_after digits_at integer_at atom_at stop_from elements_from elements_within bracketed_elements integer_of_text atom_of_text number_of_text headed_of plain_register register_of_parts register_of_text term_of_part term_source source_of_text operand_of_text operands_from plain_of instruction_by item_by item_of
move_read = refl

pub move_form : IsItemForm moves_ok (codes "{move,{atom,ok},{x,0}}")
move_form = item_means.told (codes "{move,{atom,ok},{x,0}}") moves_ok move_read
