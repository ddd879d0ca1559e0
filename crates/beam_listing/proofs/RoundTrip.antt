-- A printed listing is read as itself.
use Rattle.std.proofs.Common.{◌≡◌, ℕ, true, List, [], ◌∷◌, length, Some, Ok, refl, sym, ap, ◌∙◌, Option, None, Result, map, unwrap_or, ◌==◌, eqb-true}
use Rattle.std.specs.List.{list_all}
use Rattle.std.proofs.lemmas.Bool.{and_parts}
use Rattle.beam_model.specs.declared.function.Export.{Export}
use Rattle.beam_model.specs.declared.function.Function.{Function}
use Rattle.beam_model.specs.declared.instruction.Instruction.{Instruction}
use Rattle.beam_model.specs.Prelude.{without_line_number, without_line_numbers, Listing, listing_text, ListingFault, export_by, listing_of_text, start, functions_from, functions_of, signature_of, are_signatures_new, are_functions_lawful, exported_signature, is_entry_of}
use Rattle.beam_listing.specs.Prelude.{IsListing, HasListingText}
use Rattle.beam_listing.proofs.HeadForms.{signatures_by}
use Rattle.beam_listing.proofs.Items.{items_of, are_items}
use Rattle.beam_listing.proofs.Added.{functions_in, Begins, body_of, adds_body}
use Rattle.beam_listing.proofs.Whole.{IsReadListing, listing_again}
use Rattle.beam_listing.proofs.Exports.{labels_again}
use Rattle.beam_listing.proofs.FunctionHeads.{functions_are, begins}
use Rattle.beam_listing.proofs.Lawful.{AreLawful, lawful, numbered, are_instructions, are_exports}

-- the functions of lawful heads
record HasFunctions (n : ℕ) (o : Option (List Function)) : Type 0 where
  functions : List Function
  found : o ≡ Some functions
  count : length functions ≡ n
  new : are_signatures_new [] (map signature_of functions) ≡ true

has_functions : (n : ℕ) (o : Option (List Function)) → are_functions_lawful n o ≡ true → HasFunctions n o
has_functions n (Some fs) e =
    let s = and_parts (length fs == n) (are_signatures_new [] (map signature_of fs)) e in
    record { functions = fs; found = refl; count = eqb-true (length fs) n s.0; new = s.1 }
has_functions n None e = absurd cc

begin : (name : List ℕ) (is : List Instruction) (fs : List Function) → functions_from name start is ≡ Some fs → Begins is
begin name [] fs e = tt
begin name (i ∷ rest) fs e = begins name i rest fs e

-- the listing that is read is the printed one, without the operands of its lines
same_listing : (l : Listing) (exports : List Export) (count : ℕ) → exports ≡ l.exports → count ≡ l.function_count
    → record { name = l.name; exports = exports; label_count = l.label_count; function_count = count; instructions = map without_line_number l.instructions } ≡ without_line_numbers l
same_listing l exports count first second = λ k. record { name = l.name; exports = first k; label_count = l.label_count; function_count = second k; instructions = map without_line_number l.instructions }

abbrev done : Listing → Result Listing ListingFault
done l = Ok l

pub printed_again : (l : Listing) → IsListing l → HasListingText l → listing_of_text (listing_text l) ≡ Ok (without_line_numbers l)
printed_again l is has =
    let heads = has_functions l.function_count (functions_of l) has.heads in
    let entries = and_parts (list_all (is_entry_of (unwrap_or (functions_of l) [])) l.exports) (are_signatures_new [] (map exported_signature l.exports)) has.exports in
    let lawful_exports : list_all (is_entry_of heads.functions) l.exports ≡ true =
    sym (ap (λ (o : Option (List Function)). list_all (is_entry_of (unwrap_or o [])) l.exports) heads.found) ∙ entries.0 in
    let fs : List Function = functions_in l.instructions in
    let are : AreLawful l.instructions = lawful l.name start l.instructions heads.functions heads.found has.built_ins has.kinds is.instructions has.terms in
    let same : heads.functions ≡ fs = functions_are l.name start l.instructions heads.functions (numbered l.instructions are) heads.found in
    let exports : map (export_by fs) (signatures_by l.exports) ≡ l.exports =
    ap (λ (gs : List Function). map (export_by gs) (signatures_by l.exports)) (sym same) ∙ labels_again heads.functions l.exports heads.new lawful_exports in
    let count : length fs ≡ l.function_count = ap length (sym same) ∙ heads.count in
    let read : IsReadListing l (items_of l.instructions) (body_of l.instructions) = record {
      name = is.name;
      exports = are_exports l.exports is.exports;
      count = is.label_count;
      items = are_items l.instructions (are_instructions l.instructions are);
      adds = adds_body l.instructions (begin l.name l.instructions heads.functions heads.found);
    } in
    listing_again l (items_of l.instructions) (body_of l.instructions) read ∙ ap done (same_listing l (map (export_by fs) (signatures_by l.exports)) (length fs) exports count)
