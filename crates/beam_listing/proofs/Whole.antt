-- The whole text of a listing is read, by what its instructions' forms add to a body.
use Rattle.std.proofs.Common.{◌≡◌, ℕ, ◌^◌, ◌<◌, List, [], ◌∷◌, ◌++◌, length, Ok, refl, ap, ◌∙◌, append_assoc, arith, codes, map}
use Rattle.std.specs.Fmt.{decimal}
use Rattle.beam_model.specs.declared.item.Item.{Item}
use Rattle.beam_model.specs.Prelude.{Listing, atom_text, tagged, heads_text, listing_text, module_of, exports_of, attributes_of, labels_of, ListingBody, no_body, body_from, export_by, listing_at, with_line, listing_of_forms, listing_of_text}
use Rattle.beam_term.specs.Prelude.{IsAtomText}
use Rattle.beam_listing.proofs.Elements.{AreParts}
use Rattle.beam_listing.proofs.HeadForms.{AreExports, signatures_by, next_again, exports_form, module_part, module_again, exports_part, exports_again, attributes_part, attributes_again, labels_part, labels_again}
use Rattle.beam_listing.proofs.Bodies.{forms_text, forms_plain, forms_uncommented, AreItems, item_parts, Adds, body_again}
use Rattle.beam_listing.proofs.Printed.{instruction_forms, instructions_are}

abbrev pub labels_forms : Listing → List (List ℕ)
labels_forms l = tagged (codes "labels") (decimal l.label_count) ∷ instruction_forms l.instructions

abbrev pub listing_forms : Listing → List (List ℕ)
listing_forms l = tagged (codes "module") (atom_text l.name) ∷ exports_form l.exports ∷ codes "{attributes,[]}" ∷ labels_forms l

lines : (m e a l i : List ℕ) → m ++ 46 ∷ 10 ∷ [] ++ (e ++ 46 ∷ 10 ∷ []) ++ (a ++ 46 ∷ 10 ∷ [] ++ l ++ 46 ∷ 10 ∷ []) ++ i ≡ m ++ (46 ∷ 10 ∷ (e ++ (46 ∷ 10 ∷ (a ++ (46 ∷ 10 ∷ (l ++ (46 ∷ 10 ∷ i)))))))
lines m e a l i =
    let s : List ℕ = 46 ∷ 10 ∷ [] in
    let q : List ℕ = a ++ s ++ l ++ s in
    append_assoc (m ++ s ++ (e ++ s)) q i ∙ append_assoc (m ++ s) (e ++ s) (q ++ i) ∙ append_assoc m s (e ++ s ++ (q ++ i))
    ∙ ap (λ (t : List ℕ). m ++ (46 ∷ 10 ∷ t)) (append_assoc e s (q ++ i)
    ∙ ap (λ (t : List ℕ). e ++ (46 ∷ 10 ∷ t)) (append_assoc (a ++ s ++ l) s i ∙ append_assoc (a ++ s) l (46 ∷ 10 ∷ i) ∙ append_assoc a s (l ++ (46 ∷ 10 ∷ i))))

pub listing_is : (l : Listing) → listing_text l ≡ forms_text (listing_forms l)
unfolding listing_text
listing_is l =
    ap (λ (t : List ℕ). heads_text l ++ t) (instructions_are l.instructions)
    ∙ lines (tagged (codes "module") (atom_text l.name)) (exports_form l.exports) (codes "{attributes,[]}") (tagged (codes "labels") (decimal l.label_count)) (forms_text (instruction_forms l.instructions))

-- the conditions on the heads, and the items of the forms after them
pub record IsReadListing (l : Listing) (xs : List Item) (body : ListingBody) : Type 0 where
  pub name : IsAtomText l.name
  pub exports : AreExports l.exports
  pub count : l.label_count < 2 ^ 32
  pub items : AreItems (instruction_forms l.instructions) xs
  pub adds : Adds no_body xs body

abbrev pub listing_by : Listing → ListingBody → Listing
listing_by l body = record { name = l.name; exports = map (export_by body.functions) (signatures_by l.exports); label_count = l.label_count; function_count = length body.functions; instructions = body.instructions }

listing_read : (l : Listing) (xs : List Item) (body : ListingBody) → IsReadListing l xs body → listing_at (forms_text (listing_forms l)) ≡ Ok (listing_by l body)
unfolding listing_at
listing_read l xs body is =
    let others : AreParts (instruction_forms l.instructions) = item_parts (instruction_forms l.instructions) xs is.items in
    let labels : AreParts (labels_forms l) = (labels_part l.label_count is.count, others) in
    let attributes : AreParts (codes "{attributes,[]}" ∷ labels_forms l) = (attributes_part, labels) in
    let text : List ℕ = forms_text (instruction_forms l.instructions) in
    let first = next_again module_of (tagged (codes "module") (atom_text l.name)) (forms_text (exports_form l.exports ∷ codes "{attributes,[]}" ∷ labels_forms l)) l.name
    (module_part l.name) (forms_plain (exports_form l.exports ∷ codes "{attributes,[]}" ∷ labels_forms l) (exports_part l.exports is.exports, attributes)) (module_again l.name is.name) in
    let second = next_again exports_of (exports_form l.exports) (forms_text (codes "{attributes,[]}" ∷ labels_forms l)) (signatures_by l.exports)
    (exports_part l.exports is.exports) (forms_plain (codes "{attributes,[]}" ∷ labels_forms l) attributes) (exports_again l.exports is.exports) in
    let third = next_again attributes_of (codes "{attributes,[]}") (forms_text (labels_forms l)) (91 ∷ 93 ∷ []) attributes_part (forms_plain (labels_forms l) labels) attributes_again in
    let fourth = next_again labels_of (tagged (codes "labels") (decimal l.label_count)) text l.label_count
    (labels_part l.label_count is.count) (forms_plain (instruction_forms l.instructions) others) (labels_again l.label_count is.count) in
    let fifth : body_from (length text) no_body text ≡ Ok body = body_again (length text) no_body body (instruction_forms l.instructions) xs is.items is.adds (omega arith) in
    rw (first, second, third, fourth, fifth) refl

pub listing_again : (l : Listing) (xs : List Item) (body : ListingBody) → IsReadListing l xs body → listing_of_text (listing_text l) ≡ Ok (listing_by l body)
unfolding listing_of_forms
listing_again l xs body is =
    let others : AreParts (instruction_forms l.instructions) = item_parts (instruction_forms l.instructions) xs is.items in
    let parts : AreParts (listing_forms l) = (module_part l.name, (exports_part l.exports is.exports, (attributes_part, (labels_part l.label_count is.count, others)))) in
    let text : List ℕ = forms_text (listing_forms l) in
    ap listing_of_text (listing_is l) ∙ ap listing_of_forms (forms_uncommented (listing_forms l) parts)
    ∙ ap (λ (t : List ℕ). with_line text (listing_at t)) (forms_plain (listing_forms l) parts) ∙ ap (with_line text) (listing_read l xs body is)
