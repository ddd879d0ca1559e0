-- Listings as text, read: the listing that a text has, or its first fault (the compiler's .S files).
use Rattle.std.specs.Prelude.{ℕ, zero, suc, Bool, false, List, [], ◌∷◌, ◌++◌, length, take, drop, map, is_some, ◌==◌, ◌&&◌, ◌||◌, Option, Some, None, Result, Ok, Err, codes, if◌then◌else◌}
use Rattle.std.specs.List.{list_all}
use Rattle.beam_model.specs.declared.function.Export.{Export}
use Rattle.beam_model.specs.declared.function.Signature.{Signature}
use Rattle.beam_model.specs.declared.function.Function.{Function}
use Rattle.beam_model.specs.declared.instruction.Instruction.{Instruction}
use Rattle.beam_model.specs.declared.item.Item.{Item}
use Rattle.beam_model.specs.declared.item.Item.TheVariants as item
use Rattle.beam_model.specs.Listing.{Listing}
use Rattle.beam_model.specs.SameText.{same_text}
use Rattle.beam_model.specs.Forms.{uncommented, stop_in, list_parts}
use Rattle.beam_model.specs.ListingForms.{atom_of_text, term_of, headed_of, item_of, module_of, exports_of, attributes_of, labels_of}
use Rattle.beam_model.specs.Reading.{◌>>=◌}
use Rattle.beam_model.specs.TextReading.{after_blanks, line_of}

-- why a text has no listing, and where: how much of the text is left, or the line
pub data ListingFault : Type 0 where
  -- the form isn't terms with a full stop
  syntax : ℕ → ListingFault
  -- the form is terms, but isn't one of a listing, or may not stand there
  unknown : ℕ → ListingFault

-- ---- whether a form that isn't one of a listing is terms

abbrev pub is_term : List ℕ → Bool
is_term text = is_some (term_of text)

abbrev pub has_unparsed_part : List ℕ → Bool
has_unparsed_part name = same_text name (codes "attributes") || same_text name (codes "line") || same_text name (codes "%")

abbrev pub is_raise : Option (List ℕ) → Bool
is_raise None = false
is_raise (Some name) = same_text name (codes "raise")

-- The parts after a name that have to be terms. Whatever stands at `_` is free in
-- `{attributes,_}`, `{line,_}`, `{'%',_}`, `{tr,R,_}` and `{bif,raise,_,[S,S],_}`.
abbrev pub parsed_parts : List ℕ → List (List ℕ) → List (List ℕ)
parsed_parts name (about ∷ []) = if has_unparsed_part name then [] else about ∷ []
parsed_parts name (register ∷ about ∷ []) = if same_text name (codes "tr") then register ∷ [] else register ∷ about ∷ []
parsed_parts name (native ∷ fail ∷ arguments ∷ dest ∷ []) =
    if same_text name (codes "bif") && is_raise (atom_of_text native) then arguments ∷ [] else native ∷ fail ∷ arguments ∷ dest ∷ []
parsed_parts name parts = parts

-- a tuple with a name in front, whose parts are loose
abbrev pub is_partial_tuple : (List ℕ → Bool) → Option (List ℕ × List (List ℕ)) → Bool
is_partial_tuple is_part None = false
is_partial_tuple is_part (Some h) = if same_text h.0 (codes "literal") then list_all is_term h.1 else list_all is_part (parsed_parts h.0 h.1)

abbrev pub is_partial_list : (List ℕ → Bool) → Option (List (List ℕ)) → Bool
is_partial_list is_part None = false
is_partial_list is_part (Some parts) = list_all is_part parts

-- whether a text is that of a term, but for the free parts in its first n levels of brackets
unfoldable pub is_partial_term : ℕ → List ℕ → Bool
is_partial_term zero text = is_term text
is_partial_term (suc n) text = is_term text || (is_partial_tuple (is_partial_term n) (headed_of text) || is_partial_list (is_partial_term n) (list_parts text))

-- the fault of a form that has no value where it stands, at the front of this text; free parts stand at most four brackets deep
abbrev pub fault_of : List ℕ → List ℕ → ListingFault
fault_of text form = if is_partial_term 4 form then unknown (length text) else syntax (length text)

-- ---- forms

-- a form and the text after its full stop
abbrev pub ended_form : List ℕ → List ℕ → List ℕ → Result (List ℕ × List ℕ) ListingFault
ended_form text form [] = Err (syntax (length text))
ended_form text form (c ∷ cs) = if c == 46 then Ok (form, after_blanks cs) else Err (syntax (length text))

abbrev pub form_up_to : List ℕ → Option ℕ → Result (List ℕ × List ℕ) ListingFault
form_up_to text None = Err (syntax (length text))
form_up_to text (Some size) = ended_form text (take size text) (drop size text)

-- the form at the front of a text
unfoldable pub listing_form_at : List ℕ → Result (List ℕ × List ℕ) ListingFault
listing_form_at text = form_up_to text (stop_in 46 text)

-- the value of the form at the front of a text, or its fault
abbrev pub meant : {A : Type 0} → List ℕ → List ℕ → Option A → Result A ListingFault
meant text form None = Err (fault_of text form)
meant text form (Some x) = Ok x

-- the value of the next form; a text that ends before it is no listing
unfoldable pub next_form : {A : Type 0} → (List ℕ → Option A) → List ℕ → Result (A × List ℕ) ListingFault
next_form meaning [] = Err (unknown 0)
next_form meaning (c ∷ cs) = do
  form ← listing_form_at (c ∷ cs)
  x ← meant (c ∷ cs) form.0 (meaning form.0)
  Ok (x, form.1)

-- ---- functions and their instructions

pub record ListingBody : Type 0 where
  pub functions : List Function
  pub instructions : List Instruction

-- a body with one form more; an instruction stands after a function's head
abbrev pub with_item : ℕ → ListingBody → Item → Result ListingBody ListingFault
with_item left body (item.Function f) = Ok (record { functions = body.functions ++ f ∷ []; instructions = body.instructions })
with_item left body (item.Instruction i) =
    if length body.functions == 0 then Err (unknown left) else Ok (record { functions = body.functions; instructions = body.instructions ++ i ∷ [] })
with_item left body item.Remark = Ok body

abbrev pub body_by : (ListingBody → List ℕ → Result ListingBody ListingFault) → ListingBody → List ℕ → Result ListingBody ListingFault
body_by more body text = do
  item ← next_form item_of text
  next ← with_item (length text) body item.0
  more next item.1

-- the body so far with the forms of the text, at most n, the bytes of the text
unfoldable pub body_from : ℕ → ListingBody → List ℕ → Result ListingBody ListingFault
body_from zero body text = if length text == 0 then Ok body else Err (syntax (length text))
body_from (suc n) body text = if length text == 0 then Ok body else body_by (body_from n) body text

abbrev pub no_body : ListingBody
no_body = record { functions = []; instructions = [] }

-- ---- the listing

-- the entry of the first function of a name and arity, 0 if there is none
abbrev pub entry_label_of : List Function → Signature → ℕ
entry_label_of [] s = 0
entry_label_of (f ∷ rest) s = if same_text f.name s.name && f.arity == s.arity then f.entry else entry_label_of rest s

abbrev pub export_by : List Function → Signature → Export
export_by functions s = record { name = s.name; arity = s.arity; label = entry_label_of functions s }

-- the heads in their order, then the functions
unfoldable pub listing_at : List ℕ → Result Listing ListingFault
listing_at text = do
  name ← next_form module_of text
  exports ← next_form exports_of name.1
  attributes ← next_form attributes_of exports.1
  labels ← next_form labels_of attributes.1
  body ← body_from (length labels.1) no_body labels.1
  Ok (record { name = name.0; exports = map (export_by body.functions) exports.0; label_count = labels.0; function_count = length body.functions; instructions = body.instructions })

abbrev pub fault_at_line : List ℕ → ListingFault → ListingFault
fault_at_line text (syntax left) = syntax (line_of text left)
fault_at_line text (unknown left) = unknown (line_of text left)

abbrev pub with_line : List ℕ → Result Listing ListingFault → Result Listing ListingFault
with_line text (Ok l) = Ok l
with_line text (Err fault) = Err (fault_at_line text fault)

unfoldable pub listing_of_forms : List ℕ → Result Listing ListingFault
listing_of_forms text = with_line text (listing_at (after_blanks text))

-- the listing that a text has, or the line where the form with its first fault begins
abbrev pub listing_of_text : List ℕ → Result Listing ListingFault
listing_of_text text = listing_of_forms (uncommented text)
