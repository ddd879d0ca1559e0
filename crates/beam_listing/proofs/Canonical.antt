-- The listing that a text has is one that a file spells: the operand of each line is 0.
use Rattle.std.proofs.Common.{◌≡◌, ℕ, zero, suc, Bool, true, false, List, [], ◌∷◌, ◌++◌, length, Some, Ok, Err, refl, ap, ◌∙◌, subst, Option, None, Result, map, if◌then◌else◌, ◌==◌}
use Rattle.std.proofs.lemmas.List.{map-append}
use Rattle.beam_model.specs.declared.function.Signature.{Signature}
use Rattle.beam_model.specs.declared.instruction.Instruction.{Instruction}
use Rattle.beam_model.specs.declared.item.Item.{Item}
use Rattle.beam_model.specs.Prelude.{without_line_number, without_line_numbers, Listing, uncommented, item_of, module_of, exports_of, attributes_of, labels_of, ListingFault, syntax, unknown, listing_form_at, meant, next_form, ListingBody, with_item, body_by, body_from, no_body, export_by, listing_at, with_line, listing_of_forms, listing_of_text, after_blanks}
use Rattle.beam_model.specs.declared.item.Item.TheVariants as item
use Rattle.beam_model.specs.Reading.{◌>>=◌}
use Rattle.beam_listing.proofs.Spelled.{IsItem, MayBeItem, item_is}

-- a statement of the value that was read, if there is one
abbrev Holds : {A : Type 0} → (A → Type 0) → Result A ListingFault → Type 0
Holds P (Ok x) = P x
Holds P (Err e) = Unit {0}

bound : {A B : Type 0} (P : B → Type 0) (r : Result A ListingFault) (f : A → Result B ListingFault) → ((x : A) → Holds P (f x)) → Holds P (r >>= f)
bound P (Ok x) f each = each x
bound P (Err e) f each = tt

bound_by : {A B : Type 0} (Q : A → Type 0) (P : B → Type 0) (r : Result A ListingFault) (f : A → Result B ListingFault) → Holds Q r → ((x : A) → Q x → Holds P (f x)) → Holds P (r >>= f)
bound_by Q P (Ok x) f is each = each x is
bound_by Q P (Err e) f is each = tt

-- ---- forms

abbrev IsNext : Item × List ℕ → Type 0
IsNext x = IsItem x.0

meant_is : (text form rest : List ℕ) (o : Option Item) → MayBeItem o → Holds IsNext (meant text form o >>= λ x. Ok (x, rest))
meant_is text form rest None is = tt
meant_is text form rest (Some x) is = is

next_is : (text : List ℕ) → Holds IsNext (next_form item_of text)
unfolding next_form
next_is [] = tt
next_is (c ∷ cs) =
    bound IsNext (listing_form_at (c ∷ cs)) (λ form. meant (c ∷ cs) form.0 (item_of form.0) >>= λ x. Ok (x, form.1)) (λ form. meant_is (c ∷ cs) form.0 form.1 (item_of form.0) (item_is form.0))

-- ---- bodies

abbrev IsBody : ListingBody → Type 0
IsBody body = map without_line_number body.instructions ≡ body.instructions

one_more : (is : List Instruction) (i : Instruction) → map without_line_number is ≡ is → without_line_number i ≡ i → map without_line_number (is ++ i ∷ []) ≡ is ++ i ∷ []
one_more is i all one = map-append without_line_number is (i ∷ []) ∙ (λ k. all k ++ one k ∷ [])

placed : (b : Bool) (left : ℕ) (body : ListingBody) → IsBody body → Holds IsBody (if b then Err (unknown left) else Ok body)
placed true left body is = tt
placed false left body is = is

with_item_is : (left : ℕ) (body : ListingBody) (x : Item) → IsBody body → IsItem x → Holds IsBody (with_item left body x)
with_item_is left body (item.Function f) is one = is
with_item_is left body (item.Instruction i) is one =
    placed (length body.functions == 0) left (record { functions = body.functions; instructions = body.instructions ++ i ∷ [] }) (one_more body.instructions i is one)
with_item_is left body item.Remark is one = is

ended : (b : Bool) (body : ListingBody) (r : Result ListingBody ListingFault) → IsBody body → Holds IsBody r → Holds IsBody (if b then Ok body else r)
ended true body r is others = is
ended false body r is others = others

body_is : (n : ℕ) (body : ListingBody) (text : List ℕ) → IsBody body → Holds IsBody (body_from n body text)
unfolding body_from
body_is zero body text is = ended (length text == 0) body (Err (syntax (length text))) is tt
body_is (suc n) body text is =
    ended (length text == 0) body (body_by (body_from n) body text) is
    (bound_by IsNext IsBody (next_form item_of text) (λ x. with_item (length text) body x.0 >>= λ next. body_from n next x.1) (next_is text) (λ x one.
    bound_by IsBody IsBody (with_item (length text) body x.0) (λ next. body_from n next x.1) (with_item_is (length text) body x.0 is one) (λ next whole. body_is n next x.1 whole)))

-- ---- listings

abbrev IsCanonical : Listing → Type 0
IsCanonical l = without_line_numbers l ≡ l

abbrev listing_of : List ℕ → List Signature → ℕ → ListingBody → Listing
listing_of name exports labels body = record { name = name; exports = map (export_by body.functions) exports; label_count = labels; function_count = length body.functions; instructions = body.instructions }

abbrev with_code : Listing → List Instruction → Listing
with_code l is = record l { instructions = is }

listing_is : (text : List ℕ) → Holds IsCanonical (listing_at text)
unfolding listing_at
listing_is text =
    bound IsCanonical (next_form module_of text) _ (λ name.
    bound IsCanonical (next_form exports_of name.1) _ (λ exports.
    bound IsCanonical (next_form attributes_of exports.1) _ (λ attributes.
    bound IsCanonical (next_form labels_of attributes.1) _ (λ labels.
    bound_by IsBody IsCanonical (body_from (length labels.1) no_body labels.1) (λ body. Ok (listing_of name.0 exports.0 labels.0 body)) (body_is (length labels.1) no_body labels.1 refl)
    (λ body is. ap (with_code (listing_of name.0 exports.0 labels.0 body)) is)))))

with_line_is : (text : List ℕ) (r : Result Listing ListingFault) → Holds IsCanonical r → Holds IsCanonical (with_line text r)
with_line_is text (Ok l) is = is
with_line_is text (Err e) is = tt

forms_are : (text : List ℕ) → Holds IsCanonical (listing_of_forms text)
unfolding listing_of_forms
forms_are text = with_line_is text (listing_at (after_blanks text)) (listing_is (after_blanks text))

pub text_canonical : (text : List ℕ) (l : Listing) → listing_of_text text ≡ Ok l → without_line_numbers l ≡ l
text_canonical text l e = subst (λ (r : Result Listing ListingFault). Holds IsCanonical r) e (forms_are (uncommented text))
