-- Printed forms are found again, and the heads of a listing are read again.
use Rattle.std.proofs.Common.{◌≡◌, ℕ, ◌+◌, ◌^◌, ◌<◌, inr, List, [], ◌∷◌, ◌++◌, length, Some, Ok, refl, sym, ap, ◌∙◌, subst, append_assoc, append-nil, arith, Option, codes}
use Rattle.std.specs.Fmt.{decimal}
use Rattle.std.specs.Str.{is_utf8, chars}
use Rattle.std.proofs.Math.Seq.{take-append_seam, drop-append_seam}
use Rattle.beam_term.specs.Prelude.{IsAtomText}
use Rattle.beam_model.specs.declared.lex_state.LexState.TheVariants as inside
use Rattle.beam_model.specs.declared.function.Export.{Export}
use Rattle.beam_model.specs.declared.function.Signature.{Signature}
use Rattle.beam_model.specs.Prelude.{is_reserved, atom_text, after_blanks, stop_from, stop_in, tuple_parts, tagged, export_text, exports_text, part_of, module_of, signature_of_text, signatures_from, exports_of, attributes_of, labels_of, listing_form_at, next_form}
use Rattle.beam_listing.specs.Prelude.{IsExport}
use Rattle.beam_listing.proofs.Traces.{square, brace, stop_behind}
use Rattle.beam_listing.proofs.Elements.{IsPart, AreParts, closed, parts_again}
use Rattle.beam_listing.proofs.Operands.{IsWord, word, word_part, number_whole, number_part, atom_whole, atom_part, tagged_part, tagged_headed}
use Rattle.beam_listing.proofs.Members.{list_part, tuple_part, two}
use Rattle.beam_listing.proofs.Written.{list_texts, texts_part, texts_parts}

-- ---- forms

at_stop : (n : ℕ) (rest : List ℕ) → stop_from 46 inside.Nothing [] n (46 ∷ 10 ∷ rest) ≡ Some n
unfolding stop_from
at_stop n rest = refl

stops_there : (text rest : List ℕ) → IsPart text → stop_in 46 (text ++ (46 ∷ 10 ∷ rest)) ≡ Some (length text)
stops_there text rest is =
    stop_behind 46 inside.Nothing [] text inside.Nothing [] 0 (46 ∷ 10 ∷ rest) (is.safe 46 (inr refl) []) ∙ at_stop (0 + length text) rest ∙ ap (λ (n : ℕ). Some n) (omega arith)

newline : (rest : List ℕ) → after_blanks (10 ∷ rest) ≡ after_blanks rest
unfolding after_blanks
newline rest = refl

-- a form with its full stop and a line feed, in front of another one or of nothing
pub form_again : (text rest : List ℕ) → IsPart text → after_blanks rest ≡ rest → listing_form_at (text ++ (46 ∷ 10 ∷ rest)) ≡ Ok (text, rest)
unfolding listing_form_at
form_again text rest is plain =
    rw (stops_there text rest is, take-append_seam text (46 ∷ 10 ∷ rest), drop-append_seam text (46 ∷ 10 ∷ rest)) (ap (λ (r : List ℕ). Ok (text, r)) (newline rest ∙ plain))

pub next_again : {A : Type 0} (meaning : List ℕ → Option A) (text rest : List ℕ) (x : A) → IsPart text → after_blanks rest ≡ rest → meaning text ≡ Some x
    → next_form meaning (text ++ (46 ∷ 10 ∷ rest)) ≡ Ok (x, rest)
unfolding next_form
next_again meaning text rest x is plain e =
    let b = is.begins in
    let parts : text ++ (46 ∷ 10 ∷ rest) ≡ b.first ∷ (b.others ++ (46 ∷ 10 ∷ rest)) = ap (λ (t : List ℕ). t ++ (46 ∷ 10 ∷ rest)) b.parts in
    let formed : listing_form_at (b.first ∷ (b.others ++ (46 ∷ 10 ∷ rest))) ≡ Ok (text, rest) = sym (ap listing_form_at parts) ∙ form_again text rest is plain in
    ap (next_form meaning) parts ∙ rw (formed, e) refl

-- ---- heads

module_word : IsWord (codes "module")
unfolding is_reserved is_utf8 chars lib.Utf8.encode
module_word = word (codes "module") refl refl (omega arith)

labels_word : IsWord (codes "labels")
unfolding is_reserved is_utf8 chars lib.Utf8.encode
labels_word = word (codes "labels") refl refl (omega arith)

attributes_word : IsWord (codes "attributes")
unfolding is_reserved is_utf8 chars lib.Utf8.encode
attributes_word = word (codes "attributes") refl refl (omega arith)

exports_word : IsWord (codes "exports")
unfolding is_reserved is_utf8 chars lib.Utf8.encode
exports_word = word (codes "exports") refl refl (omega arith)

pub module_part : (name : List ℕ) → IsPart (tagged (codes "module") (atom_text name))
module_part name = tagged_part (codes "module") (atom_text name) (word_part (codes "module") module_word) (atom_part name)

pub module_again : (name : List ℕ) → IsAtomText name → module_of (tagged (codes "module") (atom_text name)) ≡ Some name
unfolding module_of part_of
module_again name lawful = rw (tagged_headed (codes "module") (atom_text name) module_word (atom_part name), atom_whole name lawful) refl

pub labels_part : (n : ℕ) → n < 2 ^ 32 → IsPart (tagged (codes "labels") (decimal n))
labels_part n lt = tagged_part (codes "labels") (decimal n) (word_part (codes "labels") labels_word) (number_part n lt)

pub labels_again : (n : ℕ) → n < 2 ^ 32 → labels_of (tagged (codes "labels") (decimal n)) ≡ Some n
unfolding labels_of part_of
labels_again n lt = rw (tagged_headed (codes "labels") (decimal n) labels_word (number_part n lt), number_whole n lt) refl

pub attributes_part : IsPart (codes "{attributes,[]}")
attributes_part = tagged_part (codes "attributes") (91 ∷ 93 ∷ []) (word_part (codes "attributes") attributes_word) (list_part [] tt)

pub attributes_again : attributes_of (codes "{attributes,[]}") ≡ Some (91 ∷ 93 ∷ [])
unfolding attributes_of part_of
attributes_again = rw (tagged_headed (codes "attributes") (91 ∷ 93 ∷ []) attributes_word (list_part [] tt)) refl

-- ---- exports

abbrev pub AreExports : List Export → Type 0
AreExports [] = Unit {0}
AreExports (e ∷ es) = IsExport e × AreExports es

abbrev pub signature_by : Export → Signature
signature_by e = record { name = e.name; arity = e.arity }

abbrev pub signatures_by : List Export → List Signature
signatures_by [] = []
signatures_by (e ∷ es) = signature_by e ∷ signatures_by es

abbrev pub export_texts : List Export → List (List ℕ)
export_texts [] = []
export_texts (e ∷ es) = export_text e ∷ export_texts es

export_is : (e : Export) → export_text e ≡ 123 ∷ closed brace [] (atom_text e.name ∷ decimal e.arity ∷ [])
export_is e = ap (λ (t : List ℕ). 123 ∷ t) (two (atom_text e.name) (decimal e.arity) (125 ∷ []))

export_part : (e : Export) → IsExport e → IsPart (export_text e)
export_part e is = subst IsPart (sym (export_is e)) (tuple_part (atom_text e.name ∷ decimal e.arity ∷ []) (atom_part e.name, (number_part e.arity is.arity, tt)))

export_again : (e : Export) → IsExport e → signature_of_text (export_text e) ≡ Some (signature_by e)
unfolding signature_of_text
export_again e is =
    let parts : tuple_parts (export_text e) ≡ Some (atom_text e.name ∷ decimal e.arity ∷ []) =
    ap tuple_parts (export_is e) ∙ parts_again brace (atom_text e.name ∷ decimal e.arity ∷ []) (atom_part e.name, (number_part e.arity is.arity, tt)) in
    rw (parts, atom_whole e.name is.name, number_whole e.arity is.arity) refl

export_parts : (es : List Export) → AreExports es → AreParts (export_texts es)
export_parts [] are = tt
export_parts (e ∷ es) are = (export_part e are.0, export_parts es are.1)

signatures_again : (done : List Signature) (es : List Export) → AreExports es → signatures_from done (export_texts es) ≡ Some (done ++ signatures_by es)
unfolding signatures_from
signatures_again done [] are = ap (λ (t : List Signature). Some t) (sym (append-nil done))
signatures_again done (e ∷ es) are =
    rw (export_again e are.0) (signatures_again (done ++ signature_by e ∷ []) es are.1 ∙ ap (λ (t : List Signature). Some t) (append_assoc done (signature_by e ∷ []) (signatures_by es)))

exports_closed : (before : List ℕ) (es : List Export) → exports_text before es ++ 93 ∷ [] ≡ closed square before (export_texts es)
exports_closed before [] = refl
exports_closed before (e ∷ es) =
    append_assoc (before ++ export_text e) (exports_text (44 ∷ []) es) (93 ∷ []) ∙ ap (λ (t : List ℕ). before ++ export_text e ++ t) (exports_closed (44 ∷ []) es)

-- the form of the exports, without its full stop
abbrev pub exports_form : List Export → List ℕ
exports_form es = codes "{exports,[" ++ exports_text [] es ++ codes "]}"

exports_is : (es : List Export) → exports_form es ≡ tagged (codes "exports") (list_texts (export_texts es))
unfolding list_texts
exports_is es =
    ap (λ (t : List ℕ). codes "{exports,[" ++ t) (sym (append_assoc (exports_text [] es) (93 ∷ []) (125 ∷ [])) ∙ ap (λ (t : List ℕ). t ++ 125 ∷ []) (exports_closed [] es))

pub exports_part : (es : List Export) → AreExports es → IsPart (exports_form es)
exports_part es are =
    subst IsPart (sym (exports_is es)) (tagged_part (codes "exports") (list_texts (export_texts es)) (word_part (codes "exports") exports_word) (texts_part (export_texts es) (export_parts es are)))

pub exports_again : (es : List Export) → AreExports es → exports_of (exports_form es) ≡ Some (signatures_by es)
unfolding exports_of part_of
exports_again es are =
    ap exports_of (exports_is es)
    ∙ rw (tagged_headed (codes "exports") (list_texts (export_texts es)) exports_word (texts_part (export_texts es) (export_parts es are)), texts_parts (export_texts es) (export_parts es are), signatures_again [] es are) refl
