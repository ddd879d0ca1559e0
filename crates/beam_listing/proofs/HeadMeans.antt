-- The heads are read exactly as they stand.
use Rattle.std.proofs.Common.{◌≡◌, ℕ, List, [], ◌∷◌, ◌++◌, Some, refl, sym, ap, subst, ◌∙◌, append_assoc, append-nil, codes}
use Rattle.std.proofs.lemmas.Option.{same_Some}
use Rattle.beam_model.specs.declared.function.Signature.{Signature}
use Rattle.beam_model.specs.Prelude.{tuple_parts, list_parts, atom_of_text, number_of_text, part_of, module_of, signature_of_parts, signature_of_text, signatures_from, exports_of, attributes_of, labels_of}
use Rattle.beam_model.specs.Forms.{◌>>=◌}
use Rattle.beam_listing.specs.Prelude.{AreBracketed, AreEach, IsModuleForm, IsSignature, IsExportsForm, IsAttributesForm, IsLabelsForm}
use Rattle.beam_listing.proofs.Bracketed.{tuple_told, tuple_read, list_told, list_read}
use Rattle.beam_listing.proofs.FrontForms.{Means}
use Rattle.beam_listing.proofs.OperandMeans.{Further}
use Rattle.beam_listing.proofs.PartMeans.{bind_some, atom_told, atom_read, number_told, number_read, part_told, part_read}

-- ---- names and counts

module_told : (form name : List ℕ) → module_of form ≡ Some name → IsModuleForm name form
unfolding module_of
module_told form name e =
    let p = bind_some (part_of (codes "module") form) atom_of_text name e in
    (p.0, part_told (codes "module") form p.0 p.1, atom_told p.0 name p.2)

module_read : (form name : List ℕ) → IsModuleForm name form → module_of form ≡ Some name
unfolding module_of
module_read form name (part, is, atom) = rw (part_read (codes "module") form part is, atom_read part name atom) refl

pub module_means : Means IsModuleForm module_of
module_means = record { told = module_told; read = module_read }

pub attributes_means : Means IsAttributesForm attributes_of
unfolding attributes_of
attributes_means = record { told = part_told (codes "attributes"); read = part_read (codes "attributes") }

labels_told : (form : List ℕ) (n : ℕ) → labels_of form ≡ Some n → IsLabelsForm n form
unfolding labels_of
labels_told form n e =
    let p = bind_some (part_of (codes "labels") form) number_of_text n e in
    (p.0, part_told (codes "labels") form p.0 p.1, number_told p.0 n p.2)

labels_read : (form : List ℕ) (n : ℕ) → IsLabelsForm n form → labels_of form ≡ Some n
unfolding labels_of
labels_read form n (part, is, number) = rw (part_read (codes "labels") form part is, number_read part n number) refl

pub labels_means : Means IsLabelsForm labels_of
labels_means = record { told = labels_told; read = labels_read }

-- ---- exports

abbrev made : List ℕ → ℕ → Signature
made name arity = record { name = name; arity = arity }

signature_by_told : (parts : List (List ℕ)) (s : Signature) (text : List ℕ) → AreBracketed 123 125 parts text → signature_of_parts parts ≡ Some s → IsSignature s text
signature_by_told [] s text are e = absurd cc
signature_by_told (f ∷ []) s text are e = absurd cc
signature_by_told (f ∷ a ∷ []) s text are e =
    let w = bind_some (atom_of_text f) (λ (name : List ℕ). number_of_text a >>= λ n. Some (made name n)) s e in
    let n = bind_some (number_of_text a) (λ (n : ℕ). Some (made w.0 n)) s w.2 in
    subst (λ (z : Signature). IsSignature z text) (same_Some (made w.0 n.0) s n.2)
    (record { name_part = f; arity_part = a; in_braces = are; is_name = atom_told f w.0 w.1; is_arity = number_told a n.0 n.1 })
signature_by_told (f ∷ a ∷ b ∷ ps) s text are e = absurd cc

signature_told : (text : List ℕ) (s : Signature) → signature_of_text text ≡ Some s → IsSignature s text
unfolding signature_of_text
signature_told text s e =
    let ps = bind_some (tuple_parts text) signature_of_parts s e in
    signature_by_told ps.0 s text (tuple_told ps.0 text ps.1) ps.2

signature_read : (text : List ℕ) (s : Signature) → IsSignature s text → signature_of_text text ≡ Some s
unfolding signature_of_text
signature_read text s is =
    let parts = tuple_read (is.name_part ∷ is.arity_part ∷ []) text is.in_braces in
    rw (parts, atom_read is.name_part s.name is.is_name, number_read is.arity_part s.arity is.is_arity) refl

signatures_told : (before all : List Signature) (texts : List (List ℕ)) → signatures_from before texts ≡ Some all → Further IsSignature before all texts
unfolding signatures_from
signatures_told before all [] e = record { others = []; sum = sym (same_Some before all e) ∙ sym (append-nil before); are = tt }
signatures_told before all (text ∷ texts) e =
    let s = bind_some (signature_of_text text) (λ (s : Signature). signatures_from (before ++ s ∷ []) texts) all e in
    let r = signatures_told (before ++ s.0 ∷ []) all texts s.2 in
    record { others = s.0 ∷ r.others; sum = r.sum ∙ append_assoc before (s.0 ∷ []) r.others; are = (signature_told text s.0 s.1, r.are) }

signatures_read : (before ss : List Signature) (texts : List (List ℕ)) → AreEach IsSignature ss texts → signatures_from before texts ≡ Some (before ++ ss)
unfolding signatures_from
signatures_read before [] [] are = ap (λ (all : List Signature). Some all) (sym (append-nil before))
signatures_read before (s ∷ ss) (text ∷ texts) are =
    rw (signature_read text s are.0) (signatures_read (before ++ s ∷ []) ss texts are.1 ∙ ap (λ (all : List Signature). Some all) (append_assoc before (s ∷ []) ss))
signatures_read before [] (text ∷ texts) are = absurd are
signatures_read before (s ∷ ss) [] are = absurd are

exports_told : (form : List ℕ) (ss : List Signature) → exports_of form ≡ Some ss → IsExportsForm ss form
unfolding exports_of
exports_told form ss e =
    let p = bind_some (part_of (codes "exports") form) (λ (part : List ℕ). list_parts part >>= signatures_from []) ss e in
    let parts = bind_some (list_parts p.0) (signatures_from []) ss p.2 in
    let r = signatures_told [] ss parts.0 parts.2 in
    (p.0, part_told (codes "exports") form p.0 p.1, (parts.0, list_told parts.0 p.0 parts.1, subst (λ (all : List Signature). AreEach IsSignature all parts.0) (sym r.sum) r.are))

exports_read : (form : List ℕ) (ss : List Signature) → IsExportsForm ss form → exports_of form ≡ Some ss
unfolding exports_of
exports_read form ss (part, is, (parts, listed, are)) = rw (part_read (codes "exports") form part is, list_read parts part listed, signatures_read [] ss parts are) refl

pub exports_means : Means IsExportsForm exports_of
exports_means = record { told = exports_told; read = exports_read }
