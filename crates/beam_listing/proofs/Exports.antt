-- The label of a lawful export is the entry of the first function of its name and arity.
use Rattle.std.proofs.Common.{◌≡◌, Bool, true, false, cond, List, [], ◌∷◌, ◌++◌, refl, ap, ◌∙◌, map, not, ◌==◌, ◌&&◌, ◌||◌, eqb-true, eq-eqb}
use Rattle.std.specs.List.{list_any, list_all}
use Rattle.std.proofs.lemmas.List.Folds.{list_any-append}
use Rattle.std.proofs.lemmas.Slice.Eq.{bytes_eq-Decides}
use Rattle.std.proofs.lemmas.Bool.{and_parts, or_left}
use Rattle.beam_lemmas.proofs.SameText.{text_is}
use Rattle.beam_model.specs.declared.function.Export.{Export}
use Rattle.beam_model.specs.declared.function.Function.{Function}
use Rattle.beam_model.specs.declared.function.Signature.{Signature}
use Rattle.beam_model.specs.Prelude.{same_text, signature_of, same_signature, are_signatures_new, exported, is_entry, is_entry_of, entry_label_of, export_by}
use Rattle.beam_listing.proofs.HeadForms.{signature_by, signatures_by}

-- ---- tests

split_not : (a b : Bool) → (not a && b) ≡ true → (a ≡ false) × (b ≡ true)
split_not true b e = absurd cc
split_not false b e = (refl, e)

no_test : (a : Bool) → a ≡ true → a ≡ false → ⊥
no_test a e f = cc

-- ---- functions of one name and arity

-- a function is the one of an export
record IsEntry (f : Function) (e : Export) : Type 0 where
  name : f.name ≡ e.name
  arity : f.arity ≡ e.arity
  entry : f.entry ≡ e.label

entry_is : (f : Function) (e : Export) → is_entry f (exported e) ≡ true → IsEntry f e
entry_is f e is =
    let a = and_parts (same_text f.name e.name) (f.arity == e.arity && f.entry == e.label) is in
    let b = and_parts (f.arity == e.arity) (f.entry == e.label) a.1 in
    record { name = text_is f.name e.name a.0; arity = eqb-true f.arity e.arity b.0; entry = eqb-true f.entry e.label b.1 }

signature_is : (f : Function) (e : Export) → f.name ≡ e.name → f.arity ≡ e.arity → signature_of f ≡ signature_by e
signature_is f e name arity = λ k. record { name = name k; arity = arity k }

-- no later function has the signature of an earlier one
clash_by : (b : Bool) (g : Function) (rest : List Function) (before : List Signature) (e : Export) → is_entry g (exported e) ≡ b → list_any (same_signature (signature_by e)) before ≡ true
    → are_signatures_new before (signature_of g ∷ map signature_of rest) ≡ true → (b || is_entry_of rest e) ≡ true
    → (list_any (same_signature (signature_by e)) (before ++ signature_of g ∷ []) ≡ true → are_signatures_new (before ++ signature_of g ∷ []) (map signature_of rest) ≡ true → is_entry_of rest e ≡ true → ⊥) → ⊥
clash_by true g rest before e same there new is others =
    let found = entry_is g e same in
    let split = split_not (list_any (same_signature (signature_of g)) before) (are_signatures_new (before ++ signature_of g ∷ []) (map signature_of rest)) new in
    let again : list_any (same_signature (signature_of g)) before ≡ true = ap (λ (s : Signature). list_any (same_signature s) before) (signature_is g e found.name found.arity) ∙ there in
    no_test (list_any (same_signature (signature_of g)) before) again split.0
clash_by false g rest before e same there new is others =
    let split = split_not (list_any (same_signature (signature_of g)) before) (are_signatures_new (before ++ signature_of g ∷ []) (map signature_of rest)) new in
    let longer : list_any (same_signature (signature_by e)) (before ++ signature_of g ∷ []) ≡ true =
    list_any-append (same_signature (signature_by e)) before (signature_of g ∷ []) ∙ or_left (list_any (same_signature (signature_by e)) before) (list_any (same_signature (signature_by e)) (signature_of g ∷ [])) there in
    others longer split.1 is

clash : (rest : List Function) (before : List Signature) (e : Export) → list_any (same_signature (signature_by e)) before ≡ true
    → are_signatures_new before (map signature_of rest) ≡ true → is_entry_of rest e ≡ true → ⊥
clash [] before e there new is = no_test false is refl
clash (g ∷ rest) before e there new is = clash_by (is_entry g (exported e)) g rest before e refl there new is (clash rest (before ++ signature_of g ∷ []) e)

-- ---- labels

same_again : (s : Signature) → same_signature s s ≡ true
same_again s = and_true (same_text s.name s.name) (s.arity == s.arity) ((bytes_eq-Decides s.name s.name).1 refl) (eq-eqb s.arity s.arity refl)
  where
    and_true : (a b : Bool) → a ≡ true → b ≡ true → (a && b) ≡ true
    and_true true b e f = f
    and_true false b e f = absurd cc

-- this function is among the earlier ones
known_by : (f : Function) (before : List Signature) (e : Export) → f.name ≡ e.name → f.arity ≡ e.arity → list_any (same_signature (signature_by e)) (before ++ signature_of f ∷ []) ≡ true
known_by f before e name arity =
    let s : Signature = signature_by e in
    let here : same_signature s (signature_of f) ≡ true = ap (same_signature s) (signature_is f e name arity) ∙ same_again s in
    list_any-append (same_signature s) before (signature_of f ∷ []) ∙ or_last (list_any (same_signature s) before) (same_signature s (signature_of f)) here
  where
    or_last : (a b : Bool) → b ≡ true → (a || (b || false)) ≡ true
    or_last true b e = refl
    or_last false true e = refl
    or_last false false e = absurd cc

-- whether the name and arity of a function are those of an export, and whether its entry is the label
entry_by : (a b : Bool) (f : Function) (rest : List Function) (before : List Signature) (e : Export)
    → (same_text f.name e.name && f.arity == e.arity) ≡ a → is_entry f (exported e) ≡ b → (b || is_entry_of rest e) ≡ true
    → are_signatures_new (before ++ signature_of f ∷ []) (map signature_of rest) ≡ true → (is_entry_of rest e ≡ true → entry_label_of rest (signature_by e) ≡ e.label)
    → cond a f.entry (entry_label_of rest (signature_by e)) ≡ e.label
entry_by true true f rest before e named same is new others = (entry_is f e same).entry
entry_by true false f rest before e named same is new others =
    let n = and_parts (same_text f.name e.name) (f.arity == e.arity) named in
    absurd (clash rest (before ++ signature_of f ∷ []) e (known_by f before e (text_is f.name e.name n.0) (eqb-true f.arity e.arity n.1)) new is)
entry_by false true f rest before e named same is new others = absurd (no_test (same_text f.name e.name && f.arity == e.arity) (part_named f e same) named)
  where
    both : (a b c : Bool) → (a && (b && c)) ≡ true → (a && b) ≡ true
    both true true c e = refl
    both true false c e = e
    both false b c e = e

    part_named : (f : Function) (e : Export) → is_entry f (exported e) ≡ true → (same_text f.name e.name && f.arity == e.arity) ≡ true
    part_named f e is = both (same_text f.name e.name) (f.arity == e.arity) (f.entry == e.label) is
entry_by false false f rest before e named same is new others = others is

entry_again : (fs : List Function) (before : List Signature) (e : Export) → are_signatures_new before (map signature_of fs) ≡ true → is_entry_of fs e ≡ true → entry_label_of fs (signature_by e) ≡ e.label
entry_again [] before e new is = absurd (no_test false is refl)
entry_again (f ∷ rest) before e new is =
    let split = split_not (list_any (same_signature (signature_of f)) before) (are_signatures_new (before ++ signature_of f ∷ []) (map signature_of rest)) new in
    entry_by (same_text f.name e.name && f.arity == e.arity) (is_entry f (exported e)) f rest before e refl refl is split.1 (entry_again rest (before ++ signature_of f ∷ []) e split.1)

pub labels_again : (fs : List Function) (es : List Export) → are_signatures_new [] (map signature_of fs) ≡ true → list_all (is_entry_of fs) es ≡ true → map (export_by fs) (signatures_by es) ≡ es
labels_again fs [] new are = refl
labels_again fs (e ∷ es) new are =
    let split = and_parts (is_entry_of fs e) (list_all (is_entry_of fs) es) are in
    let label : entry_label_of fs (signature_by e) ≡ e.label = entry_again fs [] e new split.0 in
    let others : map (export_by fs) (signatures_by es) ≡ es = labels_again fs es new split.1 in
    λ k. record { name = e.name; arity = e.arity; label = label k } ∷ others k
