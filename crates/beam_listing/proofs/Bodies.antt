-- Forms one after the other, with no comment among them, are read again.
use Rattle.std.proofs.Common.{◌≡◌, ℕ, zero, suc, ◌+◌, ◌^◌, ◌<◌, ◌≤◌, false, inr, List, [], ◌∷◌, ◌++◌, length, Some, Ok, refl, sym, ap, ◌∙◌, subst, arith, codes, ◌==◌, length-append}
use Rattle.std.specs.Fmt.{decimal}
use Rattle.std.specs.Str.{is_utf8, chars}
use Rattle.beam_term.specs.Prelude.{IsAtomText}
use Rattle.beam_model.specs.declared.lex_state.LexState.TheVariants as inside
use Rattle.beam_model.specs.declared.function.Function.{Function}
use Rattle.beam_model.specs.declared.item.Item.{Item}
use Rattle.beam_model.specs.Prelude.{is_reserved, atom_text, after_blanks, uncommented, uncommented_from, item_of, item_by, function_of_parts, ListingBody, with_item, next_form, body_from}
use Rattle.beam_model.specs.declared.item.Item.TheVariants as item
use Rattle.beam_erltext.proofs.Texts.{differ}
use Rattle.beam_erltext.proofs.TermRoundTrip.{no_blanks}
use Rattle.beam_listing.proofs.Traces.{brace, uncommented_behind}
use Rattle.beam_listing.proofs.Elements.{IsPart, AreParts, closed}
use Rattle.beam_listing.proofs.Operands.{IsWord, word, word_part, number_whole, number_part, atom_whole, atom_part}
use Rattle.beam_listing.proofs.Members.{tuple_part, tuple_headed, two}
use Rattle.beam_listing.proofs.Written.{headed_item}
use Rattle.beam_listing.proofs.HeadForms.{next_again}

-- ---- texts of forms

-- each form with its full stop and a line feed
abbrev pub forms_text : List (List ℕ) → List ℕ
forms_text [] = []
forms_text (f ∷ fs) = f ++ (46 ∷ 10 ∷ forms_text fs)

nothing_plain : after_blanks [] ≡ []
unfolding after_blanks
nothing_plain = refl

pub forms_plain : (fs : List (List ℕ)) → AreParts fs → after_blanks (forms_text fs) ≡ forms_text fs
forms_plain [] are = nothing_plain
forms_plain (f ∷ fs) are = no_blanks f (46 ∷ 10 ∷ forms_text fs) are.0.begins

stop_stays : (rest : List ℕ) → uncommented_from inside.Nothing (46 ∷ 10 ∷ rest) ≡ 46 ∷ 10 ∷ uncommented_from inside.Nothing rest
unfolding uncommented_from
stop_stays rest = refl

nothing_uncommented : uncommented_from inside.Nothing [] ≡ []
unfolding uncommented_from
nothing_uncommented = refl

pub forms_uncommented : (fs : List (List ℕ)) → AreParts fs → uncommented (forms_text fs) ≡ forms_text fs
forms_uncommented [] are = nothing_uncommented
forms_uncommented (f ∷ fs) are =
    uncommented_behind 46 inside.Nothing [] f inside.Nothing [] (46 ∷ 10 ∷ forms_text fs) (are.0.safe 46 (inr refl) [])
    ∙ ap (λ (t : List ℕ). f ++ t) (stop_stays (forms_text fs) ∙ ap (λ (t : List ℕ). 46 ∷ 10 ∷ t) (forms_uncommented fs are.1))

-- ---- what stands after the heads

-- each form has its meaning
abbrev pub AreItems : List (List ℕ) → List Item → Type 0
AreItems [] [] = Unit {0}
AreItems [] (x ∷ xs) = ⊥
AreItems (f ∷ fs) [] = ⊥
AreItems (f ∷ fs) (x ∷ xs) = (IsPart f × (item_of f ≡ Some x)) × AreItems fs xs

pub item_parts : (fs : List (List ℕ)) (xs : List Item) → AreItems fs xs → AreParts fs
item_parts [] [] are = tt
item_parts [] (x ∷ xs) are = absurd are
item_parts (f ∷ fs) [] are = absurd are
item_parts (f ∷ fs) (x ∷ xs) are = (are.0.0, item_parts fs xs are.1)

-- a body with these forms more, each where it may stand, is the whole
abbrev pub Adds : ListingBody → List Item → ListingBody → Type 0
Adds body [] whole = body ≡ whole
Adds body (x ∷ xs) whole = (next : ListingBody) × ((left : ℕ) → with_item left body x ≡ Ok next) × Adds next xs whole

body_end : (n : ℕ) (body : ListingBody) → body_from n body [] ≡ Ok body
unfolding body_from
body_end zero body = refl
body_end (suc n) body = refl

pub body_again : (n : ℕ) (body whole : ListingBody) (fs : List (List ℕ)) (xs : List Item) → AreItems fs xs → Adds body xs whole → length (forms_text fs) ≤ n
    → body_from n body (forms_text fs) ≡ Ok whole
unfolding body_from
body_again n body whole [] [] are adds h = body_end n body ∙ ap (λ (b : ListingBody). Ok b) adds
body_again n body whole [] (x ∷ xs) are adds h = absurd are
body_again n body whole (f ∷ fs) [] are adds h = absurd are
body_again zero body whole (f ∷ fs) (x ∷ xs) are adds h = absurd (omega (arith, h, length-append f (46 ∷ 10 ∷ forms_text fs)))
body_again (suc n) body whole (f ∷ fs) (x ∷ xs) are adds h =
    let text : List ℕ = f ++ (46 ∷ 10 ∷ forms_text fs) in
    let long : length text ≡ length f + suc (suc (length (forms_text fs))) = length-append f (46 ∷ 10 ∷ forms_text fs) in
    let some : (length text == 0) ≡ false = differ (length text) 0 (λ e. omega (arith, e, long)) in
    let read : next_form item_of text ≡ Ok (x, forms_text fs) = next_again item_of f (forms_text fs) x are.0.0 (forms_plain fs (item_parts fs xs are.1)) are.0.1 in
    rw (some, read, adds.1 (length text)) (body_again n adds.0 whole fs xs are.1 adds.2 (omega (arith, h, long)))

-- ---- functions

function_word : IsWord (codes "function")
unfolding is_reserved is_utf8 chars lib.Utf8.encode
function_word = word (codes "function") refl refl (omega arith)

-- what the name and the numbers of a function must be
pub record IsFunction (f : Function) : Type 0 where
  pub name : IsAtomText f.name
  pub arity : f.arity < 2 ^ 32
  pub entry : f.entry < 2 ^ 32

-- the form of a function, without its full stop
abbrev pub function_form : Function → List ℕ
function_form f = codes "{function," ++ atom_text f.name ++ codes "," ++ decimal f.arity ++ codes "," ++ decimal f.entry ++ codes "}"

function_parts : Function → List (List ℕ)
function_parts f = decimal f.arity ∷ decimal f.entry ∷ []

function_is : (f : Function) → function_form f ≡ 123 ∷ closed brace [] (codes "function" ∷ atom_text f.name ∷ function_parts f)
unfolding function_parts
function_is f =
    ap (λ (t : List ℕ). codes "{function," ++ t)
    (two (atom_text f.name ++ 44 ∷ [] ++ decimal f.arity) (decimal f.entry) (125 ∷ [])
    ∙ two (atom_text f.name) (decimal f.arity) (44 ∷ (decimal f.entry ++ 125 ∷ [])))

are_function_parts : (f : Function) → IsFunction f → AreParts (function_parts f)
unfolding function_parts
are_function_parts f is = (number_part f.arity is.arity, (number_part f.entry is.entry, tt))

pub function_part : (f : Function) → IsFunction f → IsPart (function_form f)
function_part f is =
    subst IsPart (sym (function_is f)) (tuple_part (codes "function" ∷ atom_text f.name ∷ function_parts f) (word_part (codes "function") function_word, (atom_part f.name, are_function_parts f is)))

function_read : (f : Function) → IsFunction f → item_by (codes "function") (atom_text f.name ∷ function_parts f) ≡ Some (item.Function f)
unfolding item_by function_of_parts function_parts
function_read f is = rw (atom_whole f.name is.name, number_whole f.arity is.arity, number_whole f.entry is.entry) refl

pub function_again : (f : Function) → IsFunction f → item_of (function_form f) ≡ Some (item.Function f)
function_again f is =
    ap item_of (function_is f)
    ∙ headed_item (closed brace [] (codes "function" ∷ atom_text f.name ∷ function_parts f)) (codes "function") (atom_text f.name ∷ function_parts f)
    (tuple_headed (codes "function") (atom_text f.name) (function_parts f) function_word (atom_part f.name) (are_function_parts f is))
    ∙ function_read f is
