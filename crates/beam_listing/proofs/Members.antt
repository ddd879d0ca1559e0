-- Printed lists and imports are read again, and each operand under its kind.
use Rattle.std.proofs.Common.{◌≡◌, ℕ, ◌^◌, ◌<◌, ◌≤◌, ℤ, List, [], ◌∷◌, ◌++◌, Some, refl, sym, ap, ◌∙◌, subst, append_assoc, append-nil, arith, codes}
use Rattle.std.specs.Fmt.{signed_decimal, decimal}
use Rattle.std.specs.Str.{is_utf8, chars}
use Rattle.beam_model.specs.declared.function.Import.{Import}
use Rattle.beam_model.specs.declared.instruction.Argument.{Argument}
use Rattle.beam_model.specs.Prelude.{is_reserved, atom_text, text_of, HasText, tuple_parts, list_parts, tagged, term_text, argument_text, arguments_text, import_text, list_text, headed_of, part_of, plain_register, register_of_parts, term_of_part, term_source, nil_source, member_of_parts, member_of_text, number_member, members_from, members_of_text, import_of_text, native_of}
use Rattle.beam_term.specs.Prelude.{IsAtomText, TermValue, int_term, atom_term, reference_term, pid_term, nil_term, pair_term, tuple_term, IsTerm, IsSmall}
use Rattle.beam_model.specs.declared.instruction.Argument.TheVariants as argument
use Rattle.beam_erltext.proofs.Texts.{differ}
use Rattle.beam_erltext.proofs.IntegerRoundTrip.{digit_is, decimal_begins}
use Rattle.beam_listing.specs.Typed.{IsImport}
use Rattle.beam_listing.proofs.Traces.{Brackets, square, brace, right, Inner, inner_append, inner_of, comma_inner, empty_safe, in_brackets}
use Rattle.beam_listing.proofs.Elements.{IsPart, AreParts, closed, parts_again}
use Rattle.beam_listing.proofs.Operands.{IsReadArgument, IsWord, word, integer_whole, number_whole, atom_whole, term_whole, integer_part, number_part, atom_part, term_part, word_part, word_whole, tagged_part, tagged_headed, x_word, y_word, f_word, integer_word, atom_word, literal_word, nil_word}

-- ---- parts in brackets

-- a text, and then parts with commas between them
abbrev between : List ℕ → List (List ℕ) → List ℕ
between before [] = []
between before (p ∷ ps) = before ++ p ++ between (44 ∷ []) ps

between_closed : (b : Brackets) (before : List ℕ) (ps : List (List ℕ)) → between before ps ++ right b ∷ [] ≡ closed b before ps
between_closed b before [] = refl
between_closed b before (p ∷ ps) =
    append_assoc (before ++ p) (between (44 ∷ []) ps) (right b ∷ []) ∙ ap (λ (t : List ℕ). before ++ p ++ t) (between_closed b (44 ∷ []) ps)

inner_between : (before : List ℕ) (ps : List (List ℕ)) → Inner before → AreParts ps → Inner (between before ps)
inner_between before [] b are = inner_of [] empty_safe
inner_between before (p ∷ ps) b are =
    inner_append (before ++ p) (between (44 ∷ []) ps) (inner_append before p b (inner_of p are.0.safe)) (inner_between (44 ∷ []) ps comma_inner are.1)

-- parts in brackets are a part
pub list_part : (ps : List (List ℕ)) → AreParts ps → IsPart (91 ∷ closed square [] ps)
list_part ps are =
    subst (λ (t : List ℕ). IsPart (91 ∷ t)) (between_closed square [] ps)
    (record {
      safe = in_brackets square (between [] ps) (inner_between [] ps (inner_of [] empty_safe) are);
      begins = record { first = 91; others = between [] ps ++ 93 ∷ []; parts = refl; high = omega arith; square = λ e. omega (arith, e); brace = λ e. omega (arith, e) };
    })

pub tuple_part : (ps : List (List ℕ)) → AreParts ps → IsPart (123 ∷ closed brace [] ps)
tuple_part ps are =
    subst (λ (t : List ℕ). IsPart (123 ∷ t)) (between_closed brace [] ps)
    (record {
      safe = in_brackets brace (between [] ps) (inner_between [] ps (inner_of [] empty_safe) are);
      begins = record { first = 123; others = between [] ps ++ 125 ∷ []; parts = refl; high = omega arith; square = λ e. omega (arith, e); brace = λ e. omega (arith, e) };
    })

-- a name's text in front of parts
pub name_headed : (name p : List ℕ) (ps : List (List ℕ)) → IsAtomText name → IsPart p → AreParts ps
    → headed_of (123 ∷ closed brace [] (atom_text name ∷ p ∷ ps)) ≡ Some (name, p ∷ ps)
unfolding headed_of
name_headed name p ps lawful part are =
    let parts : tuple_parts (123 ∷ closed brace [] (atom_text name ∷ p ∷ ps)) ≡ Some (atom_text name ∷ p ∷ ps) = parts_again brace (atom_text name ∷ p ∷ ps) (atom_part name, (part, are)) in
    rw (parts, atom_whole name lawful) refl

-- a word in front of parts
pub tuple_headed : (w p : List ℕ) (ps : List (List ℕ)) → IsWord w → IsPart p → AreParts ps → headed_of (123 ∷ closed brace [] (w ∷ p ∷ ps)) ≡ Some (w, p ∷ ps)
tuple_headed w p ps is part are = ap (λ (t : List ℕ). headed_of (123 ∷ closed brace [] (t ∷ p ∷ ps))) (sym is.bare) ∙ name_headed w p ps is.lawful part are

-- ---- arguments

pub argument_part : (a : Argument) → IsReadArgument a → IsPart (argument_text a)
argument_part (argument.Term (int_term z)) is = tagged_part (codes "integer") (signed_decimal z) (word_part (codes "integer") integer_word) (integer_part z is.0.in_range)
argument_part (argument.Term (atom_term name)) is = tagged_part (codes "atom") (atom_text name) (word_part (codes "atom") atom_word) (atom_part name)
argument_part (argument.Term (reference_term node creation words)) is = absurd is.1
argument_part (argument.Term (pid_term node id serial creation)) is = absurd is.1
argument_part (argument.Term nil_term) is = word_part (codes "nil") nil_word
argument_part (argument.Term (pair_term h t)) is = tagged_part (codes "literal") (text_of (pair_term h t)) (word_part (codes "literal") literal_word) (term_part (pair_term h t) is.0.in_range is.1)
argument_part (argument.Term (tuple_term items)) is = tagged_part (codes "literal") (text_of (tuple_term items)) (word_part (codes "literal") literal_word) (term_part (tuple_term items) is.0.in_range is.1)
argument_part (argument.X n) is = tagged_part (codes "x") (decimal n) (word_part (codes "x") x_word) (number_part n is)
argument_part (argument.Y n) is = tagged_part (codes "y") (decimal n) (word_part (codes "y") y_word) (number_part n is)
argument_part (argument.Label n) is = tagged_part (codes "f") (decimal n) (word_part (codes "f") f_word) (number_part n is)
argument_part (argument.Number n) is = number_part n is

-- ---- members of lists

x_member : (n : ℕ) → n < 2 ^ 32 → member_of_text (argument_text (argument.X n)) ≡ Some (argument.X n)
unfolding member_of_text member_of_parts register_of_parts plain_register
x_member n lt = rw (tagged_headed (codes "x") (decimal n) x_word (number_part n lt), number_whole n lt) refl

y_member : (n : ℕ) → n < 2 ^ 32 → member_of_text (argument_text (argument.Y n)) ≡ Some (argument.Y n)
unfolding member_of_text member_of_parts register_of_parts plain_register
y_member n lt = rw (tagged_headed (codes "y") (decimal n) y_word (number_part n lt), number_whole n lt) refl

f_member : (n : ℕ) → n < 2 ^ 32 → member_of_text (argument_text (argument.Label n)) ≡ Some (argument.Label n)
unfolding member_of_text member_of_parts
f_member n lt = rw (tagged_headed (codes "f") (decimal n) f_word (number_part n lt), number_whole n lt) refl

integer_of_member : (z : ℤ) → IsSmall z → member_of_text (term_text (int_term z)) ≡ Some (argument.Term (int_term z))
unfolding member_of_text member_of_parts term_source term_of_part
integer_of_member z small = rw (tagged_headed (codes "integer") (signed_decimal z) integer_word (integer_part z small), integer_whole z small) refl

atom_of_member : (name : List ℕ) → IsAtomText name → member_of_text (term_text (atom_term name)) ≡ Some (argument.Term (atom_term name))
unfolding member_of_text member_of_parts term_source term_of_part
atom_of_member name lawful = rw (tagged_headed (codes "atom") (atom_text name) atom_word (atom_part name), atom_whole name lawful) refl

literal_member : (t : TermValue) → IsTerm t → HasText t → member_of_text (tagged (codes "literal") (text_of t)) ≡ Some (argument.Term t)
unfolding member_of_text member_of_parts term_source term_of_part
literal_member t lawful printed = rw (tagged_headed (codes "literal") (text_of t) literal_word (term_part t lawful.in_range printed), term_whole t lawful printed) refl

nil_member : member_of_text (codes "nil") ≡ Some (argument.Term nil_term)
unfolding member_of_text nil_source
nil_member = rw (word_whole (codes "nil") nil_word) refl

pub number_again : (n : ℕ) → n < 2 ^ 32 → number_member (decimal n) ≡ Some (argument.Number n)
number_again n lt = rw (number_whole n lt) refl

number_of_member : (n : ℕ) → n < 2 ^ 32 → member_of_text (decimal n) ≡ Some (argument.Number n)
unfolding member_of_text
number_of_member n lt =
    let b = decimal_begins n (omega arith) in
    let low : 48 ≤ b.first = b.low in
    let high : b.first ≤ 57 = b.high in
    let read : number_member (b.first ∷ b.others) ≡ Some (argument.Number n) = sym (ap number_member b.parts) ∙ number_again n lt in
    ap member_of_text b.parts ∙ rw (differ b.first 123 (λ e. omega (arith, e)), digit_is b.first b.low b.high) read

pub member_again : (a : Argument) → IsReadArgument a → member_of_text (argument_text a) ≡ Some a
member_again (argument.Term (int_term z)) is = integer_of_member z is.0.in_range
member_again (argument.Term (atom_term name)) is = atom_of_member name is.0.in_range
member_again (argument.Term (reference_term node creation words)) is = absurd is.1
member_again (argument.Term (pid_term node id serial creation)) is = absurd is.1
member_again (argument.Term nil_term) is = nil_member
member_again (argument.Term (pair_term h t)) is = literal_member (pair_term h t) is.0 is.1
member_again (argument.Term (tuple_term items)) is = literal_member (tuple_term items) is.0 is.1
member_again (argument.X n) is = x_member n is
member_again (argument.Y n) is = y_member n is
member_again (argument.Label n) is = f_member n is
member_again (argument.Number n) is = number_of_member n is

-- ---- lists

abbrev pub AreArguments : List Argument → Type 0
AreArguments [] = Unit {0}
AreArguments (a ∷ as') = IsReadArgument a × AreArguments as'

abbrev pub texts_of : List Argument → List (List ℕ)
texts_of [] = []
texts_of (a ∷ as') = argument_text a ∷ texts_of as'

argument_parts : (as' : List Argument) → AreArguments as' → AreParts (texts_of as')
argument_parts [] are = tt
argument_parts (a ∷ as') are = (argument_part a are.0, argument_parts as' are.1)

members_again : (done as' : List Argument) → AreArguments as' → members_from done (texts_of as') ≡ Some (done ++ as')
unfolding members_from
members_again done [] are = ap (λ (t : List Argument). Some t) (sym (append-nil done))
members_again done (a ∷ as') are =
    rw (member_again a are.0) (members_again (done ++ a ∷ []) as' are.1 ∙ ap (λ (t : List Argument). Some t) (append_assoc done (a ∷ []) as'))

arguments_closed : (before : List ℕ) (as' : List Argument) → arguments_text before as' ++ 93 ∷ [] ≡ closed square before (texts_of as')
arguments_closed before [] = refl
arguments_closed before (a ∷ as') =
    append_assoc (before ++ argument_text a) (arguments_text (44 ∷ []) as') (93 ∷ []) ∙ ap (λ (t : List ℕ). before ++ argument_text a ++ t) (arguments_closed (44 ∷ []) as')

list_word : IsWord (codes "list")
unfolding is_reserved is_utf8 chars lib.Utf8.encode
list_word = word (codes "list") refl refl (omega arith)

members_text : List Argument → List ℕ
members_text as' = 91 ∷ closed square [] (texts_of as')

list_is : (as' : List Argument) → list_text as' ≡ tagged (codes "list") (members_text as')
unfolding members_text
list_is as' =
    ap (λ (t : List ℕ). codes "{list,[" ++ t) (sym (append_assoc (arguments_text [] as') (93 ∷ []) (125 ∷ [])) ∙ ap (λ (t : List ℕ). t ++ 125 ∷ []) (arguments_closed [] as'))

members_part : (as' : List Argument) → AreArguments as' → IsPart (members_text as')
unfolding members_text
members_part as' are = list_part (texts_of as') (argument_parts as' are)

members_parts : (as' : List Argument) → AreArguments as' → list_parts (members_text as') ≡ Some (texts_of as')
unfolding members_text
members_parts as' are = parts_again square (texts_of as') (argument_parts as' are)

pub list_text_part : (as' : List Argument) → AreArguments as' → IsPart (list_text as')
list_text_part as' are = subst IsPart (sym (list_is as')) (tagged_part (codes "list") (members_text as') (word_part (codes "list") list_word) (members_part as' are))

pub list_again : (as' : List Argument) → AreArguments as' → members_of_text (list_text as') ≡ Some as'
unfolding members_of_text part_of
list_again as' are =
    ap members_of_text (list_is as') ∙ rw (tagged_headed (codes "list") (members_text as') list_word (members_part as' are), members_parts as' are, members_again [] as' are) refl

-- ---- imports

pub two : (a b e : List ℕ) → a ++ 44 ∷ [] ++ b ++ e ≡ a ++ (44 ∷ (b ++ e))
two a b e = append_assoc (a ++ 44 ∷ []) b e ∙ append_assoc a (44 ∷ []) (b ++ e)

extfunc_word : IsWord (codes "extfunc")
unfolding is_reserved is_utf8 chars lib.Utf8.encode
extfunc_word = word (codes "extfunc") refl refl (omega arith)

import_parts : Import → List (List ℕ)
import_parts i = atom_text i.function ∷ decimal i.arity ∷ []

import_is : (i : Import) → import_text i ≡ 123 ∷ closed brace [] (codes "extfunc" ∷ atom_text i.«module» ∷ import_parts i)
unfolding import_parts
import_is i =
    ap (λ (t : List ℕ). codes "{extfunc," ++ t)
    (two (atom_text i.«module» ++ 44 ∷ [] ++ atom_text i.function) (decimal i.arity) (125 ∷ [])
    ∙ two (atom_text i.«module») (atom_text i.function) (44 ∷ (decimal i.arity ++ 125 ∷ [])))

are_import_parts : (i : Import) → IsImport i → AreParts (import_parts i)
unfolding import_parts
are_import_parts i is = (atom_part i.function, (number_part i.arity is.arity, tt))

pub import_part : (i : Import) → IsImport i → IsPart (import_text i)
import_part i is =
    subst IsPart (sym (import_is i)) (tuple_part (codes "extfunc" ∷ atom_text i.«module» ∷ import_parts i) (word_part (codes "extfunc") extfunc_word, (atom_part i.«module», are_import_parts i is)))

pub import_again : (i : Import) → IsImport i → import_of_text (import_text i) ≡ Some i
unfolding import_of_text import_parts
import_again i is =
    ap import_of_text (import_is i)
    ∙ rw (tuple_headed (codes "extfunc") (atom_text i.«module») (import_parts i) extfunc_word (atom_part i.«module») (are_import_parts i is), atom_whole i.«module» is.«module», atom_whole i.function is.function, number_whole i.arity is.arity) refl

pub native_again : (n : ℕ) (i : Import) → IsAtomText i.function → i.«module» ≡ codes "erlang" → i.arity ≡ n → native_of n (atom_text i.function) ≡ Some i
unfolding native_of
native_again n i is m a =
    rw (atom_whole i.function is)
    (ap (λ (text : List ℕ). Some (record { «module» = text; function = i.function; arity = n })) (sym m)
    ∙ ap (λ (count : ℕ). Some (record { «module» = i.«module»; function = i.function; arity = count })) (sym a))
