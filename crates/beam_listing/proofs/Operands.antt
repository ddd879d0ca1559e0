-- Printed operands are read again.
use Rattle.std.proofs.Common.{◌≡◌, ℕ, ◌^◌, ◌<◌, ◌≤◌, true, ℤ, pos, List, [], ◌∷◌, ◌++◌, length, Some, refl, sym, ap, ◌∙◌, subst, append_assoc, append-nil, arith, codes}
use Rattle.std.specs.Fmt.{signed_decimal, decimal}
use Rattle.std.proofs.lemmas.Int.{ints}
use Rattle.std.proofs.lemmas.Str.{IsUtf8-from_is_utf8}
use Rattle.std.specs.Str.{is_utf8, chars}
use Rattle.beam_model.specs.declared.instruction.Argument.{Argument}
use Rattle.beam_model.specs.Prelude.{is_reserved, atom_text, text_of, HasText, after_blanks, integer_at, atom_at, term_at, tuple_parts, tagged, term_text, argument_text, whole_of, integer_of_text, atom_of_text, term_of, number_of_text, headed_of, part_of, plain_register, register_of_parts, register_of_text, label_of_text, term_of_part, term_source, nil_source, source_of_text}
use Rattle.beam_term.specs.Prelude.{IsAtomText, TermValue, int_term, atom_term, reference_term, pid_term, nil_term, pair_term, tuple_term, IsSmall, IsInRange, IsTerm}
use Rattle.beam_model.specs.declared.instruction.Argument.TheVariants as argument
use Rattle.beam_erltext.proofs.IntegerRoundTrip.{integer_again, lt_true}
use Rattle.beam_erltext.proofs.AtomRoundTrip.{atom_again}
use Rattle.beam_erltext.proofs.TermRoundTrip.{from_integer, from_atom, integer_begins, atom_begins, text_begins, term_again}
use Rattle.beam_listing.proofs.Traces.{brace, inner_append, inner_of, comma_inner, safe_integer, safe_atom, safe_term, in_brackets}
use Rattle.beam_listing.proofs.Elements.{IsPart, closed, parts_again}

-- ---- whole texts

pub integer_whole : (z : ℤ) → IsSmall z → integer_of_text (signed_decimal z) ≡ Some z
unfolding integer_of_text after_blanks
integer_whole z small = ap whole_of (ap integer_at (sym (append-nil (signed_decimal z))) ∙ integer_again z [] small tt)

small_word : (n : ℕ) → n < 2 ^ 32 → IsSmall (pos n)
small_word n lt = (omega (arith, ints), omega (arith, ints))

pub number_whole : (n : ℕ) → n < 2 ^ 32 → number_of_text (decimal n) ≡ Some n
unfolding number_of_text
number_whole n lt = rw (integer_whole (pos n) (small_word n lt), lt_true n (2 ^ 32) lt) refl

pub atom_whole : (name : List ℕ) → IsAtomText name → atom_of_text (atom_text name) ≡ Some name
unfolding atom_of_text after_blanks
atom_whole name lawful = ap whole_of (ap atom_at (sym (append-nil (atom_text name))) ∙ atom_again name [] lawful tt)

pub term_whole : (t : TermValue) → IsTerm t → HasText t → term_of (text_of t) ≡ Some t
unfolding term_of after_blanks
term_whole t lawful printed = ap whole_of (ap (term_at 4096) (sym (append-nil (text_of t))) ∙ term_again t 4096 [] lawful.in_range printed lawful.shallow tt)

-- ---- parts

pub integer_part : (z : ℤ) → IsSmall z → IsPart (signed_decimal z)
integer_part z small = record { safe = safe_integer z small; begins = from_integer (signed_decimal z) (integer_begins z small) }

pub number_part : (n : ℕ) → n < 2 ^ 32 → IsPart (decimal n)
number_part n lt = integer_part (pos n) (small_word n lt)

pub atom_part : (name : List ℕ) → IsPart (atom_text name)
atom_part name = record { safe = safe_atom name; begins = from_atom (atom_text name) (atom_begins name) }

pub term_part : (t : TermValue) → IsInRange t → HasText t → IsPart (text_of t)
term_part t r p = record { safe = safe_term t r p; begins = text_begins t r p }

-- a name that is written bare
pub record IsWord (w : List ℕ) : Type 0 where
  pub bare : atom_text w ≡ w
  pub lawful : IsAtomText w

pub word_whole : (w : List ℕ) → IsWord w → atom_of_text w ≡ Some w
word_whole w is = ap atom_of_text (sym is.bare) ∙ atom_whole w is.lawful

pub word_part : (w : List ℕ) → IsWord w → IsPart w
word_part w is = subst IsPart is.bare (atom_part w)

-- ---- a name and a value in braces

tagged_inside : List ℕ → List ℕ → List ℕ
tagged_inside w value = w ++ 44 ∷ [] ++ value

pub tagged_part : (w value : List ℕ) → IsPart w → IsPart value → IsPart (tagged w value)
unfolding tagged_inside
tagged_part w value first second = record {
  safe = in_brackets brace (tagged_inside w value) (inner_append (w ++ 44 ∷ []) value (inner_append w (44 ∷ []) (inner_of w first.safe) comma_inner) (inner_of value second.safe));
  begins = record { first = 123; others = tagged_inside w value ++ 125 ∷ []; parts = refl; high = omega arith; square = λ e. omega (arith, e); brace = λ e. omega (arith, e) };
}

tagged_parts : (w value : List ℕ) → tagged w value ≡ 123 ∷ closed brace [] (w ∷ value ∷ [])
tagged_parts w value = ap (λ (t : List ℕ). 123 ∷ t) (append_assoc (w ++ 44 ∷ []) value (125 ∷ []) ∙ append_assoc w (44 ∷ []) (value ++ 125 ∷ []))

pub tagged_headed : (w value : List ℕ) → IsWord w → IsPart value → headed_of (tagged w value) ≡ Some (w, value ∷ [])
unfolding headed_of
tagged_headed w value is part =
    let parts : tuple_parts (tagged w value) ≡ Some (w ∷ value ∷ []) = ap tuple_parts (tagged_parts w value) ∙ parts_again brace (w ∷ value ∷ []) (word_part w is, (part, tt)) in
    rw (parts, word_whole w is) refl

-- ---- registers, labels, numbers and terms

-- what the numbers and terms of an operand must be
abbrev pub IsReadArgument : Argument → Type 0
IsReadArgument (argument.Term t) = IsTerm t × HasText t
IsReadArgument (argument.X n) = n < 2 ^ 32
IsReadArgument (argument.Y n) = n < 2 ^ 32
IsReadArgument (argument.Label n) = n < 2 ^ 32
IsReadArgument (argument.Number n) = n < 2 ^ 32

-- a word that stands for itself
pub word : (w : List ℕ) → atom_text w ≡ w → is_utf8 w ≡ true → length (chars w) ≤ 255 → IsWord w
word w bare utf8 short = record { bare = bare; lawful = record { utf8 = IsUtf8-from_is_utf8 w utf8; short = short } }

pub x_word : IsWord (codes "x")
unfolding is_reserved is_utf8 chars lib.Utf8.encode
x_word = word (codes "x") refl refl (omega arith)

pub y_word : IsWord (codes "y")
unfolding is_reserved is_utf8 chars lib.Utf8.encode
y_word = word (codes "y") refl refl (omega arith)

pub f_word : IsWord (codes "f")
unfolding is_reserved is_utf8 chars lib.Utf8.encode
f_word = word (codes "f") refl refl (omega arith)

pub integer_word : IsWord (codes "integer")
unfolding is_reserved is_utf8 chars lib.Utf8.encode
integer_word = word (codes "integer") refl refl (omega arith)

pub atom_word : IsWord (codes "atom")
unfolding is_reserved is_utf8 chars lib.Utf8.encode
atom_word = word (codes "atom") refl refl (omega arith)

pub literal_word : IsWord (codes "literal")
unfolding is_reserved is_utf8 chars lib.Utf8.encode
literal_word = word (codes "literal") refl refl (omega arith)

pub nil_word : IsWord (codes "nil")
unfolding is_reserved is_utf8 chars lib.Utf8.encode
nil_word = word (codes "nil") refl refl (omega arith)

-- registers
pub x_again : (n : ℕ) → n < 2 ^ 32 → register_of_text (argument_text (argument.X n)) ≡ Some (argument.X n)
unfolding register_of_text register_of_parts plain_register
x_again n lt = rw (tagged_headed (codes "x") (decimal n) x_word (number_part n lt), number_whole n lt) refl

pub y_again : (n : ℕ) → n < 2 ^ 32 → register_of_text (argument_text (argument.Y n)) ≡ Some (argument.Y n)
unfolding register_of_text register_of_parts plain_register
y_again n lt = rw (tagged_headed (codes "y") (decimal n) y_word (number_part n lt), number_whole n lt) refl

-- labels
pub f_again : (n : ℕ) → n < 2 ^ 32 → label_of_text (argument_text (argument.Label n)) ≡ Some n
unfolding label_of_text part_of
f_again n lt = rw (tagged_headed (codes "f") (decimal n) f_word (number_part n lt), number_whole n lt) refl

-- sources
pub x_source : (n : ℕ) → n < 2 ^ 32 → source_of_text (argument_text (argument.X n)) ≡ Some (argument.X n)
unfolding source_of_text register_of_parts plain_register
x_source n lt = rw (tagged_headed (codes "x") (decimal n) x_word (number_part n lt), number_whole n lt) refl

pub y_source : (n : ℕ) → n < 2 ^ 32 → source_of_text (argument_text (argument.Y n)) ≡ Some (argument.Y n)
unfolding source_of_text register_of_parts plain_register
y_source n lt = rw (tagged_headed (codes "y") (decimal n) y_word (number_part n lt), number_whole n lt) refl

integer_source : (z : ℤ) → IsSmall z → source_of_text (term_text (int_term z)) ≡ Some (argument.Term (int_term z))
unfolding source_of_text term_source term_of_part
integer_source z small = rw (tagged_headed (codes "integer") (signed_decimal z) integer_word (integer_part z small), integer_whole z small) refl

atom_source : (name : List ℕ) → IsAtomText name → source_of_text (term_text (atom_term name)) ≡ Some (argument.Term (atom_term name))
unfolding source_of_text term_source term_of_part
atom_source name lawful = rw (tagged_headed (codes "atom") (atom_text name) atom_word (atom_part name), atom_whole name lawful) refl

literal_source : (t : TermValue) → IsTerm t → HasText t → source_of_text (tagged (codes "literal") (text_of t)) ≡ Some (argument.Term t)
unfolding source_of_text term_source term_of_part
literal_source t lawful printed = rw (tagged_headed (codes "literal") (text_of t) literal_word (term_part t lawful.in_range printed), term_whole t lawful printed) refl

nil_again : source_of_text (codes "nil") ≡ Some (argument.Term nil_term)
unfolding source_of_text nil_source
nil_again = rw (word_whole (codes "nil") nil_word) refl

pub term_source_again : (t : TermValue) → IsTerm t → HasText t → source_of_text (term_text t) ≡ Some (argument.Term t)
term_source_again (int_term z) lawful printed = integer_source z lawful.in_range
term_source_again (atom_term name) lawful printed = atom_source name lawful.in_range
term_source_again (reference_term node creation words) lawful printed = absurd printed
term_source_again (pid_term node id serial creation) lawful printed = absurd printed
term_source_again nil_term lawful printed = nil_again
term_source_again (pair_term h t) lawful printed = literal_source (pair_term h t) lawful printed
term_source_again (tuple_term items) lawful printed = literal_source (tuple_term items) lawful printed
