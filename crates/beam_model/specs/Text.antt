-- Erlang text: how a term is written (Erlang Reference Manual, Data Types). A text is its bytes in UTF-8.
use Rattle.std.specs.Prelude.{ℕ, Bool, true, false, List, [], ◌∷◌, ◌++◌, ◌==◌, ◌&&◌, ◌||◌, nat_le, nat_lt, codes, if◌then◌else◌, reverse}
use Rattle.std.specs.Str.{bytes_eq}
use Rattle.std.specs.List.{list_all, list_any, flat_map}
use Rattle.std.specs.Fmt.{signed_decimal, digits, decimal}
use mathlib.Core.Bool.{not}
use Rattle.beam_term.specs.Prelude.{TermValue, Terms, int_term, atom_term, reference_term, pid_term, nil_term, pair_term, tuple_term, no_terms, more_terms}

-- a to z
abbrev pub is_lower : ℕ → Bool
is_lower c = nat_le 97 c && nat_le c 122

-- 0 to 9
abbrev pub is_digit : ℕ → Bool
is_digit c = nat_le 48 c && nat_le c 57

-- an ASCII letter, a digit, `_` or `@`
abbrev pub is_name : ℕ → Bool
is_name c = is_lower c || is_digit c || (nat_le 64 c && nat_le c 90) || c == 95

-- the words of the language, which are no atoms without quotes
abbrev pub reserved_words : List (List ℕ)
reserved_words =
    codes "after" ∷ codes "and" ∷ codes "andalso" ∷ codes "band" ∷ codes "begin" ∷ codes "bnot" ∷ codes "bor" ∷
    codes "bsl" ∷ codes "bsr" ∷ codes "bxor" ∷ codes "case" ∷ codes "catch" ∷ codes "cond" ∷ codes "div" ∷
    codes "else" ∷ codes "end" ∷ codes "fun" ∷ codes "if" ∷ codes "let" ∷ codes "maybe" ∷ codes "not" ∷
    codes "of" ∷ codes "or" ∷ codes "orelse" ∷ codes "receive" ∷ codes "rem" ∷ codes "try" ∷ codes "when" ∷
    codes "xor" ∷ []

unfoldable pub is_reserved : List ℕ → Bool
is_reserved text = list_any (λ w. bytes_eq w text) reserved_words

-- an atom that is written without quotes
abbrev pub is_unquoted : List ℕ → Bool
is_unquoted [] = false
is_unquoted (c ∷ cs) = is_lower c && not (is_reserved (c ∷ cs)) && list_all is_name cs

-- a byte between quotes: the quote, the backslash and the control characters are escaped
abbrev pub escaped : ℕ → List ℕ
escaped c =
    if c == 39 || c == 92 then 92 ∷ c ∷ []
    else if nat_lt c 32 || c == 127 then codes "\\x{" ++ digits 16 true c ++ codes "}"
    else c ∷ []

abbrev pub atom_text : List ℕ → List ℕ
atom_text text = if is_unquoted text then text else codes "'" ++ flat_map escaped text ++ codes "'"

abbrev pub pid_text : ℕ → ℕ → List ℕ
pid_text id serial = codes "<0." ++ decimal id ++ codes "." ++ decimal serial ++ codes ">"

abbrev pub word_text : ℕ → List ℕ
word_text word = codes "." ++ decimal word

-- the words from the last to the first
abbrev pub reference_text : List ℕ → List ℕ
reference_text words = codes "#Ref<0" ++ flat_map word_text (reverse words) ++ codes ">"

abbrev mutual
  -- the one text that is printed of a term
  pub text_of : TermValue → List ℕ
  text_of (int_term n) = signed_decimal n
  text_of (atom_term text) = atom_text text
  text_of (reference_term node creation words) = reference_text words
  text_of (pid_term node id serial creation) = pid_text id serial
  text_of nil_term = codes "[]"
  text_of (pair_term head tail) = codes "[" ++ text_of head ++ tail_text tail ++ codes "]"
  text_of (tuple_term items) = codes "{" ++ items_text [] items ++ codes "}"

  -- the text after the first element of a list
  pub tail_text : TermValue → List ℕ
  tail_text nil_term = []
  tail_text (pair_term head tail) = codes "," ++ text_of head ++ tail_text tail
  tail_text (int_term n) = codes "|" ++ signed_decimal n
  tail_text (atom_term text) = codes "|" ++ atom_text text
  tail_text (reference_term node creation words) = codes "|" ++ reference_text words
  tail_text (pid_term node id serial creation) = codes "|" ++ pid_text id serial
  tail_text (tuple_term items) = codes "|" ++ codes "{" ++ items_text [] items ++ codes "}"

  -- the elements of a tuple, the first after this text and each other one after a comma
  pub items_text : List ℕ → Terms → List ℕ
  items_text before no_terms = []
  items_text before (more_terms x xs) = before ++ text_of x ++ items_text (codes ",") xs

abbrev mutual
  -- neither a pid nor a reference stands within: texts of these can't be read
  pub HasText : TermValue → Type 0
  HasText (int_term n) = Unit {0}
  HasText (atom_term text) = Unit {0}
  HasText (reference_term node creation words) = ⊥
  HasText (pid_term node id serial creation) = ⊥
  HasText nil_term = Unit {0}
  HasText (pair_term head tail) = HasText head × HasText tail
  HasText (tuple_term items) = AllHaveText items

  pub AllHaveText : Terms → Type 0
  AllHaveText no_terms = Unit {0}
  AllHaveText (more_terms x xs) = HasText x × AllHaveText xs
