-- The texts of a term: which texts spell it, by cases on the term.
-- Source: Erlang Reference Manual, Data Types. The tokens (integers, atoms, strings, with the blanks after them) are those of TextReading.
use Rattle.std.specs.Prelude.{◌≡◌, ℕ, ◌⊎◌, List, [], ◌∷◌, Ok}
use Rattle.std.specs.Str.{chars}
use Rattle.beam_term.specs.Prelude.{TermValue, Terms, int_term, atom_term, reference_term, pid_term, nil_term, pair_term, tuple_term, no_terms, more_terms}
use Rattle.beam_model.specs.TextReading.{after_blanks, integer_at, atom_at, string_at, list_of_characters}

-- a statement of a text and of the rest of the text after its front
abbrev pub Front : Type 1
Front = List ℕ → List ℕ → Type 0

-- the front is this mark, with the blanks after it
abbrev pub Mark : ℕ → Front
Mark c text rest = (cs : List ℕ) × (text ≡ c ∷ cs) × (rest ≡ after_blanks cs)

-- the front is two fronts, one after another
abbrev pub Then : Front → Front → Front
Then P Q text rest = (middle : List ℕ) × P text middle × Q middle rest

-- a string, whose characters are the elements of the term
abbrev pub IsString : TermValue → Front
IsString t text rest = (quoted : List ℕ) × (bytes : List ℕ) × (text ≡ 34 ∷ quoted) × (string_at text ≡ Ok (bytes, rest)) × (t ≡ list_of_characters (chars bytes))

-- a bar, a tail, and the end of the list
abbrev pub Barred : Front → Front
Barred P = Then (Mark 124) (Then P (Mark 93))

abbrev mutual
  -- the front of the text spells the term
  pub IsText : TermValue → Front
  IsText (int_term z) text rest = integer_at text ≡ Ok (z, rest)
  IsText (atom_term name) text rest = atom_at text ≡ Ok (name, rest)
  IsText (reference_term node creation words) text rest = ⊥
  IsText (pid_term node id serial creation) text rest = ⊥
  IsText nil_term text rest = Then (Mark 91) (Mark 93) text rest ⊎ IsString nil_term text rest
  IsText (pair_term head tail) text rest = Then (Mark 91) (Then (IsText head) (IsTail tail)) text rest ⊎ IsString (pair_term head tail) text rest
  IsText (tuple_term items) text rest = Then (Mark 123) (AreItems items) text rest

  -- after an element of a list: its end, further elements, or a tail after a bar
  pub IsTail : TermValue → Front
  IsTail (int_term z) text rest = Barred (λ a b. integer_at a ≡ Ok (z, b)) text rest
  IsTail (atom_term name) text rest = Barred (λ a b. atom_at a ≡ Ok (name, b)) text rest
  IsTail (reference_term node creation words) text rest = ⊥
  IsTail (pid_term node id serial creation) text rest = ⊥
  IsTail nil_term text rest = Mark 93 text rest ⊎ Barred (λ a b. Then (Mark 91) (Mark 93) a b ⊎ IsString nil_term a b) text rest
  IsTail (pair_term head tail) text rest =
      Then (Mark 44) (Then (IsText head) (IsTail tail)) text rest
      ⊎ Barred (λ a b. Then (Mark 91) (Then (IsText head) (IsTail tail)) a b ⊎ IsString (pair_term head tail) a b) text rest
  IsTail (tuple_term items) text rest = Barred (λ a b. Then (Mark 123) (AreItems items) a b) text rest

  -- the elements of a tuple, and its end
  pub AreItems : Terms → Front
  AreItems no_terms text rest = Mark 125 text rest
  AreItems (more_terms x xs) text rest = Then (IsText x) (AreFurther xs) text rest

  pub AreFurther : Terms → Front
  AreFurther no_terms text rest = Mark 125 text rest
  AreFurther (more_terms x xs) text rest = Then (Mark 44) (Then (IsText x) (AreFurther xs)) text rest

-- the whole text spells the term, with blanks before it and after it
abbrev pub IsTextOf : List ℕ → TermValue → Type 0
IsTextOf text t = IsText t (after_blanks text) []
