-- Texts with quotes and brackets, by what stands where: balanced texts, and the elements of a text in brackets
-- (Erlang Reference Manual, Data Types; the compiler's .S files).
use Rattle.std.specs.Prelude.{◌≡◌, ◌≢◌, ◌⊎◌, ℕ, ◌==◌, List, [], ◌∷◌, ◌++◌, IsTrue, IsFalse, ⊤}
use Rattle.std.specs.List.{list_all, list_any}
use Rattle.beam_model.specs.Prelude.{is_blank}

-- a text that begins with no blank
abbrev pub HasNoMargin : List ℕ → Type 0
HasNoMargin [] = ⊤
HasNoMargin (c ∷ cs) = IsFalse (is_blank c)

-- blanks, from nothing to any number of them
abbrev pub AreBlanks : List ℕ → Type 0
AreBlanks blanks = IsTrue (list_all is_blank blanks)

-- ---- quotes and brackets

-- the quote of strings, 34, or that of atoms, 39, also after a `$`
abbrev pub IsQuote : ℕ → Type 0
IsQuote c = (c ≡ 34) ⊎ (c ≡ 39)

-- the text between two quotes: bytes other than that quote and the backslash, 92, or a backslash and any one byte after it
pub data IsQuoted : ℕ → List ℕ → Type 0 where
  no_byte : (quote : ℕ) → IsQuoted quote []
  one_byte : (quote c : ℕ) (rest : List ℕ) → c ≢ quote → c ≢ 92 → IsQuoted quote rest → IsQuoted quote (c ∷ rest)
  escape : (quote c : ℕ) (rest : List ℕ) → IsQuoted quote rest → IsQuoted quote (92 ∷ c ∷ rest)

-- an opening bracket and its closing bracket: `(` and `)`, `[` and `]`, `{` and `}`
pub data ArePair : ℕ → ℕ → Type 0 where
  round_pair : ArePair 40 41
  square_pair : ArePair 91 93
  brace_pair : ArePair 123 125

-- a byte that is neither a quote nor a bracket, nor the `%` that begins a comment
abbrev pub IsPlain : ℕ → Type 0
IsPlain c = IsFalse (list_any (λ d. c == d) (34 ∷ 37 ∷ 39 ∷ 40 ∷ 41 ∷ 91 ∷ 93 ∷ 123 ∷ 125 ∷ []))

-- Each quote and bracket of the text is closed in it, and the mark doesn't stand outside of them: plain bytes, quoted pieces, pieces
-- in brackets, and comments, each with its line's end, 10 (a text whose comments became blanks has none).
pub data IsBalanced : ℕ → List ℕ → Type 0 where
  empty : (mark : ℕ) → IsBalanced mark []
  plain : (mark c : ℕ) (rest : List ℕ) → IsPlain c → c ≢ mark → IsBalanced mark rest → IsBalanced mark (c ∷ rest)
  quoted : (mark quote : ℕ) (inner rest : List ℕ) → IsQuote quote → IsQuoted quote inner → IsBalanced mark rest → IsBalanced mark (quote ∷ (inner ++ (quote ∷ rest)))
  bracketed : (mark opening close : ℕ) (inner rest : List ℕ) → ArePair opening close → IsBalanced close inner → IsBalanced mark rest
      → IsBalanced mark (opening ∷ (inner ++ (close ∷ rest)))
  commented : (mark : ℕ) (inner rest : List ℕ) → IsFalse (list_any (λ c. c == 10) inner) → IsBalanced mark rest → IsBalanced mark (37 ∷ (inner ++ (10 ∷ rest)))

-- ---- elements

-- an element: a text that isn't empty, begins with no blank, and has no comma, 44, outside of its quotes and brackets
pub record IsElement (element : List ℕ) : Type 0 where
  pub some : element ≢ []
  pub begins : HasNoMargin element
  pub balanced : IsBalanced 44 element

-- elements, with a comma and blanks between two of them, the closing bracket, and blanks
abbrev pub AreElements : ℕ → List (List ℕ) → List ℕ → Type 0
AreElements close [] text = (blanks : List ℕ) × (text ≡ close ∷ blanks) × AreBlanks blanks
AreElements close (e ∷ []) text = (blanks : List ℕ) × (text ≡ e ++ (close ∷ blanks)) × IsElement e × AreBlanks blanks
AreElements close (e ∷ f ∷ es) text =
    (blanks rest : List ℕ) × (text ≡ e ++ (44 ∷ (blanks ++ rest))) × IsElement e × AreBlanks blanks × AreElements close (f ∷ es) rest

-- the elements of a text in brackets: `{..}`, 123 and 125, or `[..]`, 91 and 93
pub record AreBracketed (opening close : ℕ) (elements : List (List ℕ)) (text : List ℕ) : Type 0 where
  pub blanks : List ℕ
  pub inner : List ℕ
  pub parts : text ≡ opening ∷ (blanks ++ inner)
  pub are_blanks : AreBlanks blanks
  pub are_elements : AreElements close elements inner

-- the elements of `[..]`
abbrev pub AreListed : List (List ℕ) → List ℕ → Type 0
AreListed elements text = AreBracketed 91 93 elements text

-- one text for each element, in their order
abbrev pub AreEach : {A : Type 0} → (A → List ℕ → Type 0) → List A → List (List ℕ) → Type 0
AreEach stands [] [] = ⊤
AreEach stands (x ∷ xs) (text ∷ texts) = stands x text × AreEach stands xs texts
AreEach stands _ _ = ⊥
