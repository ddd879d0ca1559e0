-- A text of forms, each ended by a full stop: its comments, its forms, and the elements of what stands in brackets, all
-- of them texts (Erlang Reference Manual, Modules; the compiler's .S files).
use Rattle.std.specs.Prelude.{ℕ, zero, suc, ◌+◌, Bool, true, false, List, [], ◌∷◌, ◌++◌, length, take, drop, ◌==◌, ◌&&◌, ◌||◌, Option, Some, None, if◌then◌else◌}
use Rattle.beam_model.specs.declared.lex_state.LexState.{LexState}
use Rattle.beam_model.specs.declared.lex_state.LexState.TheVariants as inside
use Rattle.beam_model.specs.TextReading.{after_blanks}

infixl 10 ◌>>=◌
-- nothing, or what the next step makes of the value
abbrev pub ◌>>=◌ : {A B : Type 0} → Option A → (A → Option B) → Option B
None >>= f = None
(Some x) >>= f = f x

-- ---- quotes and comments

-- what the byte after this one stands in
abbrev pub inside_after : LexState → ℕ → LexState
inside_after inside.Nothing c = if c == 37 then inside.Comment else if c == 34 || c == 39 then inside.Quotes c else inside.Nothing
inside_after (inside.Quotes quote) c = if c == quote then inside.Nothing else if c == 92 then inside.Escape quote else inside.Quotes quote
inside_after (inside.Escape quote) c = inside.Quotes quote
inside_after inside.Comment c = if c == 10 then inside.Nothing else inside.Comment

abbrev pub is_comment : LexState → Bool
is_comment inside.Comment = true
is_comment _ = false

abbrev pub is_outside : LexState → Bool
is_outside inside.Nothing = true
is_outside _ = false

-- blanks in the place of comments, up to their line ends
unfoldable pub uncommented_from : LexState → List ℕ → List ℕ
uncommented_from stands [] = []
uncommented_from stands (c ∷ cs) = (if is_comment (inside_after stands c) then 32 else c) ∷ uncommented_from (inside_after stands c) cs

abbrev pub uncommented : List ℕ → List ℕ
uncommented = uncommented_from inside.Nothing

-- ---- brackets

abbrev pub is_closing : ℕ → Bool
is_closing c = c == 41 || c == 93 || c == 125

abbrev pub closed : ℕ → List ℕ → Option (List ℕ)
closed c [] = None
closed c (o ∷ outer) = if c == o then Some outer else None

-- The brackets that are open after a byte, each by its closing bracket, the innermost first; none where the byte closes a bracket
-- that isn't the innermost open one.
abbrev pub open_after : LexState → ℕ → List ℕ → Option (List ℕ)
open_after inside.Nothing c brackets =
    if c == 40 then Some (41 ∷ brackets)
    else if c == 91 then Some (93 ∷ brackets)
    else if c == 123 then Some (125 ∷ brackets)
    else if is_closing c then closed c brackets
    else Some brackets
open_after _ c brackets = Some brackets

-- whether a mark, or a bracket that closes none of the text's own, stands outside of quotes and brackets
abbrev pub is_stop : ℕ → LexState → List ℕ → ℕ → Bool
is_stop mark stands brackets c = is_outside stands && (length brackets == 0 && (c == mark || is_closing c))

-- n more than the number of bytes before the first stop
unfoldable pub stop_from : ℕ → LexState → List ℕ → ℕ → List ℕ → Option ℕ
stop_from mark stands brackets n [] = None
stop_from mark stands brackets n (c ∷ cs) =
    if is_stop mark stands brackets c then Some n
    else (do
      inner ← open_after stands c brackets
      stop_from mark (inside_after stands c) inner (n + 1) cs)

-- how many bytes stand before the first mark of this kind outside of quotes and brackets
abbrev pub stop_in : ℕ → List ℕ → Option ℕ
stop_in mark = stop_from mark inside.Nothing [] 0

-- ---- elements

-- the value, where no text stands after it
abbrev pub alone : {A : Type 0} → A → List ℕ → Option A
alone x [] = Some x
alone x (c ∷ cs) = None

-- after an element: the end of the bracket, or further elements
abbrev pub elements_after : (List ℕ → Option (List (List ℕ))) → ℕ → List (List ℕ) → List ℕ → Option (List (List ℕ))
elements_after more close elements [] = None
elements_after more close elements (c ∷ cs) =
    if c == 44 then more (after_blanks cs)
    else if c == close then alone elements (after_blanks cs)
    else None

-- one element, which isn't empty, and the elements after it; `more` takes the elements so far and the text after them
abbrev pub element_by : (List (List ℕ) → List ℕ → Option (List (List ℕ))) → ℕ → List (List ℕ) → List ℕ → Option (List (List ℕ))
element_by more close elements text = do
  size ← stop_in 44 text
  if size == 0 then None else elements_after (more (elements ++ take size text ∷ [])) close (elements ++ take size text ∷ []) (drop size text)

-- These elements, and then the elements of the text up to the end of the bracket, which is the end of the text; at most n, the
-- bytes of the text.
unfoldable pub elements_from : ℕ → ℕ → List (List ℕ) → List ℕ → Option (List (List ℕ))
elements_from zero close elements text = None
elements_from (suc n) close elements text = element_by (elements_from n close) close elements text

-- the elements after an opening bracket
unfoldable pub elements_within : ℕ → List ℕ → Option (List (List ℕ))
elements_within close [] = None
elements_within close (c ∷ cs) = if c == close then alone [] (after_blanks cs) else elements_from (length (c ∷ cs)) close [] (c ∷ cs)

-- the elements of a text in these brackets
unfoldable pub bracketed_elements : ℕ → ℕ → List ℕ → Option (List (List ℕ))
bracketed_elements opening close [] = None
bracketed_elements opening close (c ∷ cs) = if c == opening then elements_within close (after_blanks cs) else None

-- `{..}`
abbrev pub tuple_parts : List ℕ → Option (List (List ℕ))
tuple_parts = bracketed_elements 123 125

-- `[..]`
abbrev pub list_parts : List ℕ → Option (List (List ℕ))
list_parts = bracketed_elements 91 93
