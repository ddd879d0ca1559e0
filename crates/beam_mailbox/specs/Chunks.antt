-- The messages of chunks, and where among them the save pointer is.
use Rattle.std.specs.Prelude.{◌≡◌, ◌<◌, ◌≤◌, ◌+◌, ℕ, List, [], ◌∷◌, ◌++◌, length, map, take, slice_index_or}
use Rattle.std.specs.List.{All}
use Rattle.beam_term.specs.Prelude.{TermValue, nil_term}

-- the messages at these indices
abbrev pub chosen : List TermValue → List ℕ → List TermValue
chosen ts is = map (λ i. slice_index_or ts i nil_term) is

-- the messages of chunks, one chunk's after another's
abbrev pub joined : List (List TermValue) → List TermValue
joined [] = []
joined (c ∷ cs) = c ++ joined cs

-- no chunk is empty
abbrev pub AreFilled : List (List TermValue) → Type 0
AreFilled cs = All (λ c. 0 < length c) cs

-- the messages of chunk k, or, past the chunks, the last messages
abbrev pub piece : List (List TermValue) → List TermValue → ℕ → List TermValue
piece cs last k = slice_index_or cs k last

-- the position, in all messages, that is `place` messages into chunk k, or, past the chunks, into the last messages
pub record IsAt (cs : List (List TermValue)) (last : List TermValue) (k place position : ℕ) : Type 0 where
  pub within : k ≤ length cs
  pub counted : position ≡ length (joined (take k cs)) + place
  pub in_chunk : k < length cs → place < length (piece cs last k)
  pub in_piece : place ≤ length (piece cs last k)
