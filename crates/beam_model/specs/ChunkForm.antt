-- Which bytes spell which chunks, by what stands where: the IFF form of a BEAM file (the BEAM file format; EA IFF 85).
use Rattle.std.specs.Prelude.{◌≡◌, ◌⊎◌, ℕ, ◌+◌, ◌<◌, List, [], ◌∷◌, ◌++◌, length, map, codes}
use Rattle.std.specs.Str.{bytes_eq}
use Rattle.std.specs.Option.{option_to_list}
use Rattle.std.specs.List.{filter}
use Rattle.byteorder.specs.Endian.{big_number}
use Rattle.beam_model.specs.Form.{Form, Chunk, padded}

-- a number in four bytes, the highest first
pub record IsWord (n : ℕ) (bytes : List ℕ) : Type 0 where
  pub wide : length bytes ≡ 4
  pub value : n ≡ big_number 4 bytes

-- a chunk: its name of four bytes, its size, and its content
pub record IsChunk (chunk : Chunk) (bytes : List ℕ) : Type 0 where
  pub size : List ℕ
  pub parts : bytes ≡ chunk.name ++ (size ++ chunk.content)
  pub named : length chunk.name ≡ 4
  pub is_size : IsWord (length chunk.content) size

-- bytes of any values, as many as the padded size has beyond the size; fewer only where nothing stands after them
abbrev pub IsPadding : ℕ → List ℕ → List ℕ → Type 0
IsPadding size padding rest = (size + length padding ≡ padded size) ⊎ ((size + length padding < padded size) × (rest ≡ []))

-- chunks, one after the other, each with its padding
abbrev pub AreChunks : List Chunk → List ℕ → Type 0
AreChunks [] bytes = bytes ≡ []
AreChunks (chunk ∷ chunks) bytes =
    (front padding rest : List ℕ) × (bytes ≡ front ++ (padding ++ rest)) × IsChunk chunk front × IsPadding (length chunk.content) padding rest × AreChunks chunks rest

-- the contents of the chunks of a name, in their order
abbrev pub contents_of : List ℕ → List Chunk → List (List ℕ)
contents_of name chunks = map (λ (c : Chunk). c.content) (filter (λ c. bytes_eq c.name name) chunks)

-- the chunks that are read, each of them there at most once, in any order; others are ignored
pub record HasChunks (form : Form) (chunks : List Chunk) : Type 0 where
  pub atoms : contents_of (codes "AtU8") chunks ≡ option_to_list form.atoms
  pub code : contents_of (codes "Code") chunks ≡ option_to_list form.code
  pub imports : contents_of (codes "ImpT") chunks ≡ option_to_list form.imports
  pub exports : contents_of (codes "ExpT") chunks ≡ option_to_list form.exports
  pub literals : contents_of (codes "LitT") chunks ≡ option_to_list form.literals

-- `FOR1`, the size of what follows up to the form's end, `BEAM`, and chunks; bytes after the form's end are ignored
pub record IsForm (form : Form) (bytes : List ℕ) : Type 0 where
  pub size : List ℕ
  pub content : List ℕ
  pub after : List ℕ
  pub parts : bytes ≡ codes "FOR1" ++ (size ++ (codes "BEAM" ++ (content ++ after)))
  pub is_size : IsWord (4 + length content) size
  pub chunks : List Chunk
  pub are_chunks : AreChunks chunks content
  pub has_chunks : HasChunks form chunks
