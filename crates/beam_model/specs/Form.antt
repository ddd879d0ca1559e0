-- The IFF form of a BEAM file: `FOR1`, a size, `BEAM`, and chunks in any order.
use Rattle.std.specs.Prelude.{ℕ, zero, suc, ◌+◌, ◌-◌, ◌*◌, ◌/◌, Bool, ◌&&◌, ◌||◌, ◌==◌, nat_eq, nat_lt, if◌then◌else◌, List, [], ◌∷◌, ◌++◌, length, take, drop, codes, replicate, Option, Some, None, Result, Ok, Err}
use Rattle.std.specs.Str.{bytes_eq}
use Rattle.std.specs.List.{list_all, starts_with, zip}
use Rattle.byteorder.specs.Endian.{big_number, big_bytes}
pub use Rattle.beam_model.specs.Reading.{◌>>=◌}

-- the contents of the chunks that are read: AtU8, Code, ImpT, ExpT and LitT
pub record Form : Type 0 where
  pub atoms : Option (List ℕ)
  pub code : Option (List ℕ)
  pub imports : Option (List ℕ)
  pub exports : Option (List ℕ)
  pub literals : Option (List ℕ)

-- a form without chunks
abbrev pub empty_form : Form
empty_form = record { atoms = None; code = None; imports = None; exports = None; literals = None }

-- why bytes are no form
pub data FormFault : Type 0 where
  not_form : FormFault
  truncated : FormFault
  compressed_file : FormFault
  duplicate_chunk : FormFault

-- ---- reading

-- the bytes and the name agree, as far as both go
abbrev pub agree : List ℕ → List ℕ → Bool
agree bytes name = list_all (λ p. p.0 == p.1) (zip bytes name)

-- the size that stands after a name: of the form, or of a chunk
abbrev pub size_at : List ℕ → ℕ
size_at bytes = big_number 4 (drop 4 bytes)

-- where the form of a file ends, after its name, its size and that many bytes
abbrev pub form_end : List ℕ → ℕ
form_end bytes = 8 + size_at bytes

-- the bytes after the type of the form, up to the form's end; bytes after it are ignored
unfoldable pub content_at : List ℕ → Result (List ℕ) FormFault
content_at bytes =
    if starts_with nat_eq bytes (0x1F ∷ 0x8B ∷ []) then Err compressed_file
    else (if agree bytes (codes "FOR1") && agree (drop 8 bytes) (codes "BEAM") then
    (if nat_lt (length bytes) 12 then Err truncated
    else (if nat_lt (size_at bytes) 4 || nat_lt (length bytes) (8 + size_at bytes) then Err truncated
    else Ok (take (size_at bytes - 4) (drop 12 bytes))))
    else Err not_form)

-- a chunk: its name of four bytes, and its content
pub record Chunk : Type 0 where
  pub name : List ℕ
  pub content : List ℕ

-- the size with its padding, a multiple of 4
abbrev pub padded : ℕ → ℕ
padded size = (size + 3) / 4 * 4

-- the chunk at the front and the bytes after its padding, which the end of the form may cut short
unfoldable pub chunk_at : List ℕ → Result (Chunk × List ℕ) FormFault
chunk_at bytes =
    if nat_lt (length bytes) 8 then Err truncated
    else (if nat_lt (length bytes) (8 + size_at bytes) then Err truncated
    else Ok (record { name = take 4 bytes; content = take (size_at bytes) (drop 8 bytes) }, drop (padded (size_at bytes)) (drop 8 bytes)))

-- the content of a chunk, where no chunk of that name came before
abbrev pub once : Option (List ℕ) → List ℕ → Result (Option (List ℕ)) FormFault
once None content = Ok (Some content)
once (Some earlier) content = Err duplicate_chunk

-- the form with one more chunk; one of another name is ignored
unfoldable pub with_chunk : Form → Chunk → Result Form FormFault
with_chunk form chunk =
    if bytes_eq chunk.name (codes "AtU8") then (once form.atoms chunk.content >>= λ c. Ok (record form { atoms = c }))
    else (if bytes_eq chunk.name (codes "Code") then (once form.code chunk.content >>= λ c. Ok (record form { code = c }))
    else (if bytes_eq chunk.name (codes "ImpT") then (once form.imports chunk.content >>= λ c. Ok (record form { imports = c }))
    else (if bytes_eq chunk.name (codes "ExpT") then (once form.exports chunk.content >>= λ c. Ok (record form { exports = c }))
    else (if bytes_eq chunk.name (codes "LitT") then (once form.literals chunk.content >>= λ c. Ok (record form { literals = c }))
    else Ok form))))

-- the form with all chunks of the bytes, of which there are at most this many
unfoldable pub with_chunks : ℕ → Form → List ℕ → Result Form FormFault
with_chunks limit form [] = Ok form
with_chunks zero form (b ∷ bytes) = Err truncated
with_chunks (suc limit) form (b ∷ bytes) = do
  front ← chunk_at (b ∷ bytes)
  more ← with_chunk form front.0
  with_chunks limit more front.1

-- the form that the bytes of a file spell, or the first fault; a chunk has at least one byte
unfoldable pub form_at : List ℕ → Result Form FormFault
form_at bytes = do
  content ← content_at bytes
  with_chunks (length content) empty_form content

-- ---- writing

-- zeros up to a multiple of 4
abbrev pub padding : ℕ → List ℕ
padding size = replicate (padded size - size) 0

-- a chunk with its padding, if it is there
abbrev pub chunk_bytes : List ℕ → Option (List ℕ) → List ℕ
chunk_bytes name None = []
chunk_bytes name (Some content) = name ++ big_bytes 4 (length content) ++ content ++ padding (length content)

-- the chunks of a form, those that are there
abbrev pub form_chunks : Form → List ℕ
form_chunks form =
    chunk_bytes (codes "AtU8") form.atoms ++ (chunk_bytes (codes "Code") form.code ++ (chunk_bytes (codes "ImpT") form.imports ++ (chunk_bytes (codes "ExpT") form.exports ++ chunk_bytes (codes "LitT") form.literals)))

-- the bytes after the form's size: its type and its chunks
abbrev pub form_body : Form → List ℕ
form_body form = codes "BEAM" ++ form_chunks form

-- the file that is written for a form
abbrev pub form_bytes : Form → List ℕ
form_bytes form = codes "FOR1" ++ big_bytes 4 (length (form_body form)) ++ form_body form
