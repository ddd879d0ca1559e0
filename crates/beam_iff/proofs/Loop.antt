-- One round of the loop over the chunks: the rest has the result of the whole.
use Rattle.std.proofs.Common.{◌≡◌, ℕ, zero, suc, ◌<◌, ◌≤◌, List, [], ◌∷◌, length, Result, Ok, Err, refl, sym, ◌∙◌, arith}
use Rattle.beam_model.specs.Prelude.{FormFault, Chunk, chunk_at, with_chunk, with_chunks, not_form, compressed_file, duplicate_chunk, chunk_takes, Form}
use Rattle.beam_model.specs.Form.{truncated}
use Rattle.beam_iff.specs.declared.error.IffError.{IffError}
use Rattle.beam_iff.specs.declared.error.IffError.TheVariants as errors
use Rattle.beam_iff.specs.Chunks.{Fails}

-- the bytes are no chunk
cut_short : (fault : FormFault) (limit : ℕ) (form : Form) (bytes : List ℕ) (total : Result Form FormFault)
    → chunk_at bytes ≡ Err fault → 0 < length bytes → length bytes ≤ limit → with_chunks limit form bytes ≡ total → total ≡ Err fault
unfolding with_chunks
cut_short fault limit form [] total e some le h = absurd (omega arith)
cut_short fault zero form (b ∷ bytes) total e some le h = absurd (omega arith)
cut_short fault (suc limit) form (b ∷ bytes) total e some le h =
    let one : with_chunks (suc limit) form (b ∷ bytes) ≡ Err fault = rw e refl in
    sym h ∙ one

-- the chunk can't be added
refused : (fault : FormFault) (limit : ℕ) (form : Form) (bytes rest : List ℕ) (chunk : Chunk) (total : Result Form FormFault)
    → chunk_at bytes ≡ Ok (chunk, rest) → with_chunk form chunk ≡ Err fault → length bytes ≤ limit → with_chunks limit form bytes ≡ total → total ≡ Err fault
unfolding with_chunks
refused fault limit form [] rest chunk total e w le h = absurd (omega (arith, chunk_takes [] rest chunk e))
refused fault zero form (b ∷ bytes) rest chunk total e w le h = absurd (omega arith)
refused fault (suc limit) form (b ∷ bytes) rest chunk total e w le h =
    let one : with_chunks (suc limit) form (b ∷ bytes) ≡ Err fault = rw (e, w) refl in
    sym h ∙ one

-- an error tells the same fault of two readings
tells : {X Y : Type 0} (error : IffError) (x : Result X FormFault) (y : Result Y FormFault) → ((fault : FormFault) → x ≡ Err fault → y ≡ Err fault) → Fails error x → Fails error y
tells errors.NotForm x y same h = same not_form h
tells errors.Truncated x y same h = same truncated h
tells errors.CompressedFile x y same h = same compressed_file h
tells errors.DuplicateChunk x y same h = same duplicate_chunk h
tells errors.NoMemory x y same h = h

pub ends_at_chunk : (error : IffError) (limit : ℕ) (form : Form) (bytes : List ℕ) (total : Result Form FormFault)
    → Fails error (chunk_at bytes) → 0 < length bytes → length bytes ≤ limit → with_chunks limit form bytes ≡ total → Fails error total
ends_at_chunk error limit form bytes total fails some le h = tells error (chunk_at bytes) total (λ fault e. cut_short fault limit form bytes total e some le h) fails

pub ends_in_chunk : (error : IffError) (limit : ℕ) (form : Form) (bytes rest : List ℕ) (chunk : Chunk) (total : Result Form FormFault)
    → chunk_at bytes ≡ Ok (chunk, rest) → Fails error (with_chunk form chunk) → length bytes ≤ limit → with_chunks limit form bytes ≡ total → Fails error total
ends_in_chunk error limit form bytes rest chunk total e fails le h = tells error (with_chunk form chunk) total (λ fault w. refused fault limit form bytes rest chunk total e w le h) fails
