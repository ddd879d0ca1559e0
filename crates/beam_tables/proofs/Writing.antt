-- One round of a loop that writes the entries of a table.
use Rattle.std.proofs.Common.{◌≡◌, ℕ, suc, ◌+◌, ◌<◌, List, [], ◌∷◌, ◌++◌, length, drop, get_or, Result, Ok, Err, refl, sym, ap, ◌∙◌, append_assoc, arith, drop-cons, add-one, append-nil}
use Rattle.beam_model.specs.Prelude.{TableFault, missing_chunk, bad_table, compressed_literals, bad_literal, number_bytes, entries_bytes, table_bytes}
use Rattle.beam_model.specs.Tables.{◌>>=◌}
use Rattle.beam_tables.specs.declared.error.TablesError.{TablesError}
use Rattle.beam_tables.specs.declared.error.TablesError.TheVariants as errors
use Rattle.beam_tables.specs.Readings.{Fails, with_before}

abbrev done : {A : Type 0} → A → Result A TableFault
done x = Ok x

-- the count stands first
pub begins : {X : Type 0} (bytes_of : X → Result (List ℕ) TableFault) (xs : List X) (out : List ℕ)
    → with_before [] (number_bytes (length xs)) ≡ Ok out → with_before out (entries_bytes bytes_of xs) ≡ table_bytes bytes_of xs
unfolding table_bytes
begins bytes_of xs out e = behind (number_bytes (length xs)) (entries_bytes bytes_of xs) out e
  where
    behind : (count entries : Result (List ℕ) TableFault) (out : List ℕ) → with_before [] count ≡ Ok out → with_before out entries ≡ (count >>= λ c. entries >>= λ others. Ok (c ++ others))
    behind (Ok c) entries out e = ap (λ (o : List ℕ). with_before o entries) (let same : out ≡ c = cc in same)
    behind (Err d) entries out e = absurd cc

-- one entry more is written, and the rest after it
added : (front first others : Result (List ℕ) TableFault) (old new : List ℕ) → with_before old first ≡ Ok new
    → with_before old (first >>= λ f. others >>= λ o. Ok (f ++ o)) ≡ with_before new others
added front (Ok f) (Ok o) old new e = ap (λ (x : List ℕ). done x) (sym (append_assoc old f o) ∙ ap (λ (x : List ℕ). x ++ o) (let same : old ++ f ≡ new = cc in same))
added front (Ok f) (Err d) old new e = refl
added front (Err d) others old new e = absurd cc

pub goes_on : {X : Type 0} (bytes_of : X → Result (List ℕ) TableFault) (xs : List X) (x : X) (i : ℕ) (old new : List ℕ) (total : Result (List ℕ) TableFault)
    → i < length xs → x ≡ get_or xs i x → with_before old (bytes_of x) ≡ Ok new → with_before old (entries_bytes bytes_of (drop i xs)) ≡ total
    → with_before new (entries_bytes bytes_of (drop (i + 1) xs)) ≡ total
unfolding entries_bytes
goes_on {X = X} bytes_of xs x i old new total lt is e so_far =
    let left : drop i xs ≡ x ∷ drop (i + 1) xs = rw add-one (drop-cons xs i x lt ∙ ap (λ (y : X). y ∷ drop (suc i) xs) (sym is)) in
    let one : with_before old (entries_bytes bytes_of (x ∷ drop (i + 1) xs)) ≡ with_before new (entries_bytes bytes_of (drop (i + 1) xs)) = added (bytes_of x) (bytes_of x) (entries_bytes bytes_of (drop (i + 1) xs)) old new e in
    sym one ∙ ap (λ (ys : List X). with_before old (entries_bytes bytes_of ys)) (sym left) ∙ so_far

stops : {X : Type 0} (fault : TableFault) (bytes_of : X → Result (List ℕ) TableFault) (xs : List X) (x : X) (i : ℕ) (old : List ℕ) (total : Result (List ℕ) TableFault)
    → i < length xs → x ≡ get_or xs i x → bytes_of x ≡ Err fault → with_before old (entries_bytes bytes_of (drop i xs)) ≡ total → total ≡ Err fault
unfolding entries_bytes
stops {X = X} fault bytes_of xs x i old total lt is e so_far =
    let left : drop i xs ≡ x ∷ drop (suc i) xs = drop-cons xs i x lt ∙ ap (λ (y : X). y ∷ drop (suc i) xs) (sym is) in
    let one : with_before old (entries_bytes bytes_of (x ∷ drop (suc i) xs)) ≡ Err fault = rw e refl in
    sym so_far ∙ ap (λ (ys : List X). with_before old (entries_bytes bytes_of ys)) left ∙ one

pub ends : {X : Type 0} (error : TablesError) (bytes_of : X → Result (List ℕ) TableFault) (xs : List X) (x : X) (i : ℕ) (old : List ℕ) (total : Result (List ℕ) TableFault)
    → i < length xs → x ≡ get_or xs i x → Fails error (bytes_of x) → with_before old (entries_bytes bytes_of (drop i xs)) ≡ total → Fails error total
ends errors.MissingChunk bytes_of xs x i old total lt is h so_far = stops missing_chunk bytes_of xs x i old total lt is h so_far
ends errors.BadTable bytes_of xs x i old total lt is h so_far = stops bad_table bytes_of xs x i old total lt is h so_far
ends errors.CompressedLiterals bytes_of xs x i old total lt is h so_far = stops compressed_literals bytes_of xs x i old total lt is h so_far
ends errors.BadLiteral bytes_of xs x i old total lt is h so_far = stops bad_literal bytes_of xs x i old total lt is h so_far
ends errors.NoMemory bytes_of xs x i old total lt is h so_far = tt

pub is_done : {X : Type 0} (bytes_of : X → Result (List ℕ) TableFault) (xs : List X) (old : List ℕ) (total : Result (List ℕ) TableFault)
    → length xs ≡ 0 → with_before old (entries_bytes bytes_of xs) ≡ total → total ≡ Ok old
unfolding entries_bytes
is_done bytes_of [] old total none so_far = sym so_far ∙ ap (λ (x : List ℕ). done x) (append-nil old)
is_done bytes_of (x ∷ xs) old total none so_far = absurd (omega arith)
