-- One round of a loop over the entries of a table: the front and the rest give the result of the whole.
use Rattle.std.proofs.Common.{◌≡◌, ℕ, suc, ◌+◌, ◌-◌, ◌<◌, ◌≤◌, List, [], ◌∷◌, ◌++◌, Result, Ok, Err, refl, sym, ap, ◌∙◌, append_assoc, arith, append-nil}
use Rattle.beam_model.specs.Prelude.{TableFault, missing_chunk, bad_table, compressed_literals, bad_literal, entries_at}
use Rattle.beam_model.specs.Tables.{◌>>=◌}
use Rattle.beam_tables.specs.declared.error.TablesError.{TablesError}
use Rattle.beam_tables.specs.declared.error.TablesError.TheVariants as errors
use Rattle.beam_tables.specs.Readings.{Fails}

-- the entries so far, and then those of the rest
abbrev pub with_front : {X : Type 0} → List X → Result (List X) TableFault → Result (List X) TableFault
with_front front (Ok others) = Ok (front ++ others)
with_front front (Err e) = Err e

regroup : {X : Type 0} (front : List X) (x : X) (read : Result (List X) TableFault)
    → with_front front (read >>= λ others. Ok (x ∷ others)) ≡ with_front (front ++ x ∷ []) read
regroup front x (Ok others) = ap (λ xs. with_front [] (Ok xs)) (sym (append_assoc front (x ∷ []) others))
regroup front x (Err e) = refl

starts : {X : Type 0} (total : Result (List X) TableFault) → with_front [] total ≡ total
starts (Ok others) = refl
starts (Err e) = refl

pub begins : {X : Type 0} (entry : List ℕ → Result (X × List ℕ) TableFault) (count : ℕ) (bytes : List ℕ)
    → with_front [] (entries_at entry (count - 0) bytes) ≡ entries_at entry count bytes
begins entry count bytes =
    let k : count - 0 ≡ count = omega arith in
    rw k (starts (entries_at entry count bytes))

pub goes_on : {X : Type 0} (entry : List ℕ → Result (X × List ℕ) TableFault) (front : List X) (count i : ℕ) (bytes : List ℕ) (x : X) (behind : List ℕ) (total : Result (List X) TableFault)
    → i < count → entry bytes ≡ Ok (x, behind) → with_front front (entries_at entry (count - i) bytes) ≡ total
    → with_front (front ++ x ∷ []) (entries_at entry (count - (i + 1)) behind) ≡ total
unfolding entries_at
goes_on entry front count i bytes x behind total lt h so_far =
    let k : count - i ≡ suc (count - (i + 1)) = omega arith in
    let one : with_front front (entries_at entry (count - i) bytes) ≡ with_front (front ++ x ∷ []) (entries_at entry (count - (i + 1)) behind) = rw (k, h) (regroup front x (entries_at entry (count - (i + 1)) behind)) in
    sym one ∙ so_far

-- an entry has this fault, so the whole has
stops : {X : Type 0} (fault : TableFault) (entry : List ℕ → Result (X × List ℕ) TableFault) (front : List X) (count i : ℕ) (bytes : List ℕ) (total : Result (List X) TableFault)
    → i < count → entry bytes ≡ Err fault → with_front front (entries_at entry (count - i) bytes) ≡ total → total ≡ Err fault
unfolding entries_at
stops fault entry front count i bytes total lt h so_far =
    let k : count - i ≡ suc (count - (i + 1)) = omega arith in
    let one : with_front front (entries_at entry (count - i) bytes) ≡ Err fault = rw (k, h) refl in
    sym so_far ∙ one

pub ends : {X : Type 0} (error : TablesError) (entry : List ℕ → Result (X × List ℕ) TableFault) (front : List X) (count i : ℕ) (bytes : List ℕ) (total : Result (List X) TableFault)
    → i < count → Fails error (entry bytes) → with_front front (entries_at entry (count - i) bytes) ≡ total → Fails error total
ends errors.MissingChunk entry front count i bytes total lt h so_far = stops missing_chunk entry front count i bytes total lt h so_far
ends errors.BadTable entry front count i bytes total lt h so_far = stops bad_table entry front count i bytes total lt h so_far
ends errors.CompressedLiterals entry front count i bytes total lt h so_far = stops compressed_literals entry front count i bytes total lt h so_far
ends errors.BadLiteral entry front count i bytes total lt h so_far = stops bad_literal entry front count i bytes total lt h so_far
ends errors.NoMemory entry front count i bytes total lt h so_far = tt

pub is_done : {X : Type 0} (entry : List ℕ → Result (X × List ℕ) TableFault) (front : List X) (count i : ℕ) (bytes : List ℕ) (total : Result (List X) TableFault)
    → count ≤ i → with_front front (entries_at entry (count - i) bytes) ≡ total → total ≡ Ok front
unfolding entries_at
is_done entry front count i bytes total le so_far =
    let k : count - i ≡ 0 = omega arith in
    let one : with_front front (entries_at entry (count - i) bytes) ≡ Ok front = rw k (ap (λ xs. with_front [] (Ok xs)) (append-nil front)) in
    sym so_far ∙ one
