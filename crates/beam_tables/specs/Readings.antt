-- The answers of this crate against the definitions of reading and writing.
use Rattle.std.specs.Prelude.{◌≡◌, ℕ, List, ◌++◌, Result, Ok, Err}
use Rattle.beam_model.specs.Prelude.{TableFault, missing_chunk, bad_table, compressed_literals, bad_literal}
use Rattle.beam_model.specs.Tables.{◌>>=◌}
use Rattle.beam_tables.specs.declared.error.TablesError.{TablesError}
use Rattle.beam_tables.specs.declared.error.TablesError.TheVariants as errors

-- the numbers of the errors
abbrev pub number_of : TablesError → ℕ
number_of errors.MissingChunk = 1
number_of errors.BadTable = 2
number_of errors.CompressedLiterals = 3
number_of errors.BadLiteral = 4
number_of errors.NoMemory = 5

-- reading has the fault that the error names, unless memory ran out
abbrev pub Fails : {Y : Type 0} → TablesError → Result Y TableFault → Type 0
Fails errors.MissingChunk read = read ≡ Err missing_chunk
Fails errors.BadTable read = read ≡ Err bad_table
Fails errors.CompressedLiterals read = read ≡ Err compressed_literals
Fails errors.BadLiteral read = read ≡ Err bad_literal
Fails errors.NoMemory read = Unit {0}

-- the view of the result is the result of reading
abbrev pub Gives : {X Y : Type 0} → (X → Y) → Result X TablesError → Result Y TableFault → Type 0
Gives view (Ok x) read = read ≡ Ok (view x)
Gives view (Err e) read = Fails e read

-- the output so far, and the bytes that are written after it
abbrev pub with_before : List ℕ → Result (List ℕ) TableFault → Result (List ℕ) TableFault
with_before old written = written >>= λ bytes. Ok (old ++ bytes)

-- the result, with old before and new after the call, is the result of writing
abbrev pub Adds : {X : Type 0} → List ℕ → List ℕ → Result X TablesError → Result (List ℕ) TableFault → Type 0
Adds old new (Ok x) written = with_before old written ≡ Ok new
Adds old new (Err e) written = Fails e written
