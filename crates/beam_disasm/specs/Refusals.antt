-- The errors of a file that can't be loaded: layers, numbers, names, and the faults that they stand for.
use Rattle.std.specs.Prelude.{◌≡◌, ℕ, Bool, true, false, List, codes, Result, Ok, Err}
use Rattle.beam_model.specs.Prelude.{Listing, FileFault, form_fault, table_fault, code_fault}
use Rattle.beam_model.specs.Form as form
use Rattle.beam_model.specs.Tables as table
use Rattle.beam_model.specs.CodeChunk as code
use Rattle.beam_iff.specs.declared.error.IffError.{IffError}
use Rattle.beam_iff.specs.declared.error.IffError.TheVariants as in_form
use Rattle.beam_iff.specs.Chunks.{number_of as form_number}
use Rattle.beam_tables.specs.declared.error.TablesError.{TablesError}
use Rattle.beam_tables.specs.declared.error.TablesError.TheVariants as in_tables
use Rattle.beam_tables.specs.Readings.{number_of as table_number}
use Rattle.beam_code.specs.declared.error.CodeError.{CodeError}
use Rattle.beam_code.specs.declared.error.CodeError.TheVariants as in_code
use Rattle.beam_code.specs.Prelude.{number_of as code_number}
use Rattle.beam_check.specs.declared.error.CheckError.{CheckError}
use Rattle.beam_check.specs.declared.error.CheckError.TheVariants as in_check
use Rattle.beam_check.specs.Fault.{StandsIn, number_of as check_number}
use Rattle.beam_disasm.specs.declared.error.FileError.{FileError}
use Rattle.beam_disasm.specs.declared.error.FileError.TheVariants.{Form, Tables, Code, Check}

abbrev pub layer_of : FileError → ℕ
layer_of (Form e) = 1
layer_of (Tables e) = 2
layer_of (Code e) = 3
layer_of (Check e) = 4

abbrev pub number_of : FileError → ℕ
number_of (Form e) = form_number e
number_of (Tables e) = table_number e
number_of (Code e) = code_number e
number_of (Check e) = check_number e

abbrev pub form_name : IffError → List ℕ
form_name in_form.NotForm = codes "NotForm"
form_name in_form.Truncated = codes "Truncated"
form_name in_form.CompressedFile = codes "CompressedFile"
form_name in_form.DuplicateChunk = codes "DuplicateChunk"
form_name in_form.NoMemory = codes "NoMemory"

abbrev pub table_name : TablesError → List ℕ
table_name in_tables.MissingChunk = codes "MissingChunk"
table_name in_tables.BadTable = codes "BadTable"
table_name in_tables.CompressedLiterals = codes "CompressedLiterals"
table_name in_tables.BadLiteral = codes "BadLiteral"
table_name in_tables.NoMemory = codes "NoMemory"

abbrev pub code_name : CodeError → List ℕ
code_name (in_code.UnsupportedOpcode n at) = codes "UnsupportedOpcode"
code_name (in_code.BadOperand at) = codes "BadOperand"
code_name in_code.Truncated = codes "Truncated"
code_name in_code.NoMemory = codes "NoMemory"

abbrev pub check_name : CheckError → List ℕ
check_name in_check.BadLabel = codes "BadLabel"
check_name in_check.BadHead = codes "BadHead"
check_name in_check.BadExport = codes "BadExport"
check_name in_check.UnknownBif = codes "UnknownBif"
check_name in_check.LimitExceeded = codes "LimitExceeded"
check_name in_check.FrameMismatch = codes "FrameMismatch"
check_name in_check.NoMemory = codes "NoMemory"

abbrev pub name_of : FileError → List ℕ
name_of (Form e) = form_name e
name_of (Tables e) = table_name e
name_of (Code e) = code_name e
name_of (Check e) = check_name e

-- whether an error is want of memory, in any layer
abbrev pub is_memory : FileError → Bool
is_memory (Form in_form.NoMemory) = true
is_memory (Tables in_tables.NoMemory) = true
is_memory (Code in_code.NoMemory) = true
is_memory (Check in_check.NoMemory) = true
is_memory _ = false

-- ---- faults

abbrev pub FormFails : {Y : Type 0} → IffError → Result Y FileFault → Type 0
FormFails in_form.NotForm read = read ≡ Err (form_fault form.not_form)
FormFails in_form.Truncated read = read ≡ Err (form_fault form.truncated)
FormFails in_form.CompressedFile read = read ≡ Err (form_fault form.compressed_file)
FormFails in_form.DuplicateChunk read = read ≡ Err (form_fault form.duplicate_chunk)
FormFails in_form.NoMemory read = ⊥

abbrev pub TablesFail : {Y : Type 0} → TablesError → Result Y FileFault → Type 0
TablesFail in_tables.MissingChunk read = read ≡ Err (table_fault table.missing_chunk)
TablesFail in_tables.BadTable read = read ≡ Err (table_fault table.bad_table)
TablesFail in_tables.CompressedLiterals read = read ≡ Err (table_fault table.compressed_literals)
TablesFail in_tables.BadLiteral read = read ≡ Err (table_fault table.bad_literal)
TablesFail in_tables.NoMemory read = Unit {0}

abbrev pub CodeFails : {Y : Type 0} → CodeError → Result Y FileFault → Type 0
CodeFails (in_code.UnsupportedOpcode n at) read = read ≡ Err (code_fault (code.unsupported_opcode n at))
CodeFails (in_code.BadOperand at) read = read ≡ Err (code_fault (code.bad_operand at))
CodeFails in_code.Truncated read = read ≡ Err (code_fault code.truncated)
CodeFails in_code.NoMemory read = Unit {0}

-- reading a file has the fault that the error names, unless memory ran out
abbrev pub Fails : {Y : Type 0} → FileError → Result Y FileFault → Type 0
Fails (Form e) read = FormFails e read
Fails (Tables e) read = TablesFail e read
Fails (Code e) read = CodeFails e read
Fails (Check e) read = ⊥

-- the view of the result is the result of reading
abbrev pub Gives : {X Y : Type 0} → (X → Y) → Result X FileError → Result Y FileFault → Type 0
Gives view (Ok x) read = read ≡ Ok (view x)
Gives view (Err e) read = Fails e read

-- a file with this result of reading is refused with this error: for the fault of reading, or where there is none, for the check's
abbrev pub Refuses : FileError → Result Listing FileFault → Type 0
Refuses (Check e) read = (l : Listing) × (read ≡ Ok l) × StandsIn e l
Refuses e read = Fails e read
