-- Slices of a file as the chunks of its form.
use Rattle.std.specs.Prelude.{◌≡◌, ℕ, Result, Ok, Err}
use Rattle.std.specs.Option.{option_copied}
use Rattle.beam_model.specs.Prelude.{FormFault, not_form, compressed_file, duplicate_chunk, Form}
use Rattle.beam_model.specs.Form.{truncated}
use Rattle.beam_iff.specs.declared.form.Chunks.{Chunks}
use Rattle.beam_iff.specs.declared.error.IffError.{IffError}
use Rattle.beam_iff.specs.declared.error.IffError.TheVariants as errors

-- the form whose chunks these slices are
abbrev pub form_of : Chunks → Form
form_of c = record { atoms = option_copied c.atoms; code = option_copied c.code; imports = option_copied c.imports; exports = option_copied c.exports; literals = option_copied c.literals }

-- reading ends with the fault of this error
abbrev pub Fails : {Y : Type 0} → IffError → Result Y FormFault → Type 0
Fails errors.NotForm read = read ≡ Err not_form
Fails errors.Truncated read = read ≡ Err truncated
Fails errors.CompressedFile read = read ≡ Err compressed_file
Fails errors.DuplicateChunk read = read ≡ Err duplicate_chunk
Fails errors.NoMemory read = ⊥

-- the view of the result is the result of reading
abbrev pub Gives : {X Y : Type 0} → (X → Y) → Result X IffError → Result Y FormFault → Type 0
Gives view (Ok x) read = read ≡ Ok (view x)
Gives view (Err e) read = Fails e read

-- the numbers of the errors
abbrev pub number_of : IffError → ℕ
number_of errors.NotForm = 1
number_of errors.Truncated = 2
number_of errors.CompressedFile = 3
number_of errors.DuplicateChunk = 4
number_of errors.NoMemory = 5
