-- From the answer of a reading to the listing that a file spells.
use Rattle.std.proofs.Common.{◌≡◌, true, ℕ, List, Result, Ok, Err, refl, sym, subst, ◌∙◌, IfOk, MatchResult}
use Rattle.beam_model.specs.Prelude.{Listing, FileFault, listing_of_form, listing_of_file, IsFile}
use Rattle.beam_model.specs.Form as model
use Rattle.beam_iff.specs.declared.error.IffError.TheVariants as in_form
use Rattle.beam_tables.specs.declared.error.TablesError.TheVariants as in_tables
use Rattle.beam_code.specs.declared.error.CodeError.TheVariants as in_code
use Rattle.beam_disasm.specs.declared.error.FileError.{FileError}
use Rattle.beam_disasm.specs.declared.error.FileError.TheVariants.{Form, Tables, Code, Check}
use Rattle.beam_disasm.specs.Refusals.{is_memory, Fails, Gives}
use Rattle.beam_disasm.proofs.Files.{ok_is, file_told, file_read}

-- a reading that has a result has no fault, so an error is want of memory
pub only_memory : {Y : Type 0} (e : FileError) (y : Y) → Fails e (Ok y) → is_memory e ≡ true
only_memory (Form in_form.NotForm) y f = absurd cc
only_memory (Form in_form.Truncated) y f = absurd cc
only_memory (Form in_form.CompressedFile) y f = absurd cc
only_memory (Form in_form.DuplicateChunk) y f = absurd cc
only_memory (Form in_form.NoMemory) y f = refl
only_memory (Tables in_tables.MissingChunk) y f = absurd cc
only_memory (Tables in_tables.BadTable) y f = absurd cc
only_memory (Tables in_tables.CompressedLiterals) y f = absurd cc
only_memory (Tables in_tables.BadLiteral) y f = absurd cc
only_memory (Tables in_tables.NoMemory) y f = refl
only_memory (Code (in_code.UnsupportedOpcode n at)) y f = absurd cc
only_memory (Code (in_code.BadOperand at)) y f = absurd cc
only_memory (Code in_code.Truncated) y f = absurd cc
only_memory (Code in_code.NoMemory) y f = refl
only_memory (Check e) y f = absurd f

-- the listing of the form is that of the file
pub given : {X : Type 0} (view : X → Listing) (r : Result X FileError) (bytes : List ℕ) (form : model.Form) → model.form_at bytes ≡ Ok form
    → Gives view r (listing_of_form form) → Gives view r (listing_of_file bytes)
unfolding listing_of_file
given view r bytes form e g = rw e g

pub spelled : {X : Type 0} (view : X → Listing) (r : Result X FileError) (bytes : List ℕ) → Gives view r (listing_of_file bytes) → IfOk r (λ x. IsFile bytes (view x))
spelled view (Ok x) bytes g = file_told bytes (view x) g
spelled view (Err e) bytes g = tt

pub only : {X : Type 0} (view : X → Listing) (r : Result X FileError) (bytes : List ℕ) → Gives view r (listing_of_file bytes)
    → (l : Listing) → IsFile bytes l → MatchResult r (λ x. view x ≡ l) (λ e. is_memory e ≡ true)
only view (Ok x) bytes g l is = ok_is (view x) l (sym g ∙ file_read bytes l is)
only view (Err e) bytes g l is = only_memory e l (subst (λ (r : Result Listing FileFault). Fails e r) (file_read bytes l is) g)
