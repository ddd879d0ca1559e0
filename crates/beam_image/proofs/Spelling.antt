-- The form of a file that spells a listing: its code chunk is the one that is kept, and with it the copies of the others make the form.
use Rattle.std.proofs.Common.{◌≡◌, ℕ, List, Some, Result, Ok, Err, sym, ap, subst, ◌∙◌}
use Rattle.beam_lemmas.proofs.Steps.{bind_ok}
use Rattle.beam_model.specs.File.{◌>>=◌}
use Rattle.beam_model.specs.Prelude.{FormFault, Form, form_at, form_fault, in_layer, Parts, parts_of_form, Listing, listing_of_form, listing_of_file}
use Rattle.beam_iff.specs.declared.error.IffError.{IffError}
use Rattle.beam_iff.specs.declared.error.IffError.TheVariants as errors
use Rattle.beam_iff.specs.Chunks.{Fails}
use Rattle.beam_disasm.proofs.Files.{layer_is, parts_told}
use Rattle.beam_disasm.specs.FileParts.{parts_of_file}
use Rattle.beam_image.specs.Prelude.{with_code, without_code}

-- a file whose form is read spells the listing of the form
pub file_of_form : (bytes : List ℕ) (form : Form) (l : Listing) → form_at bytes ≡ Ok form → listing_of_form form ≡ Ok l → listing_of_file bytes ≡ Ok l
unfolding listing_of_file
file_of_form bytes form l read spells = rw read spells

-- a file that spells a listing has a form, which spells it
form_of_file : (bytes : List ℕ) (l : Listing) → listing_of_file bytes ≡ Ok l → (form : Form) × (form_at bytes ≡ Ok form) × (listing_of_form form ≡ Ok l)
unfolding listing_of_file
form_of_file bytes l spelled =
    let f = bind_ok (in_layer form_fault (form_at bytes)) (λ (form : Form). listing_of_form form) l spelled in
    (f.0, layer_is form_fault (form_at bytes) f.0 f.1, f.2)

abbrev taken : Form → Result Form FormFault
taken form = Ok form

no_fault : (e : IffError) (read : Result Form FormFault) (form : Form) → read ≡ Ok form → Fails e read → ⊥
no_fault errors.NotForm read form told fails = let both = sym told ∙ fails in absurd cc
no_fault errors.Truncated read form told fails = let both = sym told ∙ fails in absurd cc
no_fault errors.CompressedFile read form told fails = let both = sym told ∙ fails in absurd cc
no_fault errors.DuplicateChunk read form told fails = let both = sym told ∙ fails in absurd cc
no_fault errors.NoMemory read form told fails = fails

-- so reading its form doesn't fail
pub form_is_read : (bytes : List ℕ) (l : Listing) (e : IffError) → listing_of_file bytes ≡ Ok l → Fails e (form_at bytes) → ⊥
form_is_read bytes l e spelled fails =
    let f = form_of_file bytes l spelled in
    no_fault e (form_at bytes) f.0 f.1 fails

ok_form : (x y : Form) → taken x ≡ taken y → x ≡ y
ok_form x y e = cc (e)

-- the code chunk of the form is that of the file's parts
code_stands : (bytes : List ℕ) (form : Form) (p : Parts) → form_at bytes ≡ Ok form → parts_of_file bytes ≡ Ok p → form.code ≡ Some p.code
unfolding parts_of_file
code_stands bytes form p read parts =
    let told : parts_of_form form ≡ Ok p = subst (λ r. r ≡ Ok p) (ap (λ r. in_layer form_fault r >>= λ f. parts_of_form f) read) parts in
    (parts_told form p told).1

-- put in place of itself, the code chunk leaves the form as it is
pub form_spells : (bytes : List ℕ) (form : Form) (l : Listing) (p : Parts) → form_at bytes ≡ Ok form → listing_of_file bytes ≡ Ok l → parts_of_file bytes ≡ Ok p
    → listing_of_form (with_code p.code (without_code form)) ≡ Ok l
form_spells bytes form l p read spelled parts =
    let f = form_of_file bytes l spelled in
    let same : f.0 ≡ form = ok_form f.0 form (sym f.1 ∙ read) in
    let again : with_code p.code (without_code form) ≡ form = ap (λ code. record form { code = code }) (sym (code_stands bytes form p read parts)) in
    ap listing_of_form (again ∙ sym same) ∙ f.2
