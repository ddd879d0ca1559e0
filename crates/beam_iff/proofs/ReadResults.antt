-- From the answer of a reading to the form that bytes spell.
use Rattle.std.proofs.Common.{◌≡◌, ℕ, List, length, Result, Ok, Err, sym, subst, ◌∙◌, IfOk, MatchResult}
use Rattle.beam_lemmas.proofs.Steps.{bind_ok}
use Rattle.beam_model.specs.Prelude.{FormFault, empty_form, content_at, with_chunks, form_at, IsForm, Form}
use Rattle.beam_iff.specs.declared.form.Chunks.{Chunks}
use Rattle.beam_iff.specs.declared.error.IffError.{IffError}
use Rattle.beam_iff.specs.declared.error.IffError.TheVariants.{NotForm, Truncated, CompressedFile, DuplicateChunk, NoMemory}
use Rattle.beam_iff.specs.Chunks.{form_of, Fails, Gives}
use Rattle.beam_iff.proofs.EachChunk.{ok_is}
use Rattle.beam_iff.proofs.Forms.{form_told, form_read}

-- a reading that gives something has no fault
pub no_fault : {Y : Type 0} (e : IffError) (y : Y) → Fails e (Ok y) → ⊥
no_fault NotForm y f = absurd cc
no_fault Truncated y f = absurd cc
no_fault CompressedFile y f = absurd cc
no_fault DuplicateChunk y f = absurd cc
no_fault NoMemory y f = f

-- the chunks of the content are those of the form
pub given : (r : Result Chunks IffError) (bytes content : List ℕ) → content_at bytes ≡ Ok content → Gives form_of r (with_chunks (length content) empty_form content) → Gives form_of r (form_at bytes)
unfolding form_at
given r bytes content e g = rw e g

pub spelled : (r : Result Chunks IffError) (bytes : List ℕ) → Gives form_of r (form_at bytes) → IfOk r (λ c. IsForm (form_of c) bytes)
spelled (Ok c) bytes g = form_told bytes (form_of c) g
spelled (Err e) bytes g = tt

pub only : (r : Result Chunks IffError) (bytes : List ℕ) → Gives form_of r (form_at bytes) → (form : Form) → IsForm form bytes → MatchResult r (λ c. form_of c ≡ form) (λ _. ⊥)
only (Ok c) bytes g form is = ok_is (form_of c) form (sym g ∙ form_read bytes form is)
only (Err e) bytes g form is = no_fault e form (subst (λ (r : Result Form FormFault). Fails e r) (form_read bytes form is) g)

-- bytes without content are no form
pub refused : (bytes : List ℕ) (e : IffError) → Fails e (content_at bytes) → (form : Form) → IsForm form bytes → ⊥
unfolding form_at
refused bytes e f form is =
    let c = bind_ok (content_at bytes) (λ (content : List ℕ). with_chunks (length content) empty_form content) form (form_read bytes form is) in
    no_fault e c.0 (subst (λ (r : Result (List ℕ) FormFault). Fails e r) c.1 f)
