-- A file that is cut inside its form.
use Rattle.std.proofs.Common.{◌≡◌, ℕ, ◌<◌, List, take, refl, ap, Result, Ok, Err}
use Rattle.beam_model.specs.Prelude.{Listing, FormFault, form_at, form_end, cut_short, FileFault, form_fault, in_layer, listing_of_form, listing_of_file, Form}
use Rattle.beam_model.specs.Form.{truncated}
use Rattle.beam_model.specs.File.{◌>>=◌}

-- a file that spells a listing has a form
has_form : (r : Result Form FormFault) (k : Form → Result Listing FileFault) (l : Listing) → in_layer form_fault r >>= k ≡ Ok l → (form : Form) × (r ≡ Ok form)
has_form (Ok form) k l e = (form, refl)
has_form (Err f) k l e = cc

pub cut : (bytes : List ℕ) (l : Listing) (n : ℕ) → listing_of_file bytes ≡ Ok l → n < form_end bytes → listing_of_file (take n bytes) ≡ Err (form_fault truncated)
unfolding listing_of_file
cut bytes l n spells within =
    let of = has_form (form_at bytes) listing_of_form l spells in
    ap (λ r. in_layer form_fault r >>= listing_of_form) (cut_short bytes of.0 n of.1 within)
