-- From the answer of a reading to the listing whose forms stand in the text.
use Rattle.std.proofs.Common.{◌≡◌, ℕ, List, Result, Ok, Err, refl, sym, ap, ◌∙◌, IfOk, MatchResult}
use Rattle.beam_model.specs.Prelude.{Listing, uncommented, syntax, unknown, listing_of_forms}
use Rattle.beam_listing.specs.declared.error.ListingError.{ListingError}
use Rattle.beam_listing.specs.declared.error.ListingError.TheVariants.{Syntax, UnknownForm, NoMemory}
use Rattle.beam_listing.specs.Prelude.{IsListingText}
use Rattle.beam_listing.proofs.FrontForms.{ok_is}
use Rattle.beam_listing.proofs.TextStanding.{text_told, text_read}

pub spelled : (r : Result Listing ListingError) (text shown : List ℕ) → shown ≡ uncommented text → IfOk r (λ l. listing_of_forms shown ≡ Ok l) → IfOk r (λ l. IsListingText text l)
spelled (Ok l) text shown e value = text_told text l (ap listing_of_forms (sym e) ∙ value)
spelled (Err d) text shown e value = tt

pub only : (r : Result Listing ListingError) (text shown : List ℕ) → shown ≡ uncommented text → IfOk r (λ l. listing_of_forms shown ≡ Ok l)
    → ((line : ℕ) → r ≡ Err (Syntax line) → listing_of_forms shown ≡ Err (syntax line))
    → ((line : ℕ) → r ≡ Err (UnknownForm line) → listing_of_forms shown ≡ Err (unknown line))
    → (l : Listing) → IsListingText text l → MatchResult r (λ m. m ≡ l) (λ d. d ≡ NoMemory)
only (Ok m) text shown e value s u l is = ok_is m l (sym value ∙ ap listing_of_forms e ∙ text_read text l is)
only (Err (Syntax line)) text shown e value s u l is = let both = sym (s line refl) ∙ ap listing_of_forms e ∙ text_read text l is in absurd cc (both)
only (Err (UnknownForm line)) text shown e value s u l is = let both = sym (u line refl) ∙ ap listing_of_forms e ∙ text_read text l is in absurd cc (both)
only (Err NoMemory) text shown e value s u l is = refl
