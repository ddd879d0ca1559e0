-- Where a process goes on, as looks tell it. (This node's own.)
use Rattle.std.specs.Prelude.{ℕ, Bool, false, ◌==◌, if◌then◌else◌, Option, Some, None}
use Rattle.beam_model.specs.Prelude.{Listing, Place}
use Rattle.beam_machine.specs.declared.process.Goes.{Goes}
use Rattle.beam_machine.specs.declared.process.Goes.TheVariants.{At, Enter, Nowhere}
use Rattle.beam_machine.specs.Prelude.{Code, current_of, listing_of}
use Rattle.beam_page.specs.declared.process.CodeAge.{CodeAge}
use Rattle.beam_page.specs.declared.process.CodeAge.TheVariants as age
use Rattle.beam_looks.specs.declared.places.RowPlace.{RowPlace}
use Rattle.beam_looks.specs.declared.places.RowPlace.TheVariants as row

abbrev pub is_number : ℕ → Option ℕ → Bool
is_number number (Some other) = other == number
is_number number None = false

-- an instance that is loaded is its module's current one, or else the old one
abbrev pub image_age : Code → Listing → ℕ → CodeAge
image_age code listing number = if is_number number (current_of code listing.name) then age.Current else age.Old

abbrev pub age_of : Code → Option Listing → ℕ → CodeAge
age_of code None number = age.Gone
age_of code (Some listing) number = image_age code listing number

-- a row, with the listing of its instance, if that is loaded
abbrev pub row_at : Code → Place → RowPlace
row_at code place = row.Row place (age_of code (listing_of code place.instance) place.instance) (listing_of code place.instance)

abbrev pub place_of : Code → Goes → RowPlace
place_of code (At place) = row_at code place
place_of code (Enter «module» function arity) = row.Entry «module» function arity
place_of code Nowhere = row.Nowhere
