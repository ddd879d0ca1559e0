-- The result of a reader of forms against the definition of the text's listing.
use Rattle.std.specs.Prelude.{◌≡◌, Result, Ok, Err}
use Rattle.beam_model.specs.Prelude.{ListingFault, syntax, unknown, ListingBody}
use Rattle.beam_listing.specs.declared.read.ListingBody.{ListingBody as BodyRead}
use Rattle.beam_listing.specs.declared.refusal.FormRefusal.{FormRefusal}
use Rattle.beam_listing.specs.declared.refusal.FormRefusal.TheVariants as refusals

-- the refusal names the fault, unless memory ran out
abbrev pub Names : FormRefusal → ListingFault → Type 0
Names refusals.NoMemory fault = Unit {0}
Names (refusals.Syntax left) fault = fault ≡ syntax left
Names (refusals.Unknown left) fault = fault ≡ unknown left

-- reading has the fault that the refusal names, unless memory ran out
abbrev pub Refuses : {Y : Type 0} → FormRefusal → Result Y ListingFault → Type 0
Refuses refusals.NoMemory read = Unit {0}
Refuses (refusals.Syntax left) read = read ≡ Err (syntax left)
Refuses (refusals.Unknown left) read = read ≡ Err (unknown left)

-- the view of the result is the result of reading, unless memory ran out
abbrev pub Reads : {X Y : Type 0} → (X → Y) → Result X FormRefusal → Result Y ListingFault → Type 0
Reads view (Ok x) read = read ≡ Ok (view x)
Reads view (Err e) read = Refuses e read

abbrev pub body_of : BodyRead → ListingBody
body_of body = record { functions = body.functions.items; instructions = body.instructions.items }
