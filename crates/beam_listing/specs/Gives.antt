-- The result of a reader against the definition of the text's value.
use Rattle.std.specs.Prelude.{◌≡◌, Option, Some, None, Result, Ok, Err}
use Rattle.beam_listing.specs.declared.miss.Miss.{Miss}
use Rattle.beam_listing.specs.declared.miss.Miss.TheVariants as misses

-- the text has no value by the definition, unless memory ran out
abbrev pub Misses : {Y : Type 0} → Miss → Option Y → Type 0
Misses misses.NoMemory found = Unit {0}
Misses misses.Unknown found = found ≡ None

-- the view of the result is the value by the definition, unless memory ran out
abbrev pub Gives : {X Y : Type 0} → (X → Y) → Result X Miss → Option Y → Type 0
Gives view (Ok x) found = found ≡ Some (view x)
Gives view (Err e) found = Misses e found
