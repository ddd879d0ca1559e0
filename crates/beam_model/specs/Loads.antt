-- What a listing must be to be loaded, in one.
use Rattle.std.specs.Prelude.{IsTrue}
use Rattle.beam_model.specs.Listing.{Listing}
use Rattle.beam_model.specs.Loadable.{obeys_rules}
use Rattle.beam_model.specs.Framed.{IsFramed}

-- the listing keeps the five rules, and each row finds the registers and the frame that it names
abbrev pub IsLoadable : Listing → Type 0
IsLoadable l = IsTrue (obeys_rules l) × IsFramed l
