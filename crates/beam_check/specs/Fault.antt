-- The fault of a listing: the first one that stands there, in the order of their numbers.
use Rattle.std.specs.Prelude.{◌≡◌, ℕ, if◌then◌else◌, Option, Some, None}
use Rattle.beam_model.specs.Prelude.{Listing, are_labels_lawful, are_heads_lawful, are_exports_lawful, are_natives_known, are_limits_met, IsFramed}
use Rattle.beam_check.specs.declared.error.CheckError.{CheckError}
use Rattle.beam_check.specs.declared.error.CheckError.TheVariants.{BadLabel, BadHead, BadExport, UnknownBif, LimitExceeded, FrameMismatch, NoMemory}

abbrev pub number_of : CheckError → ℕ
number_of BadLabel = 1
number_of BadHead = 2
number_of BadExport = 3
number_of UnknownBif = 4
number_of LimitExceeded = 5
number_of FrameMismatch = 6
number_of NoMemory = 7

-- the first of the five rules that is broken; none exactly where the listing keeps them
abbrev pub fault_of : Listing → Option CheckError
fault_of l =
    if are_labels_lawful l then
    (if are_heads_lawful l then
    (if are_exports_lawful l then
    (if are_natives_known l then
    (if are_limits_met l then None else Some LimitExceeded)
    else Some UnknownBif)
    else Some BadExport)
    else Some BadHead)
    else Some BadLabel

-- the meaning of a refusal: the first of the five rules that the listing breaks; or it breaks none and isn't framed; NoMemory says
-- nothing of the listing
abbrev pub StandsIn : CheckError → Listing → Type 0
StandsIn FrameMismatch l = (fault_of l ≡ None) × (IsFramed l → ⊥)
StandsIn NoMemory l = Unit {0}
StandsIn e l = fault_of l ≡ Some e
