-- Why a listing isn't assembled.
use Rattle.std.specs.Prelude.{◌≡◌, ◌⊎◌, ℕ, true, false, List, Option, Some, None, Result, Ok, Err}
use Rattle.beam_model.specs.Prelude.{Listing, IsLoadable, are_few_atoms, are_short_atoms, HasFile}
use Rattle.beam_check.specs.declared.error.CheckError.{CheckError}
use Rattle.beam_check.specs.declared.error.CheckError.TheVariants.{LimitExceeded, NoMemory}
use Rattle.beam_check.specs.Fault.{StandsIn, number_of as check_number}
use Rattle.beam_asm.specs.declared.error.AsmError.{AsmError}
use Rattle.beam_asm.specs.declared.error.AsmError.TheVariants.{Check, TooManyAtoms, AtomTooLong}

abbrev pub number_of : AsmError → ℕ
number_of (Check e) = check_number e
number_of TooManyAtoms = 8
number_of AtomTooLong = 9

-- the listing can be loaded and has few and short atoms, but has no file that is small enough
pub record IsTooLarge (l : Listing) : Type 0 where
  pub loadable : IsLoadable l
  pub few : are_few_atoms l ≡ true
  pub short : are_short_atoms l ≡ true
  pub none : (bytes : List ℕ) → HasFile l bytes → ⊥

-- the listing has the fault that the refusal names: the fault of the check first, then too many atoms, too long atoms, and too large a
-- file; NoMemory says nothing of the listing
abbrev pub Refuses : AsmError → Listing → Type 0
Refuses (Check LimitExceeded) l = StandsIn LimitExceeded l ⊎ IsTooLarge l
Refuses (Check e) l = StandsIn e l
Refuses TooManyAtoms l = IsLoadable l × (are_few_atoms l ≡ false)
Refuses AtomTooLong l = IsLoadable l × (are_few_atoms l ≡ true) × (are_short_atoms l ≡ false)

-- the definition has nothing to write, unless memory ran out
abbrev pub Fails : {Y : Type 0} → CheckError → Option Y → Type 0
Fails NoMemory written = Unit {0}
Fails LimitExceeded written = written ≡ None
Fails e written = ⊥

-- the view of the result is what the definition writes, unless memory ran out
abbrev pub Gives : {X Y : Type 0} → (X → Y) → Result X CheckError → Option Y → Type 0
Gives view (Ok x) written = written ≡ Some (view x)
Gives view (Err e) written = Fails e written
