-- The modules by their names, and the listing of each instance.
use Rattle.std.specs.Prelude.{◌≡◌, ◌≤◌, ◌==◌, ◌||◌, if◌then◌else◌, ℕ, Bool, false, List, [], ◌∷◌, Option, Some, None, is_some, not, option_map, option_and_then}
use Rattle.std.specs.Map.{lookup}
use Rattle.beam_machine.specs.Prelude.{Code, Instance, listing_of, Versions}
use Rattle.beam_model.specs.Prelude.{Listing, same_text}
use Rattle.beam_laws.specs.Prelude.{how_many}

-- the current and the old instance of a module
abbrev pub Pair : Type 0
Pair = Option Instance × Option Instance

abbrev pub ModuleEntry : Type 0
ModuleEntry = List ℕ × Pair

abbrev pub versions_in : ModuleEntry → Versions
versions_in m = record { name = m.0; current = m.1.0; old = m.1.1 }

abbrev pub code_of : List ModuleEntry → Code
code_of [] = []
code_of (m ∷ rest) = versions_in m ∷ code_of rest

abbrev pub number_of : Option Instance → Option ℕ
number_of = option_map (λ i. i.number)

-- ---- changes of a module

-- the modules with the instances of one changed, if it is there
abbrev pub with_change : (Pair → Pair) → List ℕ → List ModuleEntry → List ModuleEntry
with_change change name [] = []
with_change change name (m ∷ rest) = if same_text name m.0 then (m.0, change m.1) ∷ rest else m ∷ with_change change name rest

abbrev pub has_any : Pair → Bool
has_any v = is_some v.0 || is_some v.1

-- a module before the others, if it has an instance
abbrev pub put : List ℕ → Pair → List ModuleEntry → List ModuleEntry
put name v rest = if has_any v then (name, v) ∷ rest else rest

-- whether a module is there without an instance
abbrev pub is_bare : Option Pair → Bool
is_bare None = false
is_bare (Some v) = not (has_any v)

-- the modules without the one of that name, if that has no instance
abbrev pub tidied : List ℕ → List ModuleEntry → List ModuleEntry
tidied name [] = []
tidied name (m ∷ rest) = if same_text name m.0 then put m.0 m.1 rest else m ∷ tidied name rest

-- the modules with the instances of one changed; it goes if it has none any more
abbrev pub changed_in : (Pair → Pair) → List ℕ → List ModuleEntry → List ModuleEntry
changed_in change name [] = []
changed_in change name (m ∷ rest) = if same_text name m.0 then put m.0 (change m.1) rest else m ∷ changed_in change name rest

abbrev pub old_number : Pair → Option ℕ
old_number v = number_of v.1

-- the number of a module's old instance, which goes with each change
abbrev pub dropped_of : List ℕ → List ModuleEntry → Option ℕ
dropped_of name ms = option_and_then old_number (lookup (same_text name) ms)

-- ---- homes

-- the home of an instance: its listing, by the number
abbrev pub Homes : Type 0
Homes = ℕ → Option Listing

abbrev pub with_home : ℕ → Listing → Homes → Homes
with_home number listing home n = if number == n then Some listing else home n

-- without the home of an instance that goes
abbrev pub without : Option ℕ → Homes → Homes
without None home n = home n
without (Some number) home n = if number == n then None else home n

-- a number has a home exactly if an instance has that number, and at most one instance has it
pub record IsIndexOf (home : Homes) (code : Code) : Type 0 where
  pub homes : (n : ℕ) → home n ≡ listing_of code n
  pub once : (n : ℕ) → how_many n code ≤ 1

-- no two modules have one name
abbrev pub AreNamedOnce : List ModuleEntry → Type 0
AreNamedOnce [] = Unit {0}
AreNamedOnce (m ∷ rest) = (lookup (same_text m.0) rest ≡ None) × AreNamedOnce rest
