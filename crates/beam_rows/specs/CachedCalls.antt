-- Cached calls of functions of other modules, and where they entered them.
use Rattle.std.specs.Prelude.{◌≡◌, ℕ, List, Option, Some, IfSome}
use Rattle.std.specs.List.{All}
use Rattle.beam_model.specs.Prelude.{Place}
use Rattle.beam_machine.specs.declared.callee.Callee.TheVariants.{Function}
use Rattle.beam_machine.specs.Prelude.{Code, step_of, entry_of}
use Rattle.beam_rows.specs.declared.call_cache.CachedCall.{CachedCall}
use Rattle.beam_rows.specs.Quick.{called_in}

-- a row that calls a function of current code enters it there
abbrev pub Enters : Code → Place → Place → Type 0
Enters code from to =
    (name function : List ℕ) (arity : ℕ) → called_in (step_of code from) ≡ Some (Function name function arity) → entry_of code name function arity ≡ Some to

-- each cached call enters its function
abbrev pub AreCached : Code → List (Option CachedCall) → Type 0
AreCached code calls = All (λ call. IfSome call (λ e. Enters code e.from e.to)) calls
