-- The result of a native's call against its definition.
use Rattle.std.specs.Prelude.{◌≡◌, Result, Ok, Err, IsErrAnd}
use Rattle.beam_model.specs.declared.exception.Exception.{Exception}
use Rattle.beam_model.specs.Prelude.{class_of, value_of}
use Rattle.beam_term.specs.Prelude.{TermValue}
use Rattle.beam_bif.specs.declared.error.BifError.{BifError}
use Rattle.beam_bif.specs.declared.error.BifError.TheVariants as bif_error
use Rattle.beam_bif.specs.declared.error.NativeError.{NativeError}
use Rattle.beam_bif.specs.declared.error.NativeError.TheVariants.{NoMemory, Raised}

-- the result is this outcome, unless memory was refused
abbrev pub Gives : Result TermValue NativeError → Result TermValue Exception → Type 0
Gives (Ok t) outcome = outcome ≡ Ok t
Gives (Err NoMemory) outcome = Unit {0}
Gives (Err (Raised e)) outcome = outcome ≡ Err e

-- the result is this outcome, its exception by class and value, unless memory was refused
abbrev pub BifGives : Result TermValue BifError → Result TermValue Exception → Type 0
BifGives (Ok t) outcome = outcome ≡ Ok t
BifGives (Err bif_error.NoMemory) outcome = Unit {0}
BifGives (Err (bif_error.Raise class value)) outcome = IsErrAnd outcome (λ e. (class_of e ≡ class) × (value_of e ≡ value))
