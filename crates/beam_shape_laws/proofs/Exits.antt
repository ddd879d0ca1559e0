-- A native that never returns gives an exception, whatever its arguments are: by its four cases, each with as many arguments as it has, and
-- with others.
use Rattle.std.proofs.Common.{◌≡◌, true, List, [], ◌∷◌, Err, refl, sym, true≢false}
use Rattle.beam_term.specs.Prelude.{TermValue}
use Rattle.beam_model.specs.declared.exception.Class.TheVariants as class
use Rattle.beam_model.specs.declared.exception.Exception.{Exception}
use Rattle.beam_model.specs.declared.exception.Fault.TheVariants.{Undef}
use Rattle.beam_model.specs.declared.native.Native.{Native}
use Rattle.beam_model.specs.Prelude.{native_value, is_exit}
use Rattle.beam_model.specs.declared.exception.Exception.TheVariants as exception
use Rattle.beam_model.specs.declared.native.Binary.TheVariants as binary
use Rattle.beam_model.specs.declared.native.Native.TheVariants as native
use Rattle.beam_model.specs.declared.native.Unary.TheVariants as unary

pub exit_gives : (f : Native) (ts : List TermValue) (own : TermValue) → is_exit f ≡ true → (e : Exception) × (native_value f ts own ≡ Err e)
exit_gives (native.Unary unary.Error) (t ∷ []) own e = (exception.Raised class.Error t, refl)
exit_gives (native.Unary unary.Exit) (t ∷ []) own e = (exception.Raised class.Exit t, refl)
exit_gives (native.Unary unary.Throw) (t ∷ []) own e = (exception.Raised class.Throw t, refl)
exit_gives (native.Binary binary.Error) (s ∷ t ∷ []) own e = (exception.Raised class.Error s, refl)
exit_gives (native.Unary unary.Error) _ own e = (exception.Fault Undef, refl)
exit_gives (native.Unary unary.Exit) _ own e = (exception.Fault Undef, refl)
exit_gives (native.Unary unary.Throw) _ own e = (exception.Fault Undef, refl)
exit_gives (native.Binary binary.Error) _ own e = (exception.Fault Undef, refl)
exit_gives _ ts own e = absurd (true≢false (sym e))
