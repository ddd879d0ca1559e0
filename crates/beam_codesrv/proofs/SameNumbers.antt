-- Modules that are compared one after another, once one list has ended.
use Rattle.std.proofs.Common.{◌≡◌, ◌↔◌, Bool, true, false, List, [], ◌∷◌, length, arith}
use Rattle.std.specs.Bool.{IsTrue}
use Rattle.beam_codesrv.specs.Homes.{ModuleEntry, code_of}
use Rattle.beam_codesrv.specs.Numbers.{same_numbers}

pub ended_alike : (modules others : List ModuleEntry) (r : Bool) → length modules ≡ 0 → (IsTrue r ↔ (length others ≡ 0)) → r ≡ same_numbers (code_of modules) (code_of others)
ended_alike [] [] r none left = left.1 (omega arith)
ended_alike [] (m ∷ rest) true none left = absurd (omega (arith, left.0 (λ i. true)))
ended_alike [] (m ∷ rest) false none left = λ i. false
ended_alike (m ∷ rest) others r none left = absurd (omega arith)
