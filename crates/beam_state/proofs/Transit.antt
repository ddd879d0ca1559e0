-- Signals in transit to a process.
use Rattle.std.proofs.Common.{◌≡◌, ℕ, suc, ◌==◌, Bool, true, false, List, [], ◌∷◌, length, refl, ap, ◌∙◌, arith, not}
use Rattle.std.proofs.lemmas.Bool.Decides.{nat_tests}
use Rattle.beam_machine.specs.declared.process.Signal.{Signal}
use Rattle.beam_machine.specs.Prelude.{is_nothing}

not_empty : (n : ℕ) → (suc n == 0) ≡ false
not_empty n = grind (arith, nat_tests)

nothing_in : (signals : List Signal) → (length signals == 0) ≡ is_nothing signals
nothing_in [] = refl
nothing_in (signal ∷ rest) = not_empty (length rest)

turned : (a b : Bool) → b ≡ not a → a ≡ not b
turned true true e = cc
turned true false e = refl
turned false true e = refl
turned false false e = cc

pub is_nothing_if : (signals : List Signal) (b : Bool) → b ≡ not (length signals == 0) → is_nothing signals ≡ not b
is_nothing_if signals b e = turned (is_nothing signals) b (e ∙ ap not (nothing_in signals))
