use Rattle.std.proofs.Common.{ℕ, ◌^◌, ◌<◌, refl, arith}
use Rattle.std.proofs.lemmas.List.Elements.{All-nil}
use Rattle.beam_code.specs.Prelude.{starts_of}
use Rattle.beam_code.proofs.starts.Starts.new.Goals as goal

pub invariant_of-result : goal.invariant_of-result
unfolding starts_of
invariant_of-result c = rw (c.new.ensures.items, c.new-2.ensures.items) (record { based = omega arith; fit = All-nil (λ (start : ℕ). start < 2 ^ 32) })

pub returns : goal.returns
unfolding starts_of
returns c = rw c.new-2.ensures.items refl
