use Rattle.std.proofs.Common.{◌≡◌, ◌<◌, length}
use Rattle.beam_model.specs.Prelude.{hexadecimal_after}
use Rattle.beam_erltext.proofs.token.read_hexadecimal_digits.Given as goal

abbrev pub invariant-loop-first : goal.invariant-loop-first
invariant-loop-first l = record { reads : hexadecimal_after l.value l.rest ≡ hexadecimal_after 0 l.text; small : l.value < 0x110000 }

abbrev pub decreases-loop-first : goal.decreases-loop-first
decreases-loop-first l = length l.rest
