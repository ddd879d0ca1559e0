use Rattle.std.proofs.Common.{◌≡◌, ◌≤◌, ◌+◌, ◌-◌, length, drop}
use Rattle.beam_model.specs.Prelude.{name_len}
use Rattle.beam_erltext.proofs.token.name_length.Given as goal

abbrev pub invariant-loop-length : goal.invariant-loop-length
invariant-loop-length l = record { left : l.length + name_len (drop l.length l.text) ≡ name_len l.text; bound : l.length ≤ length l.text }

abbrev pub decreases-loop-length : goal.decreases-loop-length
decreases-loop-length l = length l.text - l.length
