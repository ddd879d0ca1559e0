use Rattle.std.proofs.Common.{◌≡◌, drop}
use Rattle.beam_blocks.specs.Blocks.{with_bytes, sums_of}
use Rattle.beam_blocks.proofs.sums.sums_of.Given as goal

abbrev pub invariant-loop-byte : goal.invariant-loop-byte
invariant-loop-byte l = with_bytes l.sums (drop l.byte-index l.bytes) ≡ sums_of l.bytes
