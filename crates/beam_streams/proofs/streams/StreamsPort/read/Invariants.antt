use Rattle.std.proofs.Common.{◌≡◌}
use Rattle.beam_streams.proofs.streams.StreamsPort.read.Given as goal

abbrev pub invariant-loop : goal.invariant-loop
invariant-loop g l = l.self ≡ l.fn.self
