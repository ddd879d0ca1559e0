use Rattle.std.proofs.Common.{◌≡◌, ◌+◌, ◌≤◌}
use Rattle.beam_model.specs.Prelude.{pair_count}
use Rattle.beam_term.specs.Prelude.{depth_of}
use Rattle.beam_etf.proofs.writing.pair_count.Given as goal

abbrev pub invariant-loop-tail : goal.invariant-loop-tail
invariant-loop-tail l = (l.count + pair_count l.rest ≡ pair_count l.list) × (l.count + depth_of l.rest ≤ 4096)
