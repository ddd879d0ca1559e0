use Rattle.std.proofs.Common.{◌≡◌, ◌-◌, length}
use Rattle.beam_remote.specs.Prelude.{appended}
use Rattle.beam_remote.proofs.load.read_whole.Given as goal

abbrev pub invariant-loop-buffer : goal.invariant-loop-buffer
invariant-loop-buffer g l = record {
  input : g.F.Source.input l.source ≡ appended (g.F.Source.input l.fn.source) l.bytes.items;
  failed : g.F.Source.failed l.source ≡ g.F.Source.failed l.fn.source;
}

abbrev pub decreases-loop-buffer : goal.decreases-loop-buffer
decreases-loop-buffer g l = 8388609 - length l.bytes.items
