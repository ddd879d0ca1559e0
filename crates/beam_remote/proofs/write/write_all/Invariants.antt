use Rattle.std.proofs.Common.{◌≡◌, ℕ, List, ◌++◌, length}
use Rattle.beam_remote.specs.Prelude.{appended}
use Rattle.beam_remote.proofs.write.write_all.Given as goal

abbrev pub invariant-loop-rest : goal.invariant-loop-rest
invariant-loop-rest g l = record {
  begun : (begun : List ℕ) × (begun ++ l.rest ≡ l.fn.bytes) × (g.P.Port.output l.port ≡ appended (g.P.Port.output l.fn.port) begun);
  input : g.P.Port.input l.port ≡ g.P.Port.input l.fn.port;
  moments : g.P.Port.moments l.port ≡ g.P.Port.moments l.fn.port;
  failed : g.P.Port.failed l.port ≡ g.P.Port.failed l.fn.port;
}

abbrev pub decreases-loop-rest : goal.decreases-loop-rest
decreases-loop-rest g l = length l.rest
