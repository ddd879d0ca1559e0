use Rattle.std.proofs.Common.{◌≡◌, ◌-◌, ℕ, List, ◌++◌, length, false}
use Rattle.beam_remote.specs.Prelude.{IsNeeded, EachRead, appended}
use Rattle.beam_remote.proofs.reading.next_command.Given as goal

abbrev pub invariant-loop-command : goal.invariant-loop-command
invariant-loop-command g l = record {
  read : (read : List ℕ) × (g.P.Port.input l.port ≡ appended (g.P.Port.input l.fn.port) read) × (l.reader.pending ≡ l.fn.reader.pending ++ read);
  needed : EachRead (IsNeeded l.fn.reader.pending (g.P.Port.input l.fn.port) (g.P.Port.output l.fn.port))
      (g.P.Port.moments l.fn.port) (g.P.Port.moments l.port);
  output : g.P.Port.output l.port ≡ g.P.Port.output l.fn.port;
  failed : g.P.Port.failed l.port ≡ g.P.Port.failed l.fn.port;
  waits : l.reader.failed ≡ false;
}

abbrev pub decreases-loop-command : goal.decreases-loop-command
decreases-loop-command g l = 8388612 - length l.reader.pending
