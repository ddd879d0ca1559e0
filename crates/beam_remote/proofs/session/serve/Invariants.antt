use Rattle.std.proofs.Common.{◌≡◌, false}
use Rattle.beam_remote.specs.Prelude.{AllAnswered, EachRead}
use Rattle.beam_remote.proofs.InProgress.{Session}
use Rattle.beam_remote.proofs.session.serve.Given as goal

abbrev pub invariant-loop-done : goal.invariant-loop-done
invariant-loop-done g l = record {
  session : Session g.D.Desk.answers l.fn.desk (g.P.Port.input l.fn.port) (g.P.Port.output l.fn.port)
      l.desk (g.P.Port.input l.port) (g.P.Port.output l.port) l.reader.pending l.done;
  prompt : EachRead (AllAnswered g.D.Desk.answers l.fn.desk (g.P.Port.input l.fn.port) (g.P.Port.output l.fn.port))
      (g.P.Port.moments l.fn.port) (g.P.Port.moments l.port);
  failed : g.P.Port.failed l.port ≡ g.P.Port.failed l.fn.port;
  waits : l.reader.failed ≡ false;
}
