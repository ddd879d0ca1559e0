use Rattle.std.proofs.Common.{◌≡◌, ◌∙◌, ap, arith, refl}
use Rattle.beam_frame.specs.Reader.{Reader}
use Rattle.beam_remote.proofs.InProgress.{opens, goes_on, ends_with, stops_with, stops_telling_with, gives_out, reads_none, reads_promptly}
use Rattle.beam_remote.proofs.session.serve.Goals as goal

pub loop-done-init : goal.loop-done-init
loop-done-init g c = record {
  session = opens g.D.Desk.answers _ _ _ _ (ap (λ (r : Reader). r.pending) c.new-reader.ensures);
  prompt = reads_none g.D.Desk.answers _ _ _ _;
  failed = refl;
  waits = ap (λ (r : Reader). r.failed) c.new-reader.ensures;
}

pub returns-in-Ok-None-clause-served : goal.returns-in-Ok-None-clause-served
returns-in-Ok-None-clause-served g c =
    let received = rw c.in-Ok-None.field-0-is at c.in-Ok-None.ensures.received in
    ends_with g.D.Desk.answers _ _ _ _ _ _ _ _ c.loop-done.invariant.session _ _ received.0 received.1 received.2 received.3 received.4

pub returns-in-Err-clause-stopped : goal.returns-in-Err-clause-stopped
returns-in-Err-clause-stopped g c =
    let received = c.in-Err.ensures.received in
    stops_with g.D.Desk.answers _ _ _ _ _ _ _ _ c.loop-done.invariant.session _ _ received.0 received.1 received.2 received.3 c.in-Err.why received.4

pub returns-in-Err-tell-clause-stopped : goal.returns-in-Err-tell-clause-stopped
returns-in-Err-tell-clause-stopped g c =
    let received = rw c.in-Ok-Some.field-0-is at c.in-Ok-Some.ensures.received in
    let told = c.in-Err-tell.ensures.stops in
    stops_telling_with g.D.Desk.answers _ _ _ _ _ _ _ _ c.loop-done.invariant.session _ _ received.0 received.1 received.2 received.3
    c.in-Ok-Some.command _ received.4 _ _ c.answer-response.ensures _ _ c.in-Err-tell.ensures.input c.in-Err-tell.why told.0 told.1 told.2

pub loop-done-preserved : goal.loop-done-preserved
loop-done-preserved g c =
    let received = rw c.in-Ok-Some.field-0-is at c.in-Ok-Some.ensures.received in
    record {
      session = goes_on g.D.Desk.answers _ _ _ _ _ _ _ _ c.loop-done.invariant.session _ _ received.0 received.1 received.2 received.3
          c.in-Ok-Some.command _ received.4 _ _ c.answer-response.ensures _ _ c.in-Ok.ensures.input c.in-Ok.ensures.whole;
      prompt = reads_promptly g.D.Desk.answers _ _ _ _ _ _ _ _ c.loop-done.invariant.session _ _ _ _ c.loop-done.invariant.prompt
          c.in-Ok-Some.ensures.needed c.in-Ok.ensures.moments;
      failed = c.in-Ok.ensures.failed ∙ c.in-Ok-Some.ensures.failed ∙ c.loop-done.invariant.failed;
      waits = c.in-Ok-Some.ensures.waits;
    }

pub returns-clause-stopped : goal.returns-clause-stopped
returns-clause-stopped g c =
    let all : c.loop-done.done ≡ 18446744073709551615 = omega (arith, c.loop-done-test.false, c.loop-done.auto.done-end) in
    gives_out g.D.Desk.answers _ _ _ _ _ _ _ _ c.loop-done.invariant.session 18446744073709551615 all

pub returns-in-Ok-None-clause-prompt : goal.returns-in-Ok-None-clause-prompt
returns-in-Ok-None-clause-prompt g c =
    reads_promptly g.D.Desk.answers _ _ _ _ _ _ _ _ c.loop-done.invariant.session _ _ _ _ c.loop-done.invariant.prompt c.in-Ok-None.ensures.needed refl

pub returns-in-Err-clause-prompt : goal.returns-in-Err-clause-prompt
returns-in-Err-clause-prompt g c =
    reads_promptly g.D.Desk.answers _ _ _ _ _ _ _ _ c.loop-done.invariant.session _ _ _ _ c.loop-done.invariant.prompt c.in-Err.ensures.needed refl

pub returns-in-Err-tell-clause-prompt : goal.returns-in-Err-tell-clause-prompt
returns-in-Err-tell-clause-prompt g c =
    reads_promptly g.D.Desk.answers _ _ _ _ _ _ _ _ c.loop-done.invariant.session _ _ _ _ c.loop-done.invariant.prompt
    c.in-Ok-Some.ensures.needed c.in-Err-tell.ensures.moments
