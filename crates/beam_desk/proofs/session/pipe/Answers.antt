use Rattle.std.proofs.Common.{subst}
use Rattle.beam_machine.specs.Prelude.{Debugged}
use Rattle.beam_remote.specs.Prelude.{AllAnswered, EachRead}
use Rattle.beam_desk.specs.Answers.{NodeAnswers}
use Rattle.beam_desk.proofs.session.pipe.Goals as goal

pub returns-clause-prompt : goal.returns-clause-prompt
returns-clause-prompt g c =
    subst (λ (d : Debugged). EachRead (AllAnswered NodeAnswers d (g.P.Port.input c.args.port.now) (g.P.Port.output c.args.port.now))
    (g.P.Port.moments c.args.port.now) (g.P.Port.moments c.serve.new.port)) c.new-desk.ensures c.serve.ensures.prompt
