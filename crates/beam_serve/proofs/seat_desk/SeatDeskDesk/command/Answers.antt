use Rattle.std.proofs.Common.{rules, ◌≡◌, subst}
use Rattle.beam_sched.specs.CommandAnswers.{answer_of}
use Rattle.beam_serve.specs.Answers.{SeatAnswers}
use Rattle.beam_serve.proofs.seat_desk.SeatDeskDesk.command.Goals as goal

pub returns : goal.returns
returns g c =
    let same : c.self.inside.context.seat ≡ c.args.self.now = search rules in
    subst (λ s. SeatAnswers s c.args.event c.response_by.result c.command-answer.new.context.seat) same (record {
      answer = answer_of c.command-answer.result;
      command_answered = c.command-answer.ensures.command_answered;
      is_response = c.response_by.ensures;
    })
