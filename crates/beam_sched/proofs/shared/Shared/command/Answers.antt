use Rattle.std.proofs.Common.{subst, sym}
use Rattle.beam_sched.specs.CommandAnswers.{CommandAnswered, answer_of}
use Rattle.beam_sched.proofs.CommandAnswers.{command_answered}
use Rattle.beam_sched.proofs.shared.Shared.command.Goals as goal

pub returns-then-must_wake-clause-command_answered : goal.returns-then-must_wake-clause-command_answered
returns-then-must_wake-clause-command_answered g c =
    let d = c.command-answer.ensures in
    subst (λ t. CommandAnswered c.args.context.now.seat c.args.event (answer_of c.command-answer.result) t) (sym c.note_command-must_wake.ensures)
    (command_answered c.deref_mut-locked.result.now.node c.command-answer.new.self c.args.context.now.seat c.command-answer.new.seat c.args.event c.command-answer.result c.recall_invariant.ensures.lawful c.recall_invariant.ensures.replays c.recall_invariant.ensures.of_seats c.recall_invariant.ensures.add_up
    d.kept d.given d.limit d.reply d.node d.seat d.loud d.may d.refused d.err d.noted)

pub returns-else-must_wake-clause-command_answered : goal.returns-else-must_wake-clause-command_answered
returns-else-must_wake-clause-command_answered g c =
    let d = c.command-answer.ensures in
    subst (λ t. CommandAnswered c.args.context.now.seat c.args.event (answer_of c.command-answer.result) t) (sym c.note_command-must_wake.ensures)
    (command_answered c.deref_mut-locked.result.now.node c.command-answer.new.self c.args.context.now.seat c.command-answer.new.seat c.args.event c.command-answer.result c.recall_invariant.ensures.lawful c.recall_invariant.ensures.replays c.recall_invariant.ensures.of_seats c.recall_invariant.ensures.add_up
    d.kept d.given d.limit d.reply d.node d.seat d.loud d.may d.refused d.err d.noted)
