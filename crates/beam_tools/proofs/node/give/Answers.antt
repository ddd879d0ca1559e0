use Rattle.std.proofs.Common.{◌≡◌, inl, inr, refl, rules, Some}
use Rattle.std.proofs.lemmas.Result.{IfErr-weaker}
use Rattle.clap.specs.Walk.{texts}
use Rattle.beam_tools.specs.Prelude.{Contents, IsAnswer, LineFault, IsValueLine, RunSays, value_line, call, call_line, line_of, node_app}
use Rattle.beam_tools.specs.Node.{FaultSays, Prints}
use Rattle.beam_tools.specs.declared.program.Program.TheVariants.{Node}
use Rattle.beam_tools.proofs.Faults.{node_line_says, run_says}
use Rattle.beam_tools.proofs.Jobs.{no_service, printed_done, printed_fails, printed_left}
use Rattle.beam_tools.proofs.Left.{left_more}
use Rattle.beam_tools.proofs.Stops.{done_more}
use Rattle.beam_tools.proofs.node.give.Goals as goal

-- ---- a call

pub returns-in-Ok-Call-clause-done : goal.returns-in-Ok-Call-clause-done
returns-in-Ok-Call-clause-done g c =
    let words = texts c.args.words.now in
    let line = call_line c.in-Ok-Call.call in
    let told : line_of words ≡ Some (call line) = search rules in
    printed_done c.print_call.result c.done.result _ c.done.ensures.done c.done.ensures.fault
    (done_more c.print_call.result _ _ (λ h. (refl, (value_line h.0, inl (h.0, (line, told, h.1), refl), h.2))) c.print_call.ensures.value)

pub returns-in-Ok-Call-clause-asked : goal.returns-in-Ok-Call-clause-asked
returns-in-Ok-Call-clause-asked g c = printed_left c.print_call.result c.done.result _ c.done.ensures.done c.done.ensures.fault

pub returns-in-Ok-Call-clause-taken : goal.returns-in-Ok-Call-clause-taken
returns-in-Ok-Call-clause-taken g c = printed_left c.print_call.result c.done.result _ c.done.ensures.done c.done.ensures.fault

pub returns-in-Ok-Call-clause-kept : goal.returns-in-Ok-Call-clause-kept
returns-in-Ok-Call-clause-kept g c = printed_left c.print_call.result c.done.result _ c.done.ensures.done c.done.ensures.fault

pub returns-in-Ok-Call-clause-unread : goal.returns-in-Ok-Call-clause-unread
returns-in-Ok-Call-clause-unread g c asks =
    let words = texts c.args.words.now in
    let line = call_line c.in-Ok-Call.call in
    let told : line_of words ≡ Some (call line) = search rules in
    absurd (no_service words line told asks)

pub returns-in-Ok-Call-clause-left : goal.returns-in-Ok-Call-clause-left
returns-in-Ok-Call-clause-left g c =
    let files : Contents = g.F.Files.contents c.args.files.now in
    let words = texts c.args.words.now in
    let line = call_line c.in-Ok-Call.call in
    let told : line_of words ≡ Some (call line) = search rules in
    printed_fails c.print_call.result c.done.result _ c.done.ensures.done c.done.ensures.fault
    (left_more g.O.Write.contents (IsValueLine files line) (Prints files words) c.print_call.result c.args.output.now c.print_call.new.output
    (λ t h. inl (h.0, (line, told, h.1), h.2)) c.print_call.ensures.left)

pub returns-in-Ok-Call-clause-fault : goal.returns-in-Ok-Call-clause-fault
returns-in-Ok-Call-clause-fault g c =
    let files : Contents = g.F.Files.contents c.args.files.now in
    let words = texts c.args.words.now in
    let line = call_line c.in-Ok-Call.call in
    let told : line_of words ≡ Some (call line) = search rules in
    printed_fails c.print_call.result c.done.result _ c.done.ensures.done c.done.ensures.fault
    (IfErr-weaker c.print_call.result (RunSays files line) (FaultSays files words) (λ f says. run_says files words line f told says) c.print_call.ensures.fault)

pub returns-in-Ok-Call-clause-wrong : goal.returns-in-Ok-Call-clause-wrong
returns-in-Ok-Call-clause-wrong g c =
    printed_fails c.print_call.result c.done.result _ c.done.ensures.done c.done.ensures.fault c.print_call.ensures.wrong

-- ---- a line that gives nothing to do

pub returns-in-Err-clause-done : goal.returns-in-Err-clause-done
returns-in-Err-clause-done g c =
    printed_done c.answer.result c.done-in-Err.result _ c.done-in-Err.ensures.done c.done-in-Err.ensures.fault
    (done_more c.answer.result _ _ (λ h. (refl, (h.0, inr h.1, h.2))) (c.answer.ensures.shown node_app (texts c.args.words.now) c.in-Err.ensures.stop))

pub returns-in-Err-clause-asked : goal.returns-in-Err-clause-asked
returns-in-Err-clause-asked g c = printed_left c.answer.result c.done-in-Err.result _ c.done-in-Err.ensures.done c.done-in-Err.ensures.fault

pub returns-in-Err-clause-taken : goal.returns-in-Err-clause-taken
returns-in-Err-clause-taken g c = printed_left c.answer.result c.done-in-Err.result _ c.done-in-Err.ensures.done c.done-in-Err.ensures.fault

pub returns-in-Err-clause-kept : goal.returns-in-Err-clause-kept
returns-in-Err-clause-kept g c = printed_left c.answer.result c.done-in-Err.result _ c.done-in-Err.ensures.done c.done-in-Err.ensures.fault

pub returns-in-Err-clause-left : goal.returns-in-Err-clause-left
returns-in-Err-clause-left g c =
    let files : Contents = g.F.Files.contents c.args.files.now in
    let words = texts c.args.words.now in
    printed_fails c.answer.result c.done-in-Err.result _ c.done-in-Err.ensures.done c.done-in-Err.ensures.fault
    (left_more g.O.Write.contents (IsAnswer Node node_app words) (Prints files words) c.answer.result c.args.output.now c.answer.new.output
    (λ t h. inr h) (c.answer.ensures.left node_app words c.in-Err.ensures.stop))

pub returns-in-Err-clause-fault : goal.returns-in-Err-clause-fault
returns-in-Err-clause-fault g c =
    let files : Contents = g.F.Files.contents c.args.files.now in
    let words = texts c.args.words.now in
    printed_fails c.answer.result c.done-in-Err.result _ c.done-in-Err.ensures.done c.done-in-Err.ensures.fault
    (IfErr-weaker c.answer.result (LineFault node_app words) (FaultSays files words) (λ f says. node_line_says files words f says)
    (c.answer.ensures.fault node_app words c.in-Err.ensures.stop))
