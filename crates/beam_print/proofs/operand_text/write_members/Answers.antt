use Rattle.std.proofs.Common.{◌≡◌, ◌+◌, ◌<◌, ap, rules, [], ◌∷◌, ◌++◌, drop, length, List, ℕ}
use Rattle.beam_lemmas.proofs.AnyError.{on_err}
use Rattle.beam_model.specs.declared.instruction.Argument.{Argument}
use Rattle.beam_model.specs.Prelude.{argument_text, arguments_text}
use Rattle.beam_print.proofs.Begun.{at_item, step, step_begun}
use Rattle.beam_print.proofs.operand_text.write_members.Goals as goal

pub returns-in_err-write_member-clause-begun : goal.returns-in_err-write_member-clause-begun
returns-in_err-write_member-clause-begun g c =
    let separator : List ℕ = c.loop-member.separator.now in
    let item = c.member-item.result in
    let others : List ℕ = arguments_text (44 ∷ []) (drop (c.loop-member.member-index + 1) c.args.members.now) in
    let left = ap (arguments_text separator) (at_item c.args.members.now c.loop-member.member-index item (search rules) c.member-item.is) in
    on_err c.from_residual.result _
    (step_begun _ _ _ _ c.loop-member.waiting.items _ (separator ++ argument_text item) others c.loop-member.invariant left c.in_err-write_member.ensures.begun)

pub loop-member-preserved : goal.loop-member-preserved
loop-member-preserved g c =
    let separator : List ℕ = c.loop-member.separator.now in
    let item = c.member-item.result in
    let others : List ℕ = arguments_text (44 ∷ []) (drop (c.loop-member.member-index + 1) c.args.members.now) in
    let left = ap (arguments_text separator) (at_item c.args.members.now c.loop-member.member-index item (search rules) c.member-item.is) in
    step _ _ _ _ c.loop-member.waiting.items _ (separator ++ argument_text item) others _ c.loop-member.invariant left c.in_ok-write_member.ensures.written
