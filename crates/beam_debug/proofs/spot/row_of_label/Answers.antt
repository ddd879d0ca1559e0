use Rattle.std.proofs.Common.{◌≡◌, ◌+◌, ◌≤◌, ◌<◌, true, false, length, sym, ◌∙◌, arith, rules, Some, None}
use Rattle.beam_model.specs.Prelude.{instruction_at, is_this_number, label_of, next_at}
use Rattle.beam_debug.proofs.Named.{label_here, label_later, label_nowhere, next_above, at_within}
use Rattle.beam_debug.proofs.spot.row_of_label.Goals as goal

pub returns-then-is_label_at : goal.returns-then-is_label_at
returns-then-is_label_at c =
    let l = c.args.image.now in
    let at = c.loop-next.at in
    let there : next_at l at ≡ Some c.in-Some.next = search rules in
    let found : is_this_number c.args.label (label_of (instruction_at l at)) ≡ true = sym c.is_label_at.ensures ∙ c.if-is_label_at.true in
    sym (label_here l c.args.label at c.in-Some.next there found) ∙ c.loop-next.invariant

pub overflow_add-at : goal.overflow_add-at
overflow_add-at c =
    let l = c.args.image.now in
    let at = c.loop-next.at in
    let there : next_at l at ≡ Some c.in-Some.next = search rules in
    let above : at + 1 ≤ c.in-Some.next = next_above l at c.in-Some.next there in
    omega arith

pub loop-next-smaller : goal.loop-next-smaller
loop-next-smaller c =
    let l = c.args.image.now in
    let at = c.loop-next.at in
    let there : next_at l at ≡ Some c.in-Some.next = search rules in
    let within : at < length l.instructions = at_within l at c.in-Some.next there in
    omega arith

pub loop-next-preserved : goal.loop-next-preserved
loop-next-preserved c =
    let l = c.args.image.now in
    let at = c.loop-next.at in
    let there : next_at l at ≡ Some c.in-Some.next = search rules in
    let other : is_this_number c.args.label (label_of (instruction_at l at)) ≡ false = sym c.is_label_at.ensures ∙ c.if-is_label_at.false in
    sym (label_later l c.args.label at c.in-Some.next there other) ∙ c.loop-next.invariant

pub returns : goal.returns
returns c =
    let past : next_at c.args.image.now c.loop-next.at ≡ None = search rules in
    sym (label_nowhere c.args.image.now c.args.label c.loop-next.at past) ∙ c.loop-next.invariant
