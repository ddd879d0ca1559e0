use Rattle.std.proofs.Common.{◌≡◌, ◌+◌, ◌-◌, ◌≤◌, take, sym, ap, ◌∙◌, arith, rules, slice_get}
use Rattle.beam_machine.specs.Prelude.{last_label}
use Rattle.beam_debug.specs.declared.label_or_rows.LabelOrRows.TheVariants.{Label, Rows}
use Rattle.beam_debug.specs.Prelude.{label_or_rows_at}
use Rattle.beam_debug.proofs.Backwards.{none_passed, with_rows, label_found, rows_found, none_left}
use Rattle.beam_debug.proofs.location.last_label.Goals as goal

pub returns-in-Label : goal.returns-in-Label
returns-in-Label c =
    let code = c.args.image.now.instructions in
    let l = c.loop-left in
    let there : label_or_rows_at (slice_get code (l.left - 1)) ≡ Label c.in-Label.label = search rules in
    let one : (l.left - 1) + 1 ≡ l.left = omega arith in
    sym (label_found l.rows (l.left - 1) c.in-Label.label code there)
    ∙ (ap (λ k. with_rows l.rows (last_label none_passed (take k code))) one ∙ l.invariant.so_far)

pub overflow_add-rows : goal.overflow_add-rows
overflow_add-rows c =
    let few : c.in-Rows.more ≤ 1 = search rules in
    omega arith

pub loop-left-preserved : goal.loop-left-preserved
loop-left-preserved c =
    let code = c.args.image.now.instructions in
    let l = c.loop-left in
    let more = c.in-Rows.more in
    let few : more ≤ 1 = search rules in
    let there : label_or_rows_at (slice_get code (l.left - 1)) ≡ Rows more = search rules in
    let one : (l.left - 1) + 1 ≡ l.left = omega arith in
    record {
      so_far = sym (rows_found l.rows (l.left - 1) more code there) ∙ (ap (λ k. with_rows l.rows (last_label none_passed (take k code))) one ∙ l.invariant.so_far);
      count = omega arith;
    }

pub returns : goal.returns
returns c =
    let l = c.loop-left in
    let none : l.left ≡ 0 = omega arith in
    sym (none_left l.rows l.left c.args.image.now.instructions none) ∙ l.invariant.so_far
