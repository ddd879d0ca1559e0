use Rattle.std.proofs.Common.{◌≡◌, ◌+◌, ◌-◌, ◌<◌, false, Some, None, length, drop, sym, subst, arith, rules}
use Rattle.beam_model.specs.Prelude.{is_row, label_of}
use Rattle.beam_shapes.specs.declared.label_rows.LabelRows.{LabelRows}
use Rattle.beam_shapes.specs.Prelude.{HasRows}
use Rattle.beam_shapes.proofs.Labels.{unpassed, kept_rows, put_rows}
use Rattle.beam_shapes.proofs.label_rows.LabelRows.of.Goals.{in-Some+in_ok-put, in_default}
use Rattle.beam_shapes.proofs.label_rows.LabelRows.of.Goals as goal

pub loop-at-preserved : goal.loop-at-preserved
loop-at-preserved c =
    let code = c.args.instructions.now in
    let i = c.index-instructions-at.result in
    let at = c.index-instructions-at.is in
    let few : c.loop-at.at - 1 < length code = search rules in
    let one : c.loop-at.at - 1 + 1 ≡ c.loop-at.at = omega arith in
    let none : is_row i ≡ false = cc in
    let P : LabelRows → Type 0 = λ (r : LabelRows). HasRows (c.loop-at.at - 1) (drop (c.loop-at.at - 1) code) r in (
      unpassed code (c.loop-at.at - 1) c.loop-at.at c.loop-at.row i one few at none c.loop-at.invariant.0,
      elim c.match-label.branch [
        | in-Some+in_ok-put w ↦
            let is : label_of i ≡ Some w.in-Some.label = cc in
            subst P (sym w.rows-is)
            (put_rows code (c.loop-at.at - 1) i few at c.loop-at.at w.in-Some.label c.loop-at.row c.loop-at.rows w.put.new.self one is w.in_ok-put.ensures
            c.loop-at.invariant.0 c.loop-at.invariant.1)
        | in_default w ↦
            let is : label_of i ≡ None = search rules in
            subst P (sym w.rows-is) (kept_rows code (c.loop-at.at - 1) i few at c.loop-at.at c.loop-at.rows one is c.loop-at.invariant.1)
      ],
    )
