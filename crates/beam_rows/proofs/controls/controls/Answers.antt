use Rattle.std.proofs.Common.{refl, subst, sym}
use Rattle.beam_machine.specs.declared.action.Control.{Control as TheControl}
use Rattle.beam_machine.specs.Prelude.{controls}
use Rattle.beam_rows.specs.Prelude.{Performs, selects_by_size, selects_by_value}
use Rattle.beam_rows.proofs.Finished.{row_does}
use Rattle.beam_rows.proofs.controls.controls.Goals as goal

pub returns-in-SelectValue-clause-does : goal.returns-in-SelectValue-clause-does
returns-in-SelectValue-clause-does c =
    let p = c.args.process.now in
    let next = c.args.next in
    let s = c.in-SelectValue.source in
    let fail = c.in-SelectValue.fail in
    let row = c.chosen_value_row-row in
    let ends = rw c.instance-in-SelectValue.ensures at c.finish.ensures in
    let does = row_does (λ q. selects_by_value q next s c.in-SelectValue.choices fail) next.instance p p c.finish.new.process c.requires.stands.0 row.result c.finish.result c.requires.stands.1 c.requires.runs refl (rw c.get-in-SelectValue.ensures at (row.ensures.row c.args.code.now)) (rw c.get-in-SelectValue.ensures at row.ensures.why) ends in
    subst (λ (a : TheControl). Performs p (controls c.args.code.now a next p) c.finish.result c.finish.new.process) (sym c.in-SelectValue.is) does

pub returns-in-SelectSize-clause-does : goal.returns-in-SelectSize-clause-does
returns-in-SelectSize-clause-does c =
    let p = c.args.process.now in
    let next = c.args.next in
    let s = c.in-SelectSize.source in
    let fail = c.in-SelectSize.fail in
    let row = c.chosen_size_row-row in
    let ends = rw c.instance-in-SelectSize.ensures at c.finish-in-SelectSize.ensures in
    let does = row_does (λ q. selects_by_size q next s c.in-SelectSize.choices fail) next.instance p p c.finish-in-SelectSize.new.process c.requires.stands.0 row.result c.finish-in-SelectSize.result c.requires.stands.1 c.requires.runs refl (rw (c.as_slice.ensures, c.get-in-SelectSize.ensures) at (row.ensures.row c.args.code.now)) (rw (c.as_slice.ensures, c.get-in-SelectSize.ensures) at row.ensures.why) ends in
    subst (λ (a : TheControl). Performs p (controls c.args.code.now a next p) c.finish-in-SelectSize.result c.finish-in-SelectSize.new.process) (sym c.in-SelectSize.is) does
