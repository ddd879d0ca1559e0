use Rattle.std.proofs.Common.{◌≡◌, ◌∙◌, ℕ, ◌&&◌, false, OnErr, sym, ap, subst}
use Rattle.beam_machine.specs.declared.action.Action.{Action}
use Rattle.beam_machine.specs.Prelude.{goes_on, makes, moves, perform, stacks, is_quiet_action, is_calm, Process}
use Rattle.beam_machine.specs.declared.action.Action.TheVariants.{Test}
use Rattle.beam_model.specs.Prelude.{Place}
use Rattle.beam_rows.specs.Prelude.{Performs, without_exception}
use Rattle.beam_rows.proofs.Finished.{row_does, row_goes, row_fails}
use Rattle.beam_rows.proofs.Made.{row_made}
use Rattle.beam_rows.proofs.row.perform.Goals as goal

pub returns-in-Data-clause-does : goal.returns-in-Data-clause-does
returns-in-Data-clause-does c =
    let p = c.args.process.now in
    let next = c.args.next in
    let d = c.in-Data.data in
    let row = c.moves-row in
    let ends = rw c.instance-in-Data.ensures at c.finish.ensures in
    let does = row_does (moves d next) next.instance p row.new.process c.finish.new.process c.requires.stands.0 row.result c.finish.result c.requires.stands.1 c.requires.runs row.ensures.status (row.ensures.row c.args.code.now) row.ensures.why ends in
    subst (λ (a : Action). Performs p (perform c.args.code.now a next p) c.finish.result c.finish.new.process) (sym c.in-Data.is) does

pub returns-in-Stack-clause-does : goal.returns-in-Stack-clause-does
returns-in-Stack-clause-does c =
    let p = c.args.process.now in
    let next = c.args.next in
    let row = c.stacks-row in
    let ends = rw c.instance-in-Stack.ensures at c.finish-in-Stack.ensures in
    let does = row_does (stacks c.in-Stack.stack next) next.instance p row.new.process c.finish-in-Stack.new.process c.requires.stands.0 row.result c.finish-in-Stack.result c.requires.stands.1 c.requires.runs row.ensures.status row.ensures.row row.ensures.why ends in
    subst (λ (a : Action). Performs p (perform c.args.code.now a next p) c.finish-in-Stack.result c.finish-in-Stack.new.process) (sym c.in-Stack.is) does

pub returns-in-Stack-clause-loud : goal.returns-in-Stack-clause-loud
returns-in-Stack-clause-loud c =
    let p = c.args.process.now in
    let next = c.args.next in
    let row = c.stacks-row in
    let ends = rw c.instance-in-Stack.ensures at c.finish-in-Stack.ensures in
    let loud = row_fails _ next.instance row.new.process c.finish-in-Stack.new.process row.result c.finish-in-Stack.result row.ensures.loud ends in
    subst (λ (a : Action). OnErr c.finish-in-Stack.result ((is_quiet_action a && is_calm (perform c.args.code.now a next (without_exception p))) ≡ false)) (sym c.in-Stack.is) loud

pub returns-in-Some-clause-does : goal.returns-in-Some-clause-does
returns-in-Some-clause-does c =
    let p = c.args.process.now in
    let next = c.args.next in
    let code = c.args.code.now in
    let goes = row_goes (perform code (Test c.in-Test.test c.in-Test.fail) next) next.instance c.in-Some.at p c.requires.stands.0 c.requires.stands.1 (c.in-Some.ensures.row code) in
    let there : c.go_on.new.self ≡ goes_on p (record { instance = next.instance; at = c.in-Some.at }) =
    c.go_on.ensures.process ∙ ap (goes_on p) (c.new.ensures ∙ ap (λ (i : ℕ). (let t : Place = record { instance = i; at = c.in-Some.at } in t)) c.instance.ensures) in
    row_made p c.go_on.new.self (perform code c.args.action.now next p) c.go_on.result (subst (λ (a : Action). perform code a next p ≡ makes c.go_on.new.self) (sym c.in-Test.is) (goes ∙ ap makes (sym there)))
    c.go_on.ensures.then (ap (λ (s : Process). s.status) there ∙ c.requires.runs)
