use Rattle.std.proofs.Common.{◌<◌, ◌+◌, ◌^◌, rules, Ok, Err, refl, sym, ap, subst}
use Rattle.beam_machine.specs.Prelude.{answer_of}
use Rattle.beam_model.specs.declared.native.NodeNative.TheVariants as native
use Rattle.beam_state.specs.Prelude.{IsNext, AreLawful}
use Rattle.beam_state.proofs.Askers.{made_answers, fault_answers}
use Rattle.beam_state.proofs.asking.make_ref.Goals as goal

pub return_value-requires-clause-lawful : goal.return_value-requires-clause-lawful
return_value-requires-clause-lawful c = subst (AreLawful c.args.references.now) (sym c.next_reference.ensures.same) c.requires.lawful

pub return_value-requires-in-Err-clause-lawful : goal.return_value-requires-in-Err-clause-lawful
return_value-requires-in-Err-clause-lawful c = subst (AreLawful c.args.references.now) (sym c.next_reference.ensures.same) c.requires.lawful

pub overflow_add-references : goal.overflow_add-references
overflow_add-references c =
    let ps = c.args.processes.now in
    let r = c.args.references.now in
    let next : IsNext r ps (answer_of r ps 0 native.MakeRef c.args.arguments.now) (Ok (Ok c.in-Ok.reference)) =
    subst (λ v. IsNext r ps (answer_of r ps 0 native.MakeRef c.args.arguments.now) (Ok v)) c.in-Ok.is (c.in_ok-reference.ensures.next 0) in
    let below : r + 1 < 2 ^ 32 = next.1 in
    search rules

pub returns-in_ok-then-in-Ok : goal.returns-in_ok-then-in-Ok
returns-in_ok-then-in-Ok c =
    let ps = c.args.processes.now in
    let pid = c.args.asker.now.pid in
    let r = c.args.references.now in
    let next : IsNext r ps (answer_of r ps pid native.MakeRef c.args.arguments.now) (Ok (Ok c.in-Ok.reference)) =
    subst (λ v. IsNext r ps (answer_of r ps pid native.MakeRef c.args.arguments.now) (Ok v)) c.in-Ok.is (c.in_ok-reference.ensures.next pid) in
    made_answers c.requires.asking r native.MakeRef c.args.arguments.now (Ok c.in-Ok.reference) _ c.return_value.new.processes c.in_ok-then-in-Ok.then (_, next.0, refl)
    (rw (sym c.next_reference.ensures.same) c.in_ok-then-in-Ok.ensures)

pub returns-in-Err : goal.returns-in-Err
returns-in-Err c =
    let ps = c.args.processes.now in
    let pid = c.args.asker.now.pid in
    let r = c.args.references.now in
    let next : IsNext r ps (answer_of r ps pid native.MakeRef c.args.arguments.now) (Ok (Err c.in-Err.fault)) =
    subst (λ v. IsNext r ps (answer_of r ps pid native.MakeRef c.args.arguments.now) (Ok v)) c.in-Err.is (c.in_ok-reference.ensures.next pid) in
    fault_answers c.requires.asking r native.MakeRef c.args.arguments.now c.in-Err.fault c.return_value-in-Err.result c.return_value-in-Err.new.processes (ap (λ a. a.value) next)
    (rw (sym c.next_reference.ensures.same) c.return_value-in-Err.ensures)
