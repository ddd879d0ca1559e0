use Rattle.std.proofs.Common.{◌≡◌, ◌<◌, length, ◌∙◌, Some, Ok, Err, slice_get, refl, sym, ap, subst, rules, IfSome}
use Rattle.std.proofs.Math.ListN.{set}
use Rattle.beam_model.specs.declared.exception.Exception.TheVariants as exception
use Rattle.beam_machine.specs.declared.process.Status.TheVariants.{Running}
use Rattle.beam_machine.specs.Prelude.{answer_of, Process, then_of, answers}
use Rattle.beam_state.specs.Prelude.{CanDrop, IsAsking, AnswersNative, MadeBy, bare_if, AreLawful}
use Rattle.beam_state.proofs.Askers.{left_within, left_lives, left_runs, left_drops, left_wrote, goes_on, fault_answers, fault_left}
use Rattle.beam_state.proofs.Keeping.{answers_keep}
use Rattle.beam_state.proofs.Lasting.{makes_is}
use Rattle.beam_state.proofs.asking.ask_on.Goals as goal

pub change-requires-clause-within : goal.change-requires-clause-within
change-requires-clause-within c =
    let m = makes_is c.args.references.now c.args.processes.now (answer_of c.args.references.now c.args.processes.now c.args.asker.now.pid c.args.native c.args.arguments.now) _ (Ok c.in-Ok.value) c.answer_of.new.references c.answer_of.new.processes c.in_ok-value.ensures c.in-Ok.is in
    left_within c.requires.asking c.args.references.now c.args.native c.args.arguments.now c.answer_of.new.processes (Ok c.in-Ok.value) m.0 m.1

pub change-requires-clause-lives : goal.change-requires-clause-lives
change-requires-clause-lives c =
    let m = makes_is c.args.references.now c.args.processes.now (answer_of c.args.references.now c.args.processes.now c.args.asker.now.pid c.args.native c.args.arguments.now) _ (Ok c.in-Ok.value) c.answer_of.new.references c.answer_of.new.processes c.in_ok-value.ensures c.in-Ok.is in
    left_lives c.requires.asking c.args.references.now c.args.native c.args.arguments.now c.answer_of.new.processes (Ok c.in-Ok.value) m.0 m.1

pub change-requires-clause-callable : goal.change-requires-clause-callable
change-requires-clause-callable c =
    let m = makes_is c.args.references.now c.args.processes.now (answer_of c.args.references.now c.args.processes.now c.args.asker.now.pid c.args.native c.args.arguments.now) _ (Ok c.in-Ok.value) c.answer_of.new.references c.answer_of.new.processes c.in_ok-value.ensures c.in-Ok.is in
    λ q there b is.
    let now = there ∙ ap Some (sym is) in
    let runs : b.now.status ≡ Running = left_runs c.requires.asking c.args.references.now c.args.native c.args.arguments.now c.answer_of.new.processes (Ok c.in-Ok.value) m.0 m.1 b.now now in
    let can : CanDrop c.args.asker.now.dropped b.now = left_drops c.requires.asking c.args.references.now c.args.native c.args.arguments.now c.answer_of.new.processes (Ok c.in-Ok.value) m.0 m.1 b.now now in
    let written : 0 < length b.now.x = left_wrote c.requires.asking c.args.references.now c.args.native c.args.arguments.now c.answer_of.new.processes c.in-Ok.value m.0 m.1 b.now c.requires.read c.requires.other now in
    search rules

pub change-requires-clause-keeps : goal.change-requires-clause-keeps
change-requires-clause-keeps c =
    let m = makes_is c.args.references.now c.args.processes.now (answer_of c.args.references.now c.args.processes.now c.args.asker.now.pid c.args.native c.args.arguments.now) _ (Ok c.in-Ok.value) c.answer_of.new.references c.answer_of.new.processes c.in_ok-value.ensures c.in-Ok.is in
    λ q r then there given. answers_keep q r c.args.asker.now.dropped c.args.prepared (Ok c.in-Ok.value) (left_runs c.requires.asking c.args.references.now c.args.native c.args.arguments.now c.answer_of.new.processes (Ok c.in-Ok.value) m.0 m.1 q there) (search rules)

pub return_value-requires-clause-asking : goal.return_value-requires-clause-asking
return_value-requires-clause-asking c =
    let m = makes_is c.args.references.now c.args.processes.now (answer_of c.args.references.now c.args.processes.now c.args.asker.now.pid c.args.native c.args.arguments.now) _ (Err c.in-Err.fault) c.answer_of.new.references c.answer_of.new.processes c.in_ok-value.ensures c.in-Err.is in
    let l = fault_left c.requires.asking c.args.references.now c.args.native c.args.arguments.now c.in-Err.fault c.answer_of.new.processes c.answer_of.new.references m in
    subst (IsAsking c.args.asker.now.index c.args.asker.now.pid c.args.asker.now.dropped c.args.asker.now.after) (sym l.0) c.requires.asking

pub return_value-requires-clause-lawful : goal.return_value-requires-clause-lawful
return_value-requires-clause-lawful c =
    let m = makes_is c.args.references.now c.args.processes.now (answer_of c.args.references.now c.args.processes.now c.args.asker.now.pid c.args.native c.args.arguments.now) _ (Err c.in-Err.fault) c.answer_of.new.references c.answer_of.new.processes c.in_ok-value.ensures c.in-Err.is in
    let l = fault_left c.requires.asking c.args.references.now c.args.native c.args.arguments.now c.in-Err.fault c.answer_of.new.processes c.answer_of.new.references m in
    subst (λ n. AreLawful n c.answer_of.new.processes) (sym l.1) (subst (AreLawful c.args.references.now) (sym l.0) c.requires.lawful)

pub returns-in-Ok : goal.returns-in-Ok
returns-in-Ok c =
    let m = makes_is c.args.references.now c.args.processes.now (answer_of c.args.references.now c.args.processes.now c.args.asker.now.pid c.args.native c.args.arguments.now) _ (Ok c.in-Ok.value) c.answer_of.new.references c.answer_of.new.processes c.in_ok-value.ensures c.in-Ok.is in
    let did : IfSome (slice_get c.answer_of.new.processes c.args.asker.now.index)
    (λ p. (q : Process) × (q ≡ answers (bare_if c.args.asker.now.dropped p) c.args.prepared (Ok c.in-Ok.value)) × (c.change.result ≡ then_of q.status) × (c.change.new.self ≡ set c.answer_of.new.processes c.args.asker.now.index q)) = search rules in
    let goes = subst (λ k. IfSome (slice_get c.answer_of.new.processes c.args.asker.now.index)
    (λ p. (q : Process) × (q ≡ answers (bare_if c.args.asker.now.dropped p) k (Ok c.in-Ok.value)) × (c.change.result ≡ then_of q.status) × (c.change.new.self ≡ set c.answer_of.new.processes c.args.asker.now.index q))) c.requires.prepared did in
    goes_on c.requires.asking c.args.references.now c.args.native c.args.arguments.now c.answer_of.new.processes c.answer_of.new.processes c.answer_of.new.references c.in-Ok.value m.0 m.1 m.2 refl
    c.change.result c.change.new.self refl c.requires.stays goes

pub returns-in-Err : goal.returns-in-Err
returns-in-Err c =
    let m = makes_is c.args.references.now c.args.processes.now (answer_of c.args.references.now c.args.processes.now c.args.asker.now.pid c.args.native c.args.arguments.now) _ (Err c.in-Err.fault) c.answer_of.new.references c.answer_of.new.processes c.in_ok-value.ensures c.in-Err.is in
    let l = fault_left c.requires.asking c.args.references.now c.args.native c.args.arguments.now c.in-Err.fault c.answer_of.new.processes c.answer_of.new.references m in
    subst (λ n. AnswersNative c.args.asker.now.pid c.args.asker.now.dropped c.args.native c.args.arguments.now c.args.asker.now.after c.args.references.now c.args.processes.now c.return_value.result n c.return_value.new.processes) (sym l.1)
    (fault_answers c.requires.asking c.args.references.now c.args.native c.args.arguments.now c.in-Err.fault c.return_value.result c.return_value.new.processes m.1
    (subst (λ qs. MadeBy c.args.asker.now.pid (λ p. answers (bare_if c.args.asker.now.dropped p) c.args.asker.now.after (Err (exception.Fault c.in-Err.fault))) qs c.return_value.result c.return_value.new.processes) l.0 c.return_value.ensures))
