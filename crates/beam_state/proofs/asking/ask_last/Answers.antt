use Rattle.std.proofs.Common.{◌≡◌, ◌<◌, length, ◌∙◌, Some, Ok, Err, slice_get, refl, sym, ap, subst, rules, IfSome}
use Rattle.std.proofs.Math.ListN.{set}
use Rattle.beam_model.specs.declared.exception.Exception.TheVariants as exception
use Rattle.beam_machine.specs.declared.process.Status.TheVariants.{Running}
use Rattle.beam_machine.specs.Prelude.{answer_of, Process, then_of, answers}
use Rattle.beam_state.specs.Prelude.{CanDrop, IsAsking, AnswersNative, MadeBy, bare_if, AreLawful}
use Rattle.beam_state.specs.Posting.{all_taken}
use Rattle.beam_state.proofs.Askers.{goes_last, fault_answers}
use Rattle.beam_state.proofs.Keeping.{answers_keep}
use Rattle.beam_state.proofs.Lasting.{makes_is, told_alone, told_lawful, told_back, value_is, count_is, cur_is, fault_is, fault_stays, fault_counts, still_there, cur_within, cur_lives, cur_runs, cur_drops, cur_wrote}
use Rattle.beam_state.proofs.asking.ask_last.Goals as goal

pub answer_of-requires-clause-rising : goal.answer_of-requires-clause-rising
answer_of-requires-clause-rising c = (told_lawful c.args.references.now c.args.processes.now c.tell.new.processes c.args.asker.now.index c.args.asker.now.pid c.args.reason.now c.new.result.items c.in_ok-told.told.items c.requires.asking.located c.requires.lawful c.in_ok-told.ensures.ok.0 c.in_ok-told.ensures.ok.1).1

pub change-requires-clause-within : goal.change-requires-clause-within
change-requires-clause-within c =
    let told = told_alone c.args.references.now c.args.processes.now c.tell.new.processes c.args.asker.now.index c.args.asker.now.pid c.args.reason.now c.new.result.items c.in_ok-told.told.items c.requires.asking.located c.requires.lawful c.in_ok-told.ensures.ok.0 c.in_ok-told.ensures.ok.1 c.new.ensures.items in
    let m = makes_is c.args.references.now c.tell.new.processes (answer_of c.args.references.now c.tell.new.processes c.args.asker.now.pid c.args.native c.args.arguments.now) _ (Ok c.in-Ok-Ok.value) c.answer_of.new.references c.answer_of.new.processes c.in-Ok-Ok.ensures c.in-Ok-Ok.field-0-is in
    let v = value_is c.args.references.now c.args.processes.now c.tell.new.processes c.answer_of.new.processes c.args.asker.now.index c.args.asker.now.pid c.answer_of.new.references c.args.reason.now c.args.native c.args.arguments.now c.requires.asking.located c.requires.silent told c.in-Ok-Ok.value m in
    let is = cur_is c.args.references.now c.args.processes.now c.tell.new.processes c.answer_of.new.processes c.args.asker.now.index c.args.asker.now.pid c.answer_of.new.references c.args.reason.now c.args.native c.args.arguments.now c.requires.asking.located c.requires.silent told c.in-Ok-Ok.value m in
    let same = still_there (answer_of c.args.references.now c.args.processes.now c.args.asker.now.pid c.args.native c.args.arguments.now).processes c.answer_of.new.processes c.args.asker.now.pid c.args.asker.now.index c.args.reason.now is in
    cur_within c.requires.asking c.args.references.now c.args.native c.args.arguments.now c.answer_of.new.processes c.in-Ok-Ok.value v same

pub change-requires-clause-lives : goal.change-requires-clause-lives
change-requires-clause-lives c =
    let told = told_alone c.args.references.now c.args.processes.now c.tell.new.processes c.args.asker.now.index c.args.asker.now.pid c.args.reason.now c.new.result.items c.in_ok-told.told.items c.requires.asking.located c.requires.lawful c.in_ok-told.ensures.ok.0 c.in_ok-told.ensures.ok.1 c.new.ensures.items in
    let m = makes_is c.args.references.now c.tell.new.processes (answer_of c.args.references.now c.tell.new.processes c.args.asker.now.pid c.args.native c.args.arguments.now) _ (Ok c.in-Ok-Ok.value) c.answer_of.new.references c.answer_of.new.processes c.in-Ok-Ok.ensures c.in-Ok-Ok.field-0-is in
    let v = value_is c.args.references.now c.args.processes.now c.tell.new.processes c.answer_of.new.processes c.args.asker.now.index c.args.asker.now.pid c.answer_of.new.references c.args.reason.now c.args.native c.args.arguments.now c.requires.asking.located c.requires.silent told c.in-Ok-Ok.value m in
    let is = cur_is c.args.references.now c.args.processes.now c.tell.new.processes c.answer_of.new.processes c.args.asker.now.index c.args.asker.now.pid c.answer_of.new.references c.args.reason.now c.args.native c.args.arguments.now c.requires.asking.located c.requires.silent told c.in-Ok-Ok.value m in
    let same = still_there (answer_of c.args.references.now c.args.processes.now c.args.asker.now.pid c.args.native c.args.arguments.now).processes c.answer_of.new.processes c.args.asker.now.pid c.args.asker.now.index c.args.reason.now is in
    cur_lives c.requires.asking c.args.references.now c.args.native c.args.arguments.now c.answer_of.new.processes c.in-Ok-Ok.value v same

pub change-requires-clause-callable : goal.change-requires-clause-callable
change-requires-clause-callable c =
    let told = told_alone c.args.references.now c.args.processes.now c.tell.new.processes c.args.asker.now.index c.args.asker.now.pid c.args.reason.now c.new.result.items c.in_ok-told.told.items c.requires.asking.located c.requires.lawful c.in_ok-told.ensures.ok.0 c.in_ok-told.ensures.ok.1 c.new.ensures.items in
    let m = makes_is c.args.references.now c.tell.new.processes (answer_of c.args.references.now c.tell.new.processes c.args.asker.now.pid c.args.native c.args.arguments.now) _ (Ok c.in-Ok-Ok.value) c.answer_of.new.references c.answer_of.new.processes c.in-Ok-Ok.ensures c.in-Ok-Ok.field-0-is in
    let v = value_is c.args.references.now c.args.processes.now c.tell.new.processes c.answer_of.new.processes c.args.asker.now.index c.args.asker.now.pid c.answer_of.new.references c.args.reason.now c.args.native c.args.arguments.now c.requires.asking.located c.requires.silent told c.in-Ok-Ok.value m in
    let is = cur_is c.args.references.now c.args.processes.now c.tell.new.processes c.answer_of.new.processes c.args.asker.now.index c.args.asker.now.pid c.answer_of.new.references c.args.reason.now c.args.native c.args.arguments.now c.requires.asking.located c.requires.silent told c.in-Ok-Ok.value m in
    let same = still_there (answer_of c.args.references.now c.args.processes.now c.args.asker.now.pid c.args.native c.args.arguments.now).processes c.answer_of.new.processes c.args.asker.now.pid c.args.asker.now.index c.args.reason.now is in
    λ q there b is.
    let now = there ∙ ap Some (sym is) in
    let runs : b.now.status ≡ Running = cur_runs c.requires.asking c.args.references.now c.args.native c.args.arguments.now c.answer_of.new.processes c.in-Ok-Ok.value v same b.now now in
    let can : CanDrop c.args.asker.now.dropped b.now = cur_drops c.requires.asking c.args.references.now c.args.native c.args.arguments.now c.answer_of.new.processes c.in-Ok-Ok.value v same b.now now in
    let written : 0 < length b.now.x = cur_wrote c.requires.asking c.args.references.now c.args.native c.args.arguments.now c.answer_of.new.processes c.in-Ok-Ok.value v same b.now c.requires.read c.requires.other now in
    search rules

pub change-requires-clause-keeps : goal.change-requires-clause-keeps
change-requires-clause-keeps c =
    let told = told_alone c.args.references.now c.args.processes.now c.tell.new.processes c.args.asker.now.index c.args.asker.now.pid c.args.reason.now c.new.result.items c.in_ok-told.told.items c.requires.asking.located c.requires.lawful c.in_ok-told.ensures.ok.0 c.in_ok-told.ensures.ok.1 c.new.ensures.items in
    let m = makes_is c.args.references.now c.tell.new.processes (answer_of c.args.references.now c.tell.new.processes c.args.asker.now.pid c.args.native c.args.arguments.now) _ (Ok c.in-Ok-Ok.value) c.answer_of.new.references c.answer_of.new.processes c.in-Ok-Ok.ensures c.in-Ok-Ok.field-0-is in
    let v = value_is c.args.references.now c.args.processes.now c.tell.new.processes c.answer_of.new.processes c.args.asker.now.index c.args.asker.now.pid c.answer_of.new.references c.args.reason.now c.args.native c.args.arguments.now c.requires.asking.located c.requires.silent told c.in-Ok-Ok.value m in
    let is = cur_is c.args.references.now c.args.processes.now c.tell.new.processes c.answer_of.new.processes c.args.asker.now.index c.args.asker.now.pid c.answer_of.new.references c.args.reason.now c.args.native c.args.arguments.now c.requires.asking.located c.requires.silent told c.in-Ok-Ok.value m in
    let same = still_there (answer_of c.args.references.now c.args.processes.now c.args.asker.now.pid c.args.native c.args.arguments.now).processes c.answer_of.new.processes c.args.asker.now.pid c.args.asker.now.index c.args.reason.now is in
    λ q r then there given. answers_keep q r c.args.asker.now.dropped c.args.prepared (Ok c.in-Ok-Ok.value) (cur_runs c.requires.asking c.args.references.now c.args.native c.args.arguments.now c.answer_of.new.processes c.in-Ok-Ok.value v same q there) (search rules)

pub return_value-requires-clause-asking : goal.return_value-requires-clause-asking
return_value-requires-clause-asking c =
    let told = told_alone c.args.references.now c.args.processes.now c.tell.new.processes c.args.asker.now.index c.args.asker.now.pid c.args.reason.now c.new.result.items c.in_ok-told.told.items c.requires.asking.located c.requires.lawful c.in_ok-told.ensures.ok.0 c.in_ok-told.ensures.ok.1 c.new.ensures.items in
    let m = makes_is c.args.references.now c.tell.new.processes (answer_of c.args.references.now c.tell.new.processes c.args.asker.now.pid c.args.native c.args.arguments.now) _ (Err c.in-Ok-Err.fault) c.answer_of.new.references c.answer_of.new.processes c.in-Ok-Err.ensures c.in-Ok-Err.field-0-is in
    let counts = fault_counts c.args.references.now c.args.processes.now c.tell.new.processes c.answer_of.new.processes c.args.asker.now.index c.args.asker.now.pid c.answer_of.new.references c.args.reason.now c.args.native c.args.arguments.now c.requires.asking.located c.requires.silent told c.in-Ok-Err.fault m in
    let back = told_back c.args.references.now c.args.processes.now c.tell.new.processes c.args.asker.now.index c.args.asker.now.pid c.args.reason.now c.new.result.items c.in_ok-told.told.items c.requires.asking.located c.requires.lawful c.in_ok-told.ensures.ok.0 c.in_ok-told.ensures.ok.1 c.take_all_back.new.processes (c.take_all_back.ensures ∙ (ap (λ qs. all_taken qs c.deref.result.now) (fault_stays c.args.references.now c.args.processes.now c.tell.new.processes c.answer_of.new.processes c.args.asker.now.index c.args.asker.now.pid c.answer_of.new.references c.args.reason.now c.args.native c.args.arguments.now c.requires.asking.located c.requires.silent told c.in-Ok-Err.fault m) ∙ ap (all_taken c.tell.new.processes) c.deref.ensures.value)) in
    subst (IsAsking c.args.asker.now.index c.args.asker.now.pid c.args.asker.now.dropped c.args.asker.now.after) (sym back) c.requires.asking

pub return_value-requires-clause-lawful : goal.return_value-requires-clause-lawful
return_value-requires-clause-lawful c =
    let told = told_alone c.args.references.now c.args.processes.now c.tell.new.processes c.args.asker.now.index c.args.asker.now.pid c.args.reason.now c.new.result.items c.in_ok-told.told.items c.requires.asking.located c.requires.lawful c.in_ok-told.ensures.ok.0 c.in_ok-told.ensures.ok.1 c.new.ensures.items in
    let m = makes_is c.args.references.now c.tell.new.processes (answer_of c.args.references.now c.tell.new.processes c.args.asker.now.pid c.args.native c.args.arguments.now) _ (Err c.in-Ok-Err.fault) c.answer_of.new.references c.answer_of.new.processes c.in-Ok-Err.ensures c.in-Ok-Err.field-0-is in
    let counts = fault_counts c.args.references.now c.args.processes.now c.tell.new.processes c.answer_of.new.processes c.args.asker.now.index c.args.asker.now.pid c.answer_of.new.references c.args.reason.now c.args.native c.args.arguments.now c.requires.asking.located c.requires.silent told c.in-Ok-Err.fault m in
    let back = told_back c.args.references.now c.args.processes.now c.tell.new.processes c.args.asker.now.index c.args.asker.now.pid c.args.reason.now c.new.result.items c.in_ok-told.told.items c.requires.asking.located c.requires.lawful c.in_ok-told.ensures.ok.0 c.in_ok-told.ensures.ok.1 c.take_all_back.new.processes (c.take_all_back.ensures ∙ (ap (λ qs. all_taken qs c.deref.result.now) (fault_stays c.args.references.now c.args.processes.now c.tell.new.processes c.answer_of.new.processes c.args.asker.now.index c.args.asker.now.pid c.answer_of.new.references c.args.reason.now c.args.native c.args.arguments.now c.requires.asking.located c.requires.silent told c.in-Ok-Err.fault m) ∙ ap (all_taken c.tell.new.processes) c.deref.ensures.value)) in
    subst (λ n. AreLawful n c.take_all_back.new.processes) (sym counts) (subst (AreLawful c.args.references.now) (sym back) c.requires.lawful)

pub returns-in-Ok-Ok : goal.returns-in-Ok-Ok
returns-in-Ok-Ok c =
    let told = told_alone c.args.references.now c.args.processes.now c.tell.new.processes c.args.asker.now.index c.args.asker.now.pid c.args.reason.now c.new.result.items c.in_ok-told.told.items c.requires.asking.located c.requires.lawful c.in_ok-told.ensures.ok.0 c.in_ok-told.ensures.ok.1 c.new.ensures.items in
    let m = makes_is c.args.references.now c.tell.new.processes (answer_of c.args.references.now c.tell.new.processes c.args.asker.now.pid c.args.native c.args.arguments.now) _ (Ok c.in-Ok-Ok.value) c.answer_of.new.references c.answer_of.new.processes c.in-Ok-Ok.ensures c.in-Ok-Ok.field-0-is in
    let v = value_is c.args.references.now c.args.processes.now c.tell.new.processes c.answer_of.new.processes c.args.asker.now.index c.args.asker.now.pid c.answer_of.new.references c.args.reason.now c.args.native c.args.arguments.now c.requires.asking.located c.requires.silent told c.in-Ok-Ok.value m in
    let is = cur_is c.args.references.now c.args.processes.now c.tell.new.processes c.answer_of.new.processes c.args.asker.now.index c.args.asker.now.pid c.answer_of.new.references c.args.reason.now c.args.native c.args.arguments.now c.requires.asking.located c.requires.silent told c.in-Ok-Ok.value m in
    let same = still_there (answer_of c.args.references.now c.args.processes.now c.args.asker.now.pid c.args.native c.args.arguments.now).processes c.answer_of.new.processes c.args.asker.now.pid c.args.asker.now.index c.args.reason.now is in
    let did : IfSome (slice_get c.answer_of.new.processes c.args.asker.now.index)
    (λ p. (q : Process) × (q ≡ answers (bare_if c.args.asker.now.dropped p) c.args.prepared (Ok c.in-Ok-Ok.value)) × (c.change.result ≡ then_of q.status) × (c.change.new.self ≡ set c.answer_of.new.processes c.args.asker.now.index q)) = search rules in
    let goes = subst (λ k. IfSome (slice_get c.answer_of.new.processes c.args.asker.now.index)
    (λ p. (q : Process) × (q ≡ answers (bare_if c.args.asker.now.dropped p) k (Ok c.in-Ok-Ok.value)) × (c.change.result ≡ then_of q.status) × (c.change.new.self ≡ set c.answer_of.new.processes c.args.asker.now.index q))) c.requires.prepared did in
    goes_last c.requires.asking c.args.references.now c.args.native c.args.arguments.now (answer_of c.args.references.now c.args.processes.now c.args.asker.now.pid c.args.native c.args.arguments.now).processes c.answer_of.new.processes c.answer_of.new.references c.in-Ok-Ok.value refl v (count_is c.args.references.now c.args.processes.now c.tell.new.processes c.answer_of.new.processes c.args.asker.now.index c.args.asker.now.pid c.answer_of.new.references c.args.reason.now c.args.native c.args.arguments.now c.requires.asking.located c.requires.silent told c.in-Ok-Ok.value m) same
    c.args.reason.now c.change.result c.change.new.self is c.requires.ends goes

pub returns-in-Ok-Err : goal.returns-in-Ok-Err
returns-in-Ok-Err c =
    let told = told_alone c.args.references.now c.args.processes.now c.tell.new.processes c.args.asker.now.index c.args.asker.now.pid c.args.reason.now c.new.result.items c.in_ok-told.told.items c.requires.asking.located c.requires.lawful c.in_ok-told.ensures.ok.0 c.in_ok-told.ensures.ok.1 c.new.ensures.items in
    let m = makes_is c.args.references.now c.tell.new.processes (answer_of c.args.references.now c.tell.new.processes c.args.asker.now.pid c.args.native c.args.arguments.now) _ (Err c.in-Ok-Err.fault) c.answer_of.new.references c.answer_of.new.processes c.in-Ok-Err.ensures c.in-Ok-Err.field-0-is in
    let counts = fault_counts c.args.references.now c.args.processes.now c.tell.new.processes c.answer_of.new.processes c.args.asker.now.index c.args.asker.now.pid c.answer_of.new.references c.args.reason.now c.args.native c.args.arguments.now c.requires.asking.located c.requires.silent told c.in-Ok-Err.fault m in
    let back = told_back c.args.references.now c.args.processes.now c.tell.new.processes c.args.asker.now.index c.args.asker.now.pid c.args.reason.now c.new.result.items c.in_ok-told.told.items c.requires.asking.located c.requires.lawful c.in_ok-told.ensures.ok.0 c.in_ok-told.ensures.ok.1 c.take_all_back.new.processes (c.take_all_back.ensures ∙ (ap (λ qs. all_taken qs c.deref.result.now) (fault_stays c.args.references.now c.args.processes.now c.tell.new.processes c.answer_of.new.processes c.args.asker.now.index c.args.asker.now.pid c.answer_of.new.references c.args.reason.now c.args.native c.args.arguments.now c.requires.asking.located c.requires.silent told c.in-Ok-Err.fault m) ∙ ap (all_taken c.tell.new.processes) c.deref.ensures.value)) in
    subst (λ n. AnswersNative c.args.asker.now.pid c.args.asker.now.dropped c.args.native c.args.arguments.now c.args.asker.now.after c.args.references.now c.args.processes.now c.return_value.result n c.return_value.new.processes) (sym counts)
    (fault_answers c.requires.asking c.args.references.now c.args.native c.args.arguments.now c.in-Ok-Err.fault c.return_value.result c.return_value.new.processes (fault_is c.args.references.now c.args.processes.now c.tell.new.processes c.answer_of.new.processes c.args.asker.now.index c.args.asker.now.pid c.answer_of.new.references c.args.reason.now c.args.native c.args.arguments.now c.requires.asking.located c.requires.silent told c.in-Ok-Err.fault m)
    (subst (λ qs. MadeBy c.args.asker.now.pid (λ p. answers (bare_if c.args.asker.now.dropped p) c.args.asker.now.after (Err (exception.Fault c.in-Ok-Err.fault))) qs c.return_value.result c.return_value.new.processes) back c.return_value.ensures))

pub returns-in-Err : goal.returns-in-Err
returns-in-Err c = (
  told_back c.args.references.now c.args.processes.now c.tell.new.processes c.args.asker.now.index c.args.asker.now.pid c.args.reason.now c.new.result.items c.in_ok-told.told.items c.requires.asking.located c.requires.lawful c.in_ok-told.ensures.ok.0 c.in_ok-told.ensures.ok.1 c.take_all_back-in-Err.new.processes (c.take_all_back-in-Err.ensures ∙ (ap (λ qs. all_taken qs c.deref-in-Err.result.now) c.in-Err.ensures.0 ∙ ap (all_taken c.tell.new.processes) c.deref-in-Err.ensures.value)),
  c.in-Err.ensures.1,
)
