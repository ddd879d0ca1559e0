use Rattle.std.proofs.Common.{◌≡◌, ◌<◌, length, ◌∙◌, Some, Ok, Err, slice_get, refl, sym, ap, subst, rules, IfSome}
use Rattle.std.proofs.Math.ListN.{set}
use Rattle.beam_machine.specs.declared.process.Status.TheVariants.{Running}
use Rattle.beam_machine.specs.Prelude.{answer_of, Process, then_of, answers}
use Rattle.beam_state.specs.Prelude.{CanDrop, bare_if, Sends}
use Rattle.beam_state.proofs.Askers.{goes_last, fault_answers}
use Rattle.beam_state.proofs.Keeping.{answers_keep}
use Rattle.beam_state.proofs.Lasting.{sent_value, sent_counts, sent_is, sends_other, still_there, cur_within, cur_lives, cur_runs, cur_drops, cur_wrote}
use Rattle.beam_state.proofs.asking.send_last.Goals as goal

pub change-requires-clause-within : goal.change-requires-clause-within
change-requires-clause-within c =
    let sent : Sends c.args.processes.now (answer_of c.args.references c.args.processes.now c.args.asker.now.pid c.args.native c.args.arguments.now) (Ok (Ok (c.in-Ok.value, c.in-Ok.sent))) =
    subst (λ v. Sends c.args.processes.now (answer_of c.args.references c.args.processes.now c.args.asker.now.pid c.args.native c.args.arguments.now) (Ok v)) c.in-Ok.is (c.in_ok-value.ensures c.args.references) in
    let v = sent_value c.args.references c.args.processes.now c.tell.new.processes c.args.asker.now.index c.args.asker.now.pid c.args.reason.now c.args.native c.args.arguments.now c.in-Ok.value c.in-Ok.sent c.in_ok-first-in-Ok.first.items c.in_ok-_told-in-Ok._told.items c.requires.asking.located c.requires.lawful sent c.in_ok-first-in-Ok.ensures c.in_ok-_told-in-Ok.ensures.ok.0 c.in_ok-_told-in-Ok.ensures.ok.1 in
    let is = sent_is c.args.references c.args.processes.now c.tell.new.processes c.args.asker.now.index c.args.asker.now.pid c.args.reason.now c.args.native c.args.arguments.now c.in-Ok.value c.in-Ok.sent c.in_ok-first-in-Ok.first.items c.in_ok-_told-in-Ok._told.items c.requires.asking.located c.requires.lawful sent c.in_ok-first-in-Ok.ensures c.in_ok-_told-in-Ok.ensures.ok.0 c.in_ok-_told-in-Ok.ensures.ok.1 in
    let same = still_there (answer_of c.args.references c.args.processes.now c.args.asker.now.pid c.args.native c.args.arguments.now).processes c.tell.new.processes c.args.asker.now.pid c.args.asker.now.index c.args.reason.now is in
    cur_within c.requires.asking c.args.references c.args.native c.args.arguments.now c.tell.new.processes c.in-Ok.value v same

pub change-requires-clause-lives : goal.change-requires-clause-lives
change-requires-clause-lives c =
    let sent : Sends c.args.processes.now (answer_of c.args.references c.args.processes.now c.args.asker.now.pid c.args.native c.args.arguments.now) (Ok (Ok (c.in-Ok.value, c.in-Ok.sent))) =
    subst (λ v. Sends c.args.processes.now (answer_of c.args.references c.args.processes.now c.args.asker.now.pid c.args.native c.args.arguments.now) (Ok v)) c.in-Ok.is (c.in_ok-value.ensures c.args.references) in
    let v = sent_value c.args.references c.args.processes.now c.tell.new.processes c.args.asker.now.index c.args.asker.now.pid c.args.reason.now c.args.native c.args.arguments.now c.in-Ok.value c.in-Ok.sent c.in_ok-first-in-Ok.first.items c.in_ok-_told-in-Ok._told.items c.requires.asking.located c.requires.lawful sent c.in_ok-first-in-Ok.ensures c.in_ok-_told-in-Ok.ensures.ok.0 c.in_ok-_told-in-Ok.ensures.ok.1 in
    let is = sent_is c.args.references c.args.processes.now c.tell.new.processes c.args.asker.now.index c.args.asker.now.pid c.args.reason.now c.args.native c.args.arguments.now c.in-Ok.value c.in-Ok.sent c.in_ok-first-in-Ok.first.items c.in_ok-_told-in-Ok._told.items c.requires.asking.located c.requires.lawful sent c.in_ok-first-in-Ok.ensures c.in_ok-_told-in-Ok.ensures.ok.0 c.in_ok-_told-in-Ok.ensures.ok.1 in
    let same = still_there (answer_of c.args.references c.args.processes.now c.args.asker.now.pid c.args.native c.args.arguments.now).processes c.tell.new.processes c.args.asker.now.pid c.args.asker.now.index c.args.reason.now is in
    cur_lives c.requires.asking c.args.references c.args.native c.args.arguments.now c.tell.new.processes c.in-Ok.value v same

pub change-requires-clause-callable : goal.change-requires-clause-callable
change-requires-clause-callable c =
    let sent : Sends c.args.processes.now (answer_of c.args.references c.args.processes.now c.args.asker.now.pid c.args.native c.args.arguments.now) (Ok (Ok (c.in-Ok.value, c.in-Ok.sent))) =
    subst (λ v. Sends c.args.processes.now (answer_of c.args.references c.args.processes.now c.args.asker.now.pid c.args.native c.args.arguments.now) (Ok v)) c.in-Ok.is (c.in_ok-value.ensures c.args.references) in
    let v = sent_value c.args.references c.args.processes.now c.tell.new.processes c.args.asker.now.index c.args.asker.now.pid c.args.reason.now c.args.native c.args.arguments.now c.in-Ok.value c.in-Ok.sent c.in_ok-first-in-Ok.first.items c.in_ok-_told-in-Ok._told.items c.requires.asking.located c.requires.lawful sent c.in_ok-first-in-Ok.ensures c.in_ok-_told-in-Ok.ensures.ok.0 c.in_ok-_told-in-Ok.ensures.ok.1 in
    let is = sent_is c.args.references c.args.processes.now c.tell.new.processes c.args.asker.now.index c.args.asker.now.pid c.args.reason.now c.args.native c.args.arguments.now c.in-Ok.value c.in-Ok.sent c.in_ok-first-in-Ok.first.items c.in_ok-_told-in-Ok._told.items c.requires.asking.located c.requires.lawful sent c.in_ok-first-in-Ok.ensures c.in_ok-_told-in-Ok.ensures.ok.0 c.in_ok-_told-in-Ok.ensures.ok.1 in
    let same = still_there (answer_of c.args.references c.args.processes.now c.args.asker.now.pid c.args.native c.args.arguments.now).processes c.tell.new.processes c.args.asker.now.pid c.args.asker.now.index c.args.reason.now is in
    λ q there b is.
    let now = there ∙ ap Some (sym is) in
    let runs : b.now.status ≡ Running = cur_runs c.requires.asking c.args.references c.args.native c.args.arguments.now c.tell.new.processes c.in-Ok.value v same b.now now in
    let can : CanDrop c.args.asker.now.dropped b.now = cur_drops c.requires.asking c.args.references c.args.native c.args.arguments.now c.tell.new.processes c.in-Ok.value v same b.now now in
    let written : 0 < length b.now.x = cur_wrote c.requires.asking c.args.references c.args.native c.args.arguments.now c.tell.new.processes c.in-Ok.value v same b.now c.requires.read (sends_other c.args.native c.requires.sends) now in
    search rules

pub change-requires-clause-keeps : goal.change-requires-clause-keeps
change-requires-clause-keeps c =
    let sent : Sends c.args.processes.now (answer_of c.args.references c.args.processes.now c.args.asker.now.pid c.args.native c.args.arguments.now) (Ok (Ok (c.in-Ok.value, c.in-Ok.sent))) =
    subst (λ v. Sends c.args.processes.now (answer_of c.args.references c.args.processes.now c.args.asker.now.pid c.args.native c.args.arguments.now) (Ok v)) c.in-Ok.is (c.in_ok-value.ensures c.args.references) in
    let v = sent_value c.args.references c.args.processes.now c.tell.new.processes c.args.asker.now.index c.args.asker.now.pid c.args.reason.now c.args.native c.args.arguments.now c.in-Ok.value c.in-Ok.sent c.in_ok-first-in-Ok.first.items c.in_ok-_told-in-Ok._told.items c.requires.asking.located c.requires.lawful sent c.in_ok-first-in-Ok.ensures c.in_ok-_told-in-Ok.ensures.ok.0 c.in_ok-_told-in-Ok.ensures.ok.1 in
    let is = sent_is c.args.references c.args.processes.now c.tell.new.processes c.args.asker.now.index c.args.asker.now.pid c.args.reason.now c.args.native c.args.arguments.now c.in-Ok.value c.in-Ok.sent c.in_ok-first-in-Ok.first.items c.in_ok-_told-in-Ok._told.items c.requires.asking.located c.requires.lawful sent c.in_ok-first-in-Ok.ensures c.in_ok-_told-in-Ok.ensures.ok.0 c.in_ok-_told-in-Ok.ensures.ok.1 in
    let same = still_there (answer_of c.args.references c.args.processes.now c.args.asker.now.pid c.args.native c.args.arguments.now).processes c.tell.new.processes c.args.asker.now.pid c.args.asker.now.index c.args.reason.now is in
    λ q r then there given. answers_keep q r c.args.asker.now.dropped c.args.prepared (Ok c.in-Ok.value) (cur_runs c.requires.asking c.args.references c.args.native c.args.arguments.now c.tell.new.processes c.in-Ok.value v same q there) (search rules)

pub returns-in_ok-_told-in-Ok : goal.returns-in_ok-_told-in-Ok
returns-in_ok-_told-in-Ok c =
    let sent : Sends c.args.processes.now (answer_of c.args.references c.args.processes.now c.args.asker.now.pid c.args.native c.args.arguments.now) (Ok (Ok (c.in-Ok.value, c.in-Ok.sent))) =
    subst (λ v. Sends c.args.processes.now (answer_of c.args.references c.args.processes.now c.args.asker.now.pid c.args.native c.args.arguments.now) (Ok v)) c.in-Ok.is (c.in_ok-value.ensures c.args.references) in
    let v = sent_value c.args.references c.args.processes.now c.tell.new.processes c.args.asker.now.index c.args.asker.now.pid c.args.reason.now c.args.native c.args.arguments.now c.in-Ok.value c.in-Ok.sent c.in_ok-first-in-Ok.first.items c.in_ok-_told-in-Ok._told.items c.requires.asking.located c.requires.lawful sent c.in_ok-first-in-Ok.ensures c.in_ok-_told-in-Ok.ensures.ok.0 c.in_ok-_told-in-Ok.ensures.ok.1 in
    let is = sent_is c.args.references c.args.processes.now c.tell.new.processes c.args.asker.now.index c.args.asker.now.pid c.args.reason.now c.args.native c.args.arguments.now c.in-Ok.value c.in-Ok.sent c.in_ok-first-in-Ok.first.items c.in_ok-_told-in-Ok._told.items c.requires.asking.located c.requires.lawful sent c.in_ok-first-in-Ok.ensures c.in_ok-_told-in-Ok.ensures.ok.0 c.in_ok-_told-in-Ok.ensures.ok.1 in
    let same = still_there (answer_of c.args.references c.args.processes.now c.args.asker.now.pid c.args.native c.args.arguments.now).processes c.tell.new.processes c.args.asker.now.pid c.args.asker.now.index c.args.reason.now is in
    let did : IfSome (slice_get c.tell.new.processes c.args.asker.now.index)
    (λ p. (q : Process) × (q ≡ answers (bare_if c.args.asker.now.dropped p) c.args.prepared (Ok c.in-Ok.value)) × (c.change.result ≡ then_of q.status) × (c.change.new.self ≡ set c.tell.new.processes c.args.asker.now.index q)) = search rules in
    let goes = subst (λ k. IfSome (slice_get c.tell.new.processes c.args.asker.now.index)
    (λ p. (q : Process) × (q ≡ answers (bare_if c.args.asker.now.dropped p) k (Ok c.in-Ok.value)) × (c.change.result ≡ then_of q.status) × (c.change.new.self ≡ set c.tell.new.processes c.args.asker.now.index q))) c.requires.prepared did in
    goes_last c.requires.asking c.args.references c.args.native c.args.arguments.now (answer_of c.args.references c.args.processes.now c.args.asker.now.pid c.args.native c.args.arguments.now).processes c.tell.new.processes c.args.references c.in-Ok.value refl v (sent_counts c.args.references c.args.processes.now c.tell.new.processes c.args.asker.now.index c.args.asker.now.pid c.args.reason.now c.args.native c.args.arguments.now c.in-Ok.value c.in-Ok.sent c.in_ok-first-in-Ok.first.items c.in_ok-_told-in-Ok._told.items c.requires.asking.located c.requires.lawful sent c.in_ok-first-in-Ok.ensures c.in_ok-_told-in-Ok.ensures.ok.0 c.in_ok-_told-in-Ok.ensures.ok.1) same
    c.args.reason.now c.change.result c.change.new.self is c.requires.ends goes

pub returns-in-Err : goal.returns-in-Err
returns-in-Err c =
    let sent : Sends c.args.processes.now (answer_of c.args.references c.args.processes.now c.args.asker.now.pid c.args.native c.args.arguments.now) (Ok (Err c.in-Err.fault)) =
    subst (λ v. Sends c.args.processes.now (answer_of c.args.references c.args.processes.now c.args.asker.now.pid c.args.native c.args.arguments.now) (Ok v)) c.in-Err.is (c.in_ok-value.ensures c.args.references) in
    fault_answers c.requires.asking c.args.references c.args.native c.args.arguments.now c.in-Err.fault c.return_value.result c.return_value.new.processes (ap (λ a. a.value) sent) c.return_value.ensures
