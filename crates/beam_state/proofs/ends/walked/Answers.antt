use Rattle.std.proofs.Common.{◌≡◌, ◌<◌, ◌==◌, ◌++◌, cond, [], length, take, map, append-nil, append_assoc, sym, ap, subst, ◌∙◌, rules}
use Rattle.beam_machine.specs.Prelude.{Process, downs}
use Rattle.beam_state.specs.Prelude.{notices_of}
use Rattle.beam_laws.specs.Prelude.{AreRising}
use Rattle.beam_state.proofs.Telling.{none_to_send, notices_more}
use Rattle.beam_state.proofs.ends.walked.Goals as goal

pub returns-then-references-eq0-clause-ok : goal.returns-then-references-eq0-clause-ok
returns-then-references-eq0-clause-ok c =
    let none : AreRising 0 c.args.processes.now = subst (λ n. AreRising n c.args.processes.now) c.if-references-eq0.true c.requires.lawful.1 in
    sym (ap (λ xs. c.args.sent.items ++ xs) (none_to_send c.args.processes.now c.args.pid c.args.reason.now none) ∙ append-nil c.args.sent.items)

pub loop-index-preserved : goal.loop-index-preserved
loop-index-preserved c =
    let ps = c.args.processes.now in
    let j = c.loop-index.index in
    let p : Process = c.index-processes-index.result in
    let within : j < length ps = search rules in
    let ok : c.notice.new.sent.items ≡ c.loop-index.sent.items ++ map (λ signal. record { to = p.pid; signal = signal }) (cond (p.pid == c.args.pid) [] (downs c.args.pid c.args.reason.now p.monitors)) = search rules in
    ok
    ∙ (ap (λ xs. xs ++ map (λ signal. record { to = p.pid; signal = signal }) (cond (p.pid == c.args.pid) [] (downs c.args.pid c.args.reason.now p.monitors))) c.loop-index.invariant
    ∙ (append_assoc c.args.sent.items (notices_of (take j ps) c.args.pid c.args.reason.now) (map (λ signal. record { to = p.pid; signal = signal }) (cond (p.pid == c.args.pid) [] (downs c.args.pid c.args.reason.now p.monitors)))
    ∙ ap (λ xs. c.args.sent.items ++ xs) (sym (notices_more ps j c.args.pid c.args.reason.now p within c.index-processes-index.is c.requires.lawful.0))))
