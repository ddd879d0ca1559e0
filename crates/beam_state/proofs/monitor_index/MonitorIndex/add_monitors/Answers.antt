use Rattle.std.proofs.Common.{◌≡◌, ◌∷◌, subst, rules}
use Rattle.beam_watches.specs.MonitorEntries.{monitors_in}
use Rattle.beam_state.specs.Prelude.{AreKeyed}
use Rattle.beam_state.proofs.MonitorKeys.{first_keyed, more_has}
use Rattle.beam_state.proofs.monitor_index.MonitorIndex.add_monitors.Goals as goal

pub loop-reference-preserved : goal.loop-reference-preserved
loop-reference-preserved c =
    let is : (c.in-Some.reference.now, c.in-Some.pid.now) ∷ c.next.new.self ≡ c.loop-reference.reference-iterator = search rules in
    record {
      kept = λ key had. c.add_monitor.ensures.kept key (c.loop-reference.invariant.kept key had);
      all = λ keys more rest. c.loop-reference.invariant.all keys (λ key had. more key (c.add_monitor.ensures.kept key had))
          (subst (λ es. AreKeyed keys c.args.receiver (monitors_in es)) is
          (first_keyed keys c.args.receiver c.in-Some.reference.now c.in-Some.pid.now (monitors_in c.next.new.self)
          (λ n own. more_has c.add_monitor.new.self keys n c.args.receiver c.in-Some.reference.now more (c.in_ok-add_monitor.ensures.ok n own)) rest));
    }

pub returns-clause-ok : goal.returns-clause-ok
returns-clause-ok c =
    let none : AreKeyed c.loop-reference.self c.args.receiver (monitors_in c.loop-reference.reference-iterator) = search rules in
    c.loop-reference.invariant.all c.loop-reference.self (λ key had. had) none
