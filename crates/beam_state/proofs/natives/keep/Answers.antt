use Rattle.std.proofs.Common.{◌≡◌, ◌<◌, false, length, slice_get, subst, IfSome}
use Rattle.beam_machine.specs.Prelude.{is_ended}
use Rattle.beam_state.proofs.Monitored.{DoesMonitor, below_there, keeps_ok, keeps_err}
use Rattle.beam_state.proofs.natives.keep.Goals as goal

pub monitor-requires-clause-below : goal.monitor-requires-clause-below
monitor-requires-clause-below c =
    let some = c.in-Some.ensures.some in
    let within : c.in-Some.index < length c.args.processes.now = subst (λ ps. c.in-Some.index < length ps) c.as_slice.ensures some.1 in
    below_there c.args.processes.now c.args.caller c.in-Some.index c.args.reference some.0 within (subst (λ ps. IfSome (slice_get ps c.in-Some.index) (λ p. is_ended p.status ≡ false)) c.as_slice.ensures some.2) c.requires.below

pub returns-clause-ok : goal.returns-clause-ok
returns-clause-ok c =
    let some = c.in-Some.ensures.some in
    let within : c.in-Some.index < length c.args.processes.now = subst (λ ps. c.in-Some.index < length ps) c.as_slice.ensures some.1 in
    let does : DoesMonitor c.args.processes.now c.in-Some.index c.args.reference c.args.target c.in_ok-down.down c.monitor.result c.monitor.new.self = c.monitor.ensures in
    keeps_ok c.args.processes.now c.args.caller c.in-Some.index c.args.reference c.args.target _ c.in_ok-down.down some.0 c.requires.named c.in_ok-down.ensures c.monitor.result c.monitor.new.self within (subst (λ ps. IfSome (slice_get ps c.in-Some.index) (λ p. is_ended p.status ≡ false)) c.as_slice.ensures some.2) does

pub returns-clause-err : goal.returns-clause-err
returns-clause-err c =
    let some = c.in-Some.ensures.some in
    let within : c.in-Some.index < length c.args.processes.now = subst (λ ps. c.in-Some.index < length ps) c.as_slice.ensures some.1 in
    let does : DoesMonitor c.args.processes.now c.in-Some.index c.args.reference c.args.target c.in_ok-down.down c.monitor.result c.monitor.new.self = c.monitor.ensures in
    keeps_err c.args.processes.now c.in-Some.index c.args.reference c.args.target c.in_ok-down.down c.monitor.result c.monitor.new.self within does
