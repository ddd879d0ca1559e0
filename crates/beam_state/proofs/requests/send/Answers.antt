use Rattle.std.proofs.Common.{◌≡◌, slice_get, refl, ◌∙◌, rules, IfSome}
use Rattle.std.proofs.Math.ListN.{set}
use Rattle.beam_machine.specs.Prelude.{Process, read_x}
use Rattle.beam_proc.specs.Prelude.{stepped_back}
use Rattle.beam_state.proofs.Asked.{Steps, read_runs, sent, unsent}
use Rattle.beam_state.proofs.requests.send.Goals as goal

pub returns-in-Ok : goal.returns-in-Ok
returns-in-Ok c =
    let ps = c.args.processes.now in
    let at = c.running-index.result in
    let p : Process = c.runner.result.now in
    let message : c.in_ok-message.message ≡ read_x p.x 1 = search rules in
    let value : c.in_ok-value.value ≡ c.in_ok-message.message = search rules in
    let steps : Steps ps at c.in_ok-value.value c.args.next c.in_ok-stepped.stepped c.change.new.self = search rules in
    λ clock references. sent clock references c.args.pid at c.args.to c.args.next ps c.change.new.self c.post.new.processes p c.in_ok-stepped.stepped c.in_ok-message.message c.in_ok-value.value
    c.running-index.ensures.0 (read_runs ps at c.args.pid p c.running-index.ensures.0 c.requires c.runner.ensures) message (value ∙ message) steps c.in-Ok.ensures.ok

pub returns : goal.returns
returns c =
    let ps = c.args.processes.now in
    let at = c.running-index.result in
    let p : Process = c.runner.result.now in
    let mid = c.change.new.self in
    let cur = c.post.new.processes in
    let new = c.change-in-Err.new.self in
    let steps : Steps ps at c.in_ok-value.value c.args.next c.in_ok-stepped.stepped mid = search rules in
    let back : IfSome (slice_get cur at) (λ q. new ≡ set cur at (stepped_back q c.in_ok-stepped.stepped)) = search rules in
    λ clock references. (
      unsent c.args.pid at c.args.next ps mid cur new p c.in_ok-stepped.stepped c.in_ok-value.value
          (read_runs ps at c.args.pid p c.running-index.ensures.0 c.requires c.runner.ensures) steps c.in-Err.ensures.err back,
      refl,
    )
