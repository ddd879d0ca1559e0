use Rattle.std.proofs.Common.{◌≡◌, ◌<◌, List, length, slice_get, ap, ◌∙◌, arith}
use Rattle.beam_machine.specs.Prelude.{Process}
use Rattle.beam_state.specs.Ends.{lingers_in, end_if}
use Rattle.beam_state.proofs.Ending.{lives_there, partly_all, partly_long, partly_step, partly_there}
use Rattle.beam_state.proofs.lingering.end_all.Goals as goal

pub end_lingering-requires-clause-within : goal.end_lingering-requires-clause-within
end_lingering-requires-clause-within c =
    let ps : List Process = c.args.processes.now in
    let cur : List Process = c.loop-index.processes in
    let entries : List Process = c.as_slice-index-end.result.now in
    let long : length cur ≡ length ps = ap (λ (qs : List Process). length qs) c.loop-index.invariant ∙ partly_long (end_if (lingers_in c.args.old)) c.loop-index.index ps in
    let same : length entries ≡ length ps = ap (λ (qs : List Process). length qs) c.as_slice-index-end.ensures in
    omega (arith, c.loop-index-test.true, long, same)

pub end_lingering-requires-clause-lives : goal.end_lingering-requires-clause-lives
end_lingering-requires-clause-lives c =
    let ps : List Process = c.args.processes.now in
    let i = c.loop-index.index in
    lives_there c.args.old ps c.loop-index.processes i c.requires (ap (λ qs. slice_get qs i) c.loop-index.invariant ∙ partly_there (end_if (lingers_in c.args.old)) i ps)

pub loop-index-preserved : goal.loop-index-preserved
loop-index-preserved c =
    let ps : List Process = c.args.processes.now in
    let entries : List Process = c.as_slice-index-end.result.now in
    let same : length entries ≡ length ps = ap (λ (qs : List Process). length qs) c.as_slice-index-end.ensures in
    let within : c.loop-index.index < length ps = omega (arith, c.loop-index-test.true, same) in
    partly_step (end_if (lingers_in c.args.old)) c.loop-index.index ps c.loop-index.processes c.end_lingering.new.processes within c.loop-index.invariant c.end_lingering.ensures

pub returns : goal.returns
returns c =
    let ps : List Process = c.args.processes.now in
    let entries : List Process = c.as_slice-index-end.result.now in
    let same : length entries ≡ length ps = ap (λ (qs : List Process). length qs) c.as_slice-index-end.ensures in
    let all : c.loop-index.index ≡ length ps = omega (arith, c.loop-index.auto.index-end, c.loop-index-test.false, same) in
    c.loop-index.invariant ∙ partly_all (end_if (lingers_in c.args.old)) c.loop-index.index ps all
