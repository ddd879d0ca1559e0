use Rattle.std.proofs.Common.{◌≡◌, ◌+◌, ◌<◌, List, length, take, set, ap, ◌∙◌, arith}
use Rattle.std.proofs.lemmas.List.{set-get_or}
use Rattle.beam_queue.specs.Prelude.{stealer_count, total, RunQueue}
use Rattle.beam_queue.proofs.Draining.{gives_at}
use Rattle.beam_queue.proofs.Sums.{none_more}
use Rattle.beam_queue.proofs.closing.take_stealer.Goals as goal

pub returns-in-Some-clause-some : goal.returns-in-Some-clause-some
returns-in-Some-clause-some g c =
    let same = ap length c.loop-at.invariant.0 in
    let few : c.loop-at.at < length c.loop-at.run_queues.items = omega (arith, c.loop-at-test.true, c.loop-at.auto.at-end, c.len-at-end.ensures, same) in
    gives_at c.loop-at.at c.loop-at.run_queues.items c.args.run_queues.now.items c.in-Some.stealer c.index_mut.result.now c.remove_stealer.new.self few c.index_mut.ensures.value c.in-Some.ensures.some c.loop-at.invariant.0

pub loop-at-preserved : goal.loop-at-preserved
loop-at-preserved g c =
    let same = ap length c.loop-at.invariant.0 in
    let few : c.loop-at.at < length c.loop-at.run_queues.items = omega (arith, c.loop-at-test.true, c.loop-at.auto.at-end, c.len-at-end.ensures, same) in
    let now = c.loop-at.run_queues.items in
    let back : set now c.loop-at.at c.remove_stealer.new.self ≡ now = ap (set now c.loop-at.at) (c.in_default.ensures.none.0 ∙ c.index_mut.ensures.value) ∙ set-get_or now c.loop-at.at c.index_mut.result.now in (
      back ∙ c.loop-at.invariant.0,
      ap (λ (ls : List RunQueue). total stealer_count (take (c.loop-at.at + 1) ls)) back ∙ none_more stealer_count now c.loop-at.at c.index_mut.result.now few c.index_mut.ensures.value c.in_default.ensures.none.1 c.loop-at.invariant.1,
    )
