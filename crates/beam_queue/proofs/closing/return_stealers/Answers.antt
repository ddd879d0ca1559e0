use Rattle.std.proofs.Common.{◌≡◌, ◌<◌, List, length, set, get_or, sym, ap, subst, arith}
use Rattle.beam_queue.specs.Prelude.{stealer_count, lent, KeepsCounts, total, RunQueue, lent_of}
use Rattle.beam_queue.proofs.ReturningStealers.{gives_back, keeps_both, have_all_stealers, none_lent_more}
use Rattle.beam_queue.proofs.closing.return_stealers.Goals as goal

pub loop-stealer-smaller : goal.loop-stealer-smaller
loop-stealer-smaller g c =
    let at = c.in-Some-lender.at in
    let t = c.in-Some.stealer in
    let u = c.index_mut.result.now in
    let few : at < length c.take_stealer.new.run_queues.items = let n = ap length c.deref.ensures.value in let m = c.in-Some-lender.ensures.some.0 in omega (arith, n, m) in
    let some : 0 < lent_of t.of u =
    let s = c.in-Some-lender.ensures.some.1 u in
    let a = ap (λ n. lent_of n (get_or c.deref.result.now at u)) c.of.ensures in
    let b = ap (λ (ls : List RunQueue). lent_of t.of (get_or ls at u)) c.deref.ensures.value in
    let d = ap (lent_of t.of) c.index_mut.ensures.value in
    omega (arith, s, a, b, d) in
    let gone = gives_back at c.loop-stealer.run_queues.items c.take_stealer.new.run_queues.items t u c.take_back.new.self few c.index_mut.ensures.value some c.take_back.ensures c.in-Some.ensures.some in
    let less = gone.1 in
    omega (arith, less)

pub loop-stealer-preserved : goal.loop-stealer-preserved
loop-stealer-preserved g c =
    let at = c.in-Some-lender.at in
    let t = c.in-Some.stealer in
    let u = c.index_mut.result.now in
    let few : at < length c.take_stealer.new.run_queues.items = let n = ap length c.deref.ensures.value in let m = c.in-Some-lender.ensures.some.0 in omega (arith, n, m) in
    let some : 0 < lent_of t.of u =
    let s = c.in-Some-lender.ensures.some.1 u in
    let a = ap (λ n. lent_of n (get_or c.deref.result.now at u)) c.of.ensures in
    let b = ap (λ (ls : List RunQueue). lent_of t.of (get_or ls at u)) c.deref.ensures.value in
    let d = ap (lent_of t.of) c.index_mut.ensures.value in
    omega (arith, s, a, b, d) in
    let gone = gives_back at c.loop-stealer.run_queues.items c.take_stealer.new.run_queues.items t u c.take_back.new.self few c.index_mut.ensures.value some c.take_back.ensures c.in-Some.ensures.some in
    keeps_both c.args.run_queues.now.items c.loop-stealer.run_queues.items (set c.take_stealer.new.run_queues.items at c.take_back.new.self) c.loop-stealer.invariant gone.0

pub returns-clause-back : goal.returns-clause-back
returns-clause-back g c =
    let now = c.take_stealer.new.run_queues.items in
    let kept : KeepsCounts c.args.run_queues.now.items now = subst (λ (ls : List RunQueue). KeepsCounts c.args.run_queues.now.items ls) (sym c.in_default.ensures.none.0) c.loop-stealer.invariant in
    let held' : total stealer_count now ≡ 0 = c.in_default.ensures.none.1 in
    let same = ap (total lent) c.deref-2.ensures.value in (
      λ yes. have_all_stealers c.args.run_queues.now.items now kept held' (let n = c.none_lent.ensures.0 yes in omega (arith, n, same)),
      λ back. c.none_lent.ensures.1 (let n = none_lent_more c.args.run_queues.now.items now kept held' back in omega (arith, n, same)),
    )
