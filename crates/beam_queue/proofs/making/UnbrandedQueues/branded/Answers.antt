use Rattle.std.proofs.Common.{◌≡◌, Err, List, length, map, min, ap, sym, ◌∙◌, subst, arith}
use Rattle.std.specs.List.{range_with_len}
use Rattle.std.proofs.lemmas.Result.{err_from_is_err_and}
use Rattle.beam_queue.specs.Prelude.{new_run_queue, LentAtMost, DequeId}
use Rattle.beam_queue.specs.declared.making.NotMade.TheVariants.{TooMany}
use Rattle.beam_queue.proofs.AllStealersAdded.{victims_at, have_stealers_none, have_stealers_more, as_many, as_made, all_have_stealers}
use Rattle.beam_queue.proofs.making.UnbrandedQueues.branded.Goals as goal

pub loop-at-init : goal.loop-at-init
loop-at-init g c =
    have_stealers_none (length c.args.self) c.in_ok-run_queues.run_queues.items (c.in_ok-run_queues.ensures ∙ ap (λ (ds : List DequeId). map new_run_queue (range_with_len 0 (length ds))) (sym c.requires))

pub add_all_stealers-requires : goal.add_all_stealers-requires
add_all_stealers-requires g c =
    let now = as_many (length c.args.self) c.loop-at.run_queues.items c.loop-at.invariant.0 in
    let first = as_made (length c.args.self) c.in_ok-run_queues.run_queues.items (c.in_ok-run_queues.ensures ∙ ap (λ (ds : List DequeId). map new_run_queue (range_with_len 0 (length ds))) (sym c.requires)) in record {
      within = omega (arith, c.loop-at-test.true, c.min-at-end.ensures, c.len.ensures, c.in_ok-run_queues.run_queues.ok.0, now, first);
      numbers = c.loop-at.invariant.0 ∙ ap (range_with_len 0) (sym now);
    }

pub loop-at-preserved : goal.loop-at-preserved
loop-at-preserved g c =
    have_stealers_more (length c.args.self) c.loop-at.at c.loop-at.run_queues.items c.add_all_stealers.new.run_queues.items (as_many (length c.args.self) c.loop-at.run_queues.items c.loop-at.invariant.0) c.loop-at.invariant c.in_ok-add_all_stealers.ensures.added

pub returns-clause-victims : goal.returns-clause-victims
returns-clause-victims g c i d few =
    let n = length c.args.self in
    let first = as_made n c.in_ok-run_queues.run_queues.items (c.in_ok-run_queues.ensures ∙ ap (λ (ds : List DequeId). map new_run_queue (range_with_len 0 (length ds))) (sym c.requires)) in
    let end : c.loop-at.at ≡ min c.args.schedulers n = omega (arith, c.loop-at-test.false, c.loop-at.auto.at-end, c.min-at-end.ensures, c.len.ensures, c.in_ok-run_queues.run_queues.ok.0, first) in
    c.loop-at.invariant.1 i d few ∙ (ap (λ k. victims_at n k i) end ∙ all_have_stealers n c.args.schedulers i few)

pub returns-in_err-add_all_stealers-clause-many : goal.returns-in_err-add_all_stealers-clause-many
returns-in_err-add_all_stealers-clause-many g c e =
    let n = length c.args.self in
    let p = err_from_is_err_and c.from_residual-in_err-add_all_stealers.result c.from_residual-in_err-add_all_stealers.ensures.1 in
    let same : c.in_err-add_all_stealers.field-0.0 ≡ TooMany = cc (p.1, p.2, e) in
    let now = as_many n c.loop-at.run_queues.items c.loop-at.invariant.0 in
    let most = c.in_err-add_all_stealers.ensures.many (ap Err same) c.loop-at.at (subst (λ k. LentAtMost c.loop-at.at 0 k c.loop-at.run_queues.items) (sym now) c.loop-at.invariant.4) in
    omega (arith, most, c.loop-at-test.true, c.min-at-end.ensures)
