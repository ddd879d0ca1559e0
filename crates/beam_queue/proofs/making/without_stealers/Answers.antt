use Rattle.std.proofs.Common.{◌≡◌, ◌∷◌, ◌++◌, [], List, length, map, ap, sym, ◌∙◌, append_assoc, append-nil}
use Rattle.std.specs.List.{range_with_len}
use Rattle.std.proofs.lemmas.List.{length-map, nil_from_length}
use Rattle.crossbeam_deque.specs.Handles.{worker_deque}
use Rattle.beam_queue.specs.declared.making.FreshDeque.{FreshDeque}
use Rattle.beam_queue.specs.Prelude.{new_run_queue}
use Rattle.beam_queue.proofs.Named.{named_at, one_run_queue, equal_lengths}
use Rattle.beam_queue.proofs.making.without_stealers.Goals as goal

pub loop-fresh-init : goal.loop-fresh-init
loop-fresh-init g c = (c.into_iter-fresh-iterator.ensures.into_iter_gives.0, c.new-run_queues.ensures.items)

pub run_queue_of-requires : goal.run_queue_of-requires
run_queue_of-requires g c =
    named_at (λ (f : FreshDeque). worker_deque f.deque) c.loop-fresh.yielded c.next.new.self.rest.items c.args.queues.items c.in-Some.fresh g.Q.QueueBrand.deques c.len-number.result
    (ap (λ (fs : List FreshDeque). c.loop-fresh.yielded ++ fs) (sym c.in-Some.ensures.steps.0) ∙ c.loop-fresh.invariant.0) c.requires
    (c.len-number.ensures ∙ (c.loop-fresh.run_queues.ok.0 ∙ equal_lengths c.loop-fresh.run_queues.items c.loop-fresh.yielded c.loop-fresh.invariant.1))

pub loop-fresh-preserved : goal.loop-fresh-preserved
loop-fresh-preserved g c = (
  append_assoc c.loop-fresh.yielded (c.in-Some.fresh ∷ []) c.next.new.self.rest.items ∙ (ap (λ (fs : List FreshDeque). c.loop-fresh.yielded ++ fs) (sym c.in-Some.ensures.steps.0) ∙ c.loop-fresh.invariant.0),
  one_run_queue c.loop-fresh.run_queues.items c.push.new.self.items c.loop-fresh.yielded c.in-Some.fresh c.run_queue_of.result c.len-number.result c.loop-fresh.invariant.1
      (c.len-number.ensures ∙ (c.loop-fresh.run_queues.ok.0 ∙ equal_lengths c.loop-fresh.run_queues.items c.loop-fresh.yielded c.loop-fresh.invariant.1)) c.run_queue_of.ensures c.in_ok-push.ensures.items,
)

pub returns : goal.returns
returns g c =
    let none : c.loop-fresh.fresh-iterator.rest.items ≡ [] = nil_from_length c.loop-fresh.fresh-iterator.rest.items (sym c.loop-fresh.fresh-iterator.rest.ok.0 ∙ c.in-None.ensures.steps.0) in
    let all : c.loop-fresh.yielded ≡ c.args.queues.items =
    sym (append-nil c.loop-fresh.yielded) ∙ (ap (λ (fs : List FreshDeque). c.loop-fresh.yielded ++ fs) (sym none) ∙ c.loop-fresh.invariant.0) in
    c.loop-fresh.invariant.1
    ∙ ap (λ n. map new_run_queue (range_with_len 0 n)) (ap length all ∙ (sym (length-map c.args.queues.items (λ (f : FreshDeque). worker_deque f.deque)) ∙ ap length c.requires))
