use Rattle.std.proofs.Common.{◌≡◌, ◌++◌, ◌∷◌, [], ap, ◌∙◌, arith}
use Rattle.crossbeam_deque.specs.Handles.{worker_view}
use Rattle.beam_queue.specs.declared.contribution.Contribution.{Contribution}
use Rattle.beam_queue.specs.Prelude.{times, one_if}
use Rattle.beam_queue.proofs.Moves.{takes, finds}
use Rattle.beam_queue.proofs.Sums.{total_snoc}
use Rattle.beam_queue.proofs.deque.drain.Goals as goal

pub pop_as-requires-clause-fifo : goal.pop_as-requires-clause-fifo
pop_as-requires-clause-fifo c = let parts = c.loop.invariant.0 in λ _. takes _ _ (omega (arith, parts))

pub pop_as-requires-clause-empty : goal.pop_as-requires-clause-empty
pop_as-requires-clause-empty c = finds _ _ c.loop.invariant.0

pub loop-preserved : goal.loop-preserved
loop-preserved c =
    let v = c.in-Some.ensures.rule in (
      ap (λ (h : Contribution). h.parts) v ∙ c.loop.invariant.0,
      c.in-Some.ensures.same.0.1 ∙ c.loop.invariant.1,
      ap (λ (h : Contribution). h.put) v ∙ c.loop.invariant.2,
      (λ x.
          let t = ap (λ (h : Contribution). times x h.taken) v in
          let t' = total_snoc (one_if x) (worker_view c.loop.deque).taken c.in-Some.pid in
          let items : c.push_reserved.new.self.items ≡ c.loop.left.items ++ c.in-Some.pid ∷ [] = c.push_reserved.ensures.items ∙ ap (λ xs. xs ++ c.in-Some.pid ∷ []) c.in_ok-reserve.ensures.items in
          let l = ap (times x) items in
          let l' = total_snoc (one_if x) c.loop.left.items c.in-Some.pid in
          let kept = c.loop.invariant.3 x in
          omega (arith, t, t', l, l', kept)),
    )
