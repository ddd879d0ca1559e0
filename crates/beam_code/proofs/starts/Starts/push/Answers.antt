use Rattle.std.proofs.Common.{◌≡◌, length, ◌∙◌, arith}
use Rattle.std.proofs.lemmas.Result.{err_from_is_err_and}
use Rattle.beam_code.proofs.Grouped.{first_more, near_more, far_more, same_entries, same_grouped}
use Rattle.beam_code.proofs.starts.Starts.push.Goals as goal

pub invariant_of-self-then-at-eq0 : goal.invariant_of-self-then-at-eq0
invariant_of-self-then-at-eq0 c =
    let i = c.self.inside in
    rw (c.in_ok-push.ensures.items, c.push_reserved.ensures.items, c.in_ok-reserve.ensures.items)
    (first_more i.bases.items i.offsets.items i.far c.args.start c.self.invariant (omega arith) (omega arith)).grouped

pub returns-then-at-eq0-clause-ok : goal.returns-then-at-eq0-clause-ok
returns-then-at-eq0-clause-ok c =
    let i = c.self.inside in
    rw (c.in_ok-push.ensures.items, c.push_reserved.ensures.items, c.in_ok-reserve.ensures.items, ← c.self.view_is)
    (first_more i.bases.items i.offsets.items i.far c.args.start c.self.invariant (omega arith) (omega arith)).starts

pub invariant_of-self-then-offset-lt-FAR : goal.invariant_of-self-then-offset-lt-FAR
invariant_of-self-then-offset-lt-FAR c =
    let i = c.self.inside in
    let n : c.len-at.result ≡ length i.offsets.items = omega (arith, c.len-at.ensures) in
    rw (c.push_reserved-then-offset-lt-FAR.ensures.items, c.in_ok-reserve.ensures.items)
    (near_more i.bases.items i.offsets.items i.far c.args.start c.index.result.now c.offset_from-offset.result c.self.invariant (omega arith) (omega arith)
    (rw n at c.index.ensures) c.if-offset-lt-FAR.true (c.offset_from-offset.ensures c.if-offset-lt-FAR.true)).grouped

pub returns-then-offset-lt-FAR-clause-ok : goal.returns-then-offset-lt-FAR-clause-ok
returns-then-offset-lt-FAR-clause-ok c =
    let i = c.self.inside in
    let n : c.len-at.result ≡ length i.offsets.items = omega (arith, c.len-at.ensures) in
    rw (c.push_reserved-then-offset-lt-FAR.ensures.items, c.in_ok-reserve.ensures.items, ← c.self.view_is)
    (near_more i.bases.items i.offsets.items i.far c.args.start c.index.result.now c.offset_from-offset.result c.self.invariant (omega arith) (omega arith)
    (rw n at c.index.ensures) c.if-offset-lt-FAR.true (c.offset_from-offset.ensures c.if-offset-lt-FAR.true)).starts

pub invariant_of-self-in_err-insert : goal.invariant_of-self-in_err-insert
invariant_of-self-in_err-insert c =
    let i = c.self.inside in
    rw c.in_ok-reserve.ensures.items (same_grouped i.bases.items i.offsets.items i.far c.insert.new.self c.in_err-insert.ensures.err c.self.invariant)

pub returns-in_err-insert-clause-err : goal.returns-in_err-insert-clause-err
returns-in_err-insert-clause-err c =
    let i = c.self.inside in
    let p = err_from_is_err_and c.from_residual-in_err-insert.result c.from_residual-in_err-insert.ensures.1 in
    rw (p.1, c.in_ok-reserve.ensures.items) (same_entries i.bases.items i.offsets.items i.far c.insert.new.self c.in_err-insert.ensures.err ∙ c.self.view_is)

pub invariant_of-self-2 : goal.invariant_of-self-2
invariant_of-self-2 c =
    let i = c.self.inside in
    let n : c.len-at.result ≡ length i.offsets.items = omega (arith, c.len-at.ensures) in
    rw (c.push_reserved-2.ensures.items, c.in_ok-reserve.ensures.items)
    (far_more i.bases.items i.offsets.items i.far c.insert.new.self c.args.start c.self.invariant (omega arith) (omega arith) (rw n at c.in_ok-insert.ensures.updates)).grouped

pub returns-clause-ok : goal.returns-clause-ok
returns-clause-ok c =
    let i = c.self.inside in
    let n : c.len-at.result ≡ length i.offsets.items = omega (arith, c.len-at.ensures) in
    rw (c.push_reserved-2.ensures.items, c.in_ok-reserve.ensures.items, ← c.self.view_is)
    (far_more i.bases.items i.offsets.items i.far c.insert.new.self c.args.start c.self.invariant (omega arith) (omega arith) (rw n at c.in_ok-insert.ensures.updates)).starts
