use Rattle.std.proofs.Common.{◌≡◌, suc, ◌-◌, ◌++◌, ◌∷◌, [], length, Ok, inl, inr, sym, ap, ◌∙◌, arith}
use Rattle.beam_model.specs.Prelude.{read_at, items_at}
use Rattle.beam_term.specs.Prelude.{list_before, tuple_of}
use Rattle.beam_etf.specs.Faults.{fault_of}
use Rattle.beam_etf.proofs.ReadingSoundParts.{items_takes, read_takes, term_takes}
use Rattle.beam_etf.proofs.Loops.{before_list, items_go_on, items_end, items_done, list_go_on, list_ends, list_tail}
use Rattle.beam_etf.proofs.Rooms.{read_at-whole, list_at-read, as_tuple, tuple_at-items}
use Rattle.beam_etf.proofs.Stack.{puts_err, puts_term_err, one_more}
use Rattle.beam_etf.proofs.reading.+read.Goals as goal

pub read_list-returns-in_err-read : goal.read_list-returns-in_err-read
read_list-returns-in_err-read t c =
    let part : c.loop.left ≡ suc (c.loop.left - 1) = omega arith in
    puts_err _ _ _ _ c.from_residual.result c.in_err-read.field-0.0 c.from_residual.ensures.1
    (λ n. list_at-read c.args.depth_left c.args.count c.args.rest.now.now c.requires.some c.if-count-depth_left.false
    ∙ list_ends (fault_of c.in_err-read.field-0.0) c.loop.invariant.1 c.loop.left (c.loop.left - 1) c.args.count c.loop.counter c.loop.rest.now _ c.loop-test.true part
    (read_at-whole (c.loop.left - 1) c.loop.rest.now ∙ c.in_err-read.ensures n) c.loop.invariant.3)

pub read_list-loop-preserved : goal.read_list-loop-preserved
read_list-loop-preserved t c =
    let part : c.loop.left ≡ suc (c.loop.left - 1) = omega arith in
    let x = c.in_ok-read.ensures.0 in (
      omega arith,
      c.loop.invariant.1 ++ x ∷ [],
      one_more c.args.done.now.items c.loop.invariant.1 c.loop.done.items c.read.new.done.items x c.loop.invariant.2 c.in_ok-read.ensures.1,
      list_go_on c.loop.invariant.1 c.loop.left (c.loop.left - 1) c.args.count c.loop.counter c.loop.rest.now x c.read.new.rest.now _ c.loop-test.true part
          (read_at-whole (c.loop.left - 1) c.loop.rest.now ∙ c.in_ok-read.ensures.2) c.loop.invariant.3,
    )

pub read_list-returns-in_err-read-2 : goal.read_list-returns-in_err-read-2
read_list-returns-in_err-read-2 t c =
    puts_err _ _ _ _ c.from_residual-in_err-read-2.result c.in_err-read-2.field-0.0 c.from_residual-in_err-read-2.ensures.1
    (λ n. list_at-read c.args.depth_left c.args.count c.args.rest.now.now c.requires.some c.if-count-depth_left.false
    ∙ list_tail c.loop.invariant.1 c.loop.left c.args.count c.loop.counter c.loop.rest.now _ c.loop-test.false c.loop.invariant.3
    ∙ ap (before_list c.loop.invariant.1) (read_at-whole c.loop.left c.loop.rest.now ∙ c.in_err-read-2.ensures n))

pub read_list-returns-in_err-put_list : goal.read_list-returns-in_err-put_list
read_list-returns-in_err-put_list t c =
    let len : length c.args.done.now.items ≡ c.len-start.result = omega (arith, c.args.done.now.ok, c.len-start.ensures) in
    let front = c.loop.invariant.1 in
    let tail = c.in_ok-read-2.ensures.0 in
    let read =
    list_tail front c.loop.left c.args.count c.loop.counter c.loop.rest.now _ c.loop-test.false c.loop.invariant.3
    ∙ ap (before_list front) (read_at-whole c.loop.left c.loop.rest.now ∙ c.in_ok-read-2.ensures.2) in
    let taken = read_takes c.args.depth_left c.args.count c.args.rest.now.now (list_before front tail) c.read-2.new.rest.now read in
    let all = one_more c.args.done.now.items front c.loop.done.items c.read-2.new.done.items tail c.loop.invariant.2 c.in_ok-read-2.ensures.1 in
    puts_term_err _ _ _ _ c.from_residual-in_err-put_list.result c.in_err-put_list.field-0.0 c.from_residual-in_err-put_list.ensures.1
    (λ e. omega (arith, c.in_err-put_list.ensures c.args.done.now.items front tail all len e, taken.shallow, c.requires.shallow))

pub read_list-returns : goal.read_list-returns
read_list-returns t c =
    let len : length c.args.done.now.items ≡ c.len-start.result = omega (arith, c.args.done.now.ok, c.len-start.ensures) in
    let front = c.loop.invariant.1 in
    let tail = c.in_ok-read-2.ensures.0 in
    let all = one_more c.args.done.now.items front c.loop.done.items c.read-2.new.done.items tail c.loop.invariant.2 c.in_ok-read-2.ensures.1 in (
      list_before front tail,
      c.in_ok-put_list.ensures c.args.done.now.items front tail all len,
      list_at-read c.args.depth_left c.args.count c.args.rest.now.now c.requires.some c.if-count-depth_left.false
          ∙ list_tail front c.loop.left c.args.count c.loop.counter c.loop.rest.now _ c.loop-test.false c.loop.invariant.3
          ∙ ap (before_list front) (read_at-whole c.loop.left c.loop.rest.now ∙ c.in_ok-read-2.ensures.2),
    )

pub read_tuple-returns-in_err-read : goal.read_tuple-returns-in_err-read
read_tuple-returns-in_err-read t c =
    let part : c.args.depth_left ≡ suc (c.args.depth_left - 1) = omega arith in
    puts_err _ _ _ _ c.from_residual.result c.in_err-read.field-0.0 c.from_residual.ensures.1
    (λ n. tuple_at-items c.args.depth_left (c.args.depth_left - 1) c.args.count c.args.rest.now.now part
    ∙ ap as_tuple (items_end (read_at (c.args.depth_left - 1) 0) (fault_of c.in_err-read.field-0.0) c.loop.invariant.0 c.args.count c.loop.counter c.loop.rest.now _ c.loop-test.true
    (read_at-whole (c.args.depth_left - 1) c.loop.rest.now ∙ c.in_err-read.ensures n) c.loop.invariant.2))

pub read_tuple-loop-preserved : goal.read_tuple-loop-preserved
read_tuple-loop-preserved t c =
    let x = c.in_ok-read.ensures.0 in (
      c.loop.invariant.0 ++ x ∷ [],
      one_more c.args.done.now.items c.loop.invariant.0 c.loop.done.items c.read.new.done.items x c.loop.invariant.1 c.in_ok-read.ensures.1,
      items_go_on (read_at (c.args.depth_left - 1) 0) c.loop.invariant.0 c.args.count c.loop.counter c.loop.rest.now x c.read.new.rest.now _ c.loop-test.true
          (read_at-whole (c.args.depth_left - 1) c.loop.rest.now ∙ c.in_ok-read.ensures.2) c.loop.invariant.2,
    )

pub read_tuple-returns-in_err-put_tuple : goal.read_tuple-returns-in_err-put_tuple
read_tuple-returns-in_err-put_tuple t c =
    let len : length c.args.done.now.items ≡ c.len-start.result = omega (arith, c.args.done.now.ok, c.len-start.ensures) in
    let part : c.args.depth_left ≡ suc (c.args.depth_left - 1) = omega arith in
    let front = c.loop.invariant.0 in
    let read = items_done (read_at (c.args.depth_left - 1) 0) front c.args.count c.loop.counter c.loop.rest.now _ c.loop-test.false c.loop.invariant.2 in
    let taken = items_takes (c.args.depth_left - 1) (read_at (c.args.depth_left - 1) 0) (term_takes (c.args.depth_left - 1)) c.args.count c.args.rest.now.now front c.loop.rest.now read in
    puts_term_err _ _ _ _ c.from_residual-in_err-put_tuple.result c.in_err-put_tuple.field-0.0 c.from_residual-in_err-put_tuple.ensures.1
    (λ e. elim (c.in_err-put_tuple.ensures c.args.done.now.items front c.loop.invariant.1 len e) [
      | inl deep ↦ omega (arith, deep, taken.shallow, c.requires, part)
      | inr long ↦ omega (arith, long, taken.count, c.ranges.count.fits)
    ])

pub read_tuple-returns : goal.read_tuple-returns
read_tuple-returns t c =
    let len : length c.args.done.now.items ≡ c.len-start.result = omega (arith, c.args.done.now.ok, c.len-start.ensures) in
    let part : c.args.depth_left ≡ suc (c.args.depth_left - 1) = omega arith in
    let front = c.loop.invariant.0 in
    let read = items_done (read_at (c.args.depth_left - 1) 0) front c.args.count c.loop.counter c.loop.rest.now _ c.loop-test.false c.loop.invariant.2 in (
      tuple_of front,
      c.in_ok-put_tuple.ensures c.args.done.now.items front c.loop.invariant.1 len,
      tuple_at-items c.args.depth_left (c.args.depth_left - 1) c.args.count c.args.rest.now.now part ∙ ap as_tuple read,
    )
