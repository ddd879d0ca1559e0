use Rattle.std.proofs.Common.{◌≡◌, suc, ◌-◌, ◌+◌, ◌<◌, ◌≤◌, ◌^◌, ◌++◌, ◌∷◌, [], List, Ok, length, inl, inr, sym, ap, ◌∙◌, length-append, arith, append-nil}
use Rattle.beam_model.specs.Prelude.{with_front, items_after, closed_by, tail_by, term_at, pairs_at, items_by}
use Rattle.beam_term.specs.Prelude.{TermValue, terms_of, list_before, tuple_of, depth_of, items_depth, items_depth-push}
use Rattle.beam_erltext.specs.Puts.{tuple_elements_at}
use Rattle.beam_erltext.specs.declared.read_fault.ReadFault.TheVariants as faults
use Rattle.beam_erltext.proofs.Items.{IsLeft, item_faults, items_spent, after}
use Rattle.beam_erltext.proofs.Pairs.{before_list, then_closed, as_tuple, tuple_long, tuple_short, pairs_item, pairs_end, pairs_none, fits_more}
use Rattle.beam_erltext.proofs.Stack.{puts_stop, puts_term_stop, stopped_in, one_more}
use Rattle.beam_erltext.proofs.read.+read.Goals as goal

pub read_list-returns-then-left-eq0 : goal.read_list-returns-then-left-eq0
read_list-returns-then-left-eq0 t c = pairs_none c.elements.invariant.1 c.elements.left c.elements.text.now (pairs_at c.args.depth_left c.args.text.now.now) c.if-left-eq0.true c.elements.invariant.3

pub read_list-returns-in_err-read : goal.read_list-returns-in_err-read
read_list-returns-in_err-read t c =
    let d = c.elements.left - 1 in
    let part : c.elements.left ≡ suc (c.elements.left - 1) = omega (arith, c.if-left-eq0.false) in
    let front = c.elements.invariant.1 in
    let total = pairs_at c.args.depth_left c.args.text.now.now in
    puts_stop _ _ _ _ _ _ c.from_residual.result c.in_err-read.field-0.0 c.from_residual.ensures.1
    (stopped_in (term_at d c.elements.text.now) total c.read.new.place c.in_err-read.field-0.0
    (λ e h. pairs_end e front c.elements.left d c.elements.text.now total part h c.elements.invariant.3) c.in_err-read.ensures)

pub read_list-returns-in_err-after_element : goal.read_list-returns-in_err-after_element
read_list-returns-in_err-after_element t c =
    let d = c.elements.left - 1 in
    let part : c.elements.left ≡ suc (c.elements.left - 1) = omega (arith, c.if-left-eq0.false) in
    let front = c.elements.invariant.1 in
    let x = c.in_ok-read.ensures.0 in
    let total = pairs_at c.args.depth_left c.args.text.now.now in
    let so_far : before_list (front ++ x ∷ []) (tail_by (term_at d) (pairs_at d) c.read.new.text.now) ≡ total =
    pairs_item front c.elements.left d c.elements.text.now x c.read.new.text.now total part c.in_ok-read.ensures.2 c.elements.invariant.3 in
    puts_stop _ _ _ _ _ _ c.from_residual-in_err-after_element.result c.in_err-after_element.field-0.0 c.from_residual-in_err-after_element.ensures.1
    (stopped_in (tail_by (term_at d) (pairs_at d) c.read.new.text.now) total c.after_element.new.place c.in_err-after_element.field-0.0
    (λ e h. sym so_far ∙ ap (before_list (front ++ x ∷ [])) h) (c.in_err-after_element.ensures (term_at d) (pairs_at d)))

pub read_list-elements-preserved : goal.read_list-elements-preserved
read_list-elements-preserved t c =
    let d = c.elements.left - 1 in
    let part : c.elements.left ≡ suc (c.elements.left - 1) = omega (arith, c.if-left-eq0.false) in
    let front = c.elements.invariant.1 in
    let x = c.in_ok-read.ensures.0 in
    let total = pairs_at c.args.depth_left c.args.text.now.now in
    let so_far : before_list (front ++ x ∷ []) (tail_by (term_at d) (pairs_at d) c.read.new.text.now) ≡ total =
    pairs_item front c.elements.left d c.elements.text.now x c.read.new.text.now total part c.in_ok-read.ensures.2 c.elements.invariant.3 in
    let done = one_more c.args.done.now.items front c.elements.done.items c.read.new.done.items x c.elements.invariant.2 c.in_ok-read.ensures.1 in
    let fits = fits_more front x c.elements.left d c.args.depth_left c.elements.invariant.4 part c.in_ok-read.ensures.3 in
    let behind = rw c.in-Element.is at c.in_ok-after_element.ensures in (
      omega (arith, c.elements.invariant.0),
      front ++ x ∷ [],
      done,
      ap (before_list (front ++ x ∷ [])) (sym (behind (term_at d) (pairs_at d))) ∙ so_far,
      fits,
    )

pub read_list-returns-in_err-put_list-in-End : goal.read_list-returns-in_err-put_list-in-End
read_list-returns-in_err-put_list-in-End t c =
    let d = c.elements.left - 1 in
    let part : c.elements.left ≡ suc (c.elements.left - 1) = omega (arith, c.if-left-eq0.false) in
    let front = c.elements.invariant.1 in
    let x = c.in_ok-read.ensures.0 in
    let total = pairs_at c.args.depth_left c.args.text.now.now in
    let so_far : before_list (front ++ x ∷ []) (tail_by (term_at d) (pairs_at d) c.read.new.text.now) ≡ total =
    pairs_item front c.elements.left d c.elements.text.now x c.read.new.text.now total part c.in_ok-read.ensures.2 c.elements.invariant.3 in
    let done = one_more c.args.done.now.items front c.elements.done.items c.read.new.done.items x c.elements.invariant.2 c.in_ok-read.ensures.1 in
    let fits = fits_more front x c.elements.left d c.args.depth_left c.elements.invariant.4 part c.in_ok-read.ensures.3 in
    let len : length c.args.done.now.items ≡ c.len-start.result = omega (arith, c.args.done.now.ok, c.len-start.ensures) in
    let all = one_more c.args.done.now.items (front ++ x ∷ []) c.read.new.done.items c.push.new.self.items c.nil.result done c.in_ok-push-in-End.ensures.items in
    let deep = fits c.nil.result (omega (arith, ap depth_of c.nil.ensures)) in
    puts_term_stop _ _ _ _ _ _ c.from_residual-in_err-put_list-in-End.result c.in_err-put_list-in-End.field-0.0 c.from_residual-in_err-put_list-in-End.ensures.1
    (λ e. omega (arith, c.in_err-put_list-in-End.ensures c.args.done.now.items (front ++ x ∷ []) c.nil.result all len e, deep, c.requires))

pub read_list-returns-in-End : goal.read_list-returns-in-End
read_list-returns-in-End t c =
    let d = c.elements.left - 1 in
    let part : c.elements.left ≡ suc (c.elements.left - 1) = omega (arith, c.if-left-eq0.false) in
    let front = c.elements.invariant.1 in
    let x = c.in_ok-read.ensures.0 in
    let total = pairs_at c.args.depth_left c.args.text.now.now in
    let so_far : before_list (front ++ x ∷ []) (tail_by (term_at d) (pairs_at d) c.read.new.text.now) ≡ total =
    pairs_item front c.elements.left d c.elements.text.now x c.read.new.text.now total part c.in_ok-read.ensures.2 c.elements.invariant.3 in
    let done = one_more c.args.done.now.items front c.elements.done.items c.read.new.done.items x c.elements.invariant.2 c.in_ok-read.ensures.1 in
    let fits = fits_more front x c.elements.left d c.args.depth_left c.elements.invariant.4 part c.in_ok-read.ensures.3 in
    let len : length c.args.done.now.items ≡ c.len-start.result = omega (arith, c.args.done.now.ok, c.len-start.ensures) in
    let behind = rw c.in-End.is at c.in_ok-after_element.ensures in
    let all = one_more c.args.done.now.items (front ++ x ∷ []) c.read.new.done.items c.push.new.self.items c.nil.result done c.in_ok-push-in-End.ensures.items in
    let deep = fits c.nil.result (omega (arith, ap depth_of c.nil.ensures)) in (
      list_before (front ++ x ∷ []) c.nil.result,
      c.in_ok-put_list-in-End.ensures c.args.done.now.items (front ++ x ∷ []) c.nil.result all len,
      sym so_far
          ∙ ap (before_list (front ++ x ∷ [])) (behind (term_at d) (pairs_at d))
          ∙ ap (λ (n : TermValue). Ok (list_before (front ++ x ∷ []) n, c.after_element.new.text.now)) (sym c.nil.ensures),
      deep,
    )

pub read_list-returns-in_err-read-in-Tail : goal.read_list-returns-in_err-read-in-Tail
read_list-returns-in_err-read-in-Tail t c =
    let d = c.elements.left - 1 in
    let part : c.elements.left ≡ suc (c.elements.left - 1) = omega (arith, c.if-left-eq0.false) in
    let front = c.elements.invariant.1 in
    let x = c.in_ok-read.ensures.0 in
    let total = pairs_at c.args.depth_left c.args.text.now.now in
    let so_far : before_list (front ++ x ∷ []) (tail_by (term_at d) (pairs_at d) c.read.new.text.now) ≡ total =
    pairs_item front c.elements.left d c.elements.text.now x c.read.new.text.now total part c.in_ok-read.ensures.2 c.elements.invariant.3 in
    let behind = rw c.in-Tail.is at c.in_ok-after_element.ensures in
    puts_stop _ _ _ _ _ _ c.from_residual-in_err-read-in-Tail.result c.in_err-read-in-Tail.field-0.0 c.from_residual-in_err-read-in-Tail.ensures.1
    (stopped_in (term_at d c.after_element.new.text.now) total c.read-in-Tail.new.place c.in_err-read-in-Tail.field-0.0
    (λ e h. sym so_far ∙ ap (before_list (front ++ x ∷ [])) (behind (term_at d) (pairs_at d) ∙ ap then_closed h)) c.in_err-read-in-Tail.ensures)

pub read_list-returns-in_err-close-in-Tail : goal.read_list-returns-in_err-close-in-Tail
read_list-returns-in_err-close-in-Tail t c =
    let d = c.elements.left - 1 in
    let part : c.elements.left ≡ suc (c.elements.left - 1) = omega (arith, c.if-left-eq0.false) in
    let front = c.elements.invariant.1 in
    let x = c.in_ok-read.ensures.0 in
    let total = pairs_at c.args.depth_left c.args.text.now.now in
    let so_far : before_list (front ++ x ∷ []) (tail_by (term_at d) (pairs_at d) c.read.new.text.now) ≡ total =
    pairs_item front c.elements.left d c.elements.text.now x c.read.new.text.now total part c.in_ok-read.ensures.2 c.elements.invariant.3 in
    let behind = rw c.in-Tail.is at c.in_ok-after_element.ensures in
    let tail = c.in_ok-read-in-Tail.ensures.0 in
    puts_stop _ _ _ _ _ _ c.from_residual-in_err-close-in-Tail.result c.in_err-close-in-Tail.field-0.0 c.from_residual-in_err-close-in-Tail.ensures.1
    (stopped_in (closed_by 93 tail c.read-in-Tail.new.text.now) total c.close.new.place c.in_err-close-in-Tail.field-0.0
    (λ e h. sym so_far ∙ ap (before_list (front ++ x ∷ [])) (behind (term_at d) (pairs_at d) ∙ ap then_closed c.in_ok-read-in-Tail.ensures.2 ∙ h)) (c.in_err-close-in-Tail.ensures tail))

pub read_list-returns-in_err-put_list-in-Tail : goal.read_list-returns-in_err-put_list-in-Tail
read_list-returns-in_err-put_list-in-Tail t c =
    let d = c.elements.left - 1 in
    let part : c.elements.left ≡ suc (c.elements.left - 1) = omega (arith, c.if-left-eq0.false) in
    let front = c.elements.invariant.1 in
    let x = c.in_ok-read.ensures.0 in
    let total = pairs_at c.args.depth_left c.args.text.now.now in
    let so_far : before_list (front ++ x ∷ []) (tail_by (term_at d) (pairs_at d) c.read.new.text.now) ≡ total =
    pairs_item front c.elements.left d c.elements.text.now x c.read.new.text.now total part c.in_ok-read.ensures.2 c.elements.invariant.3 in
    let done = one_more c.args.done.now.items front c.elements.done.items c.read.new.done.items x c.elements.invariant.2 c.in_ok-read.ensures.1 in
    let fits = fits_more front x c.elements.left d c.args.depth_left c.elements.invariant.4 part c.in_ok-read.ensures.3 in
    let len : length c.args.done.now.items ≡ c.len-start.result = omega (arith, c.args.done.now.ok, c.len-start.ensures) in
    let tail = c.in_ok-read-in-Tail.ensures.0 in
    let all = one_more c.args.done.now.items (front ++ x ∷ []) c.read.new.done.items c.read-in-Tail.new.done.items tail done c.in_ok-read-in-Tail.ensures.1 in
    let deep = fits tail c.in_ok-read-in-Tail.ensures.3 in
    puts_term_stop _ _ _ _ _ _ c.from_residual-in_err-put_list-in-Tail.result c.in_err-put_list-in-Tail.field-0.0 c.from_residual-in_err-put_list-in-Tail.ensures.1
    (λ e. omega (arith, c.in_err-put_list-in-Tail.ensures c.args.done.now.items (front ++ x ∷ []) tail all len e, deep, c.requires))

pub read_list-returns-in-Tail : goal.read_list-returns-in-Tail
read_list-returns-in-Tail t c =
    let d = c.elements.left - 1 in
    let part : c.elements.left ≡ suc (c.elements.left - 1) = omega (arith, c.if-left-eq0.false) in
    let front = c.elements.invariant.1 in
    let x = c.in_ok-read.ensures.0 in
    let total = pairs_at c.args.depth_left c.args.text.now.now in
    let so_far : before_list (front ++ x ∷ []) (tail_by (term_at d) (pairs_at d) c.read.new.text.now) ≡ total =
    pairs_item front c.elements.left d c.elements.text.now x c.read.new.text.now total part c.in_ok-read.ensures.2 c.elements.invariant.3 in
    let done = one_more c.args.done.now.items front c.elements.done.items c.read.new.done.items x c.elements.invariant.2 c.in_ok-read.ensures.1 in
    let fits = fits_more front x c.elements.left d c.args.depth_left c.elements.invariant.4 part c.in_ok-read.ensures.3 in
    let len : length c.args.done.now.items ≡ c.len-start.result = omega (arith, c.args.done.now.ok, c.len-start.ensures) in
    let behind = rw c.in-Tail.is at c.in_ok-after_element.ensures in
    let tail = c.in_ok-read-in-Tail.ensures.0 in
    let all = one_more c.args.done.now.items (front ++ x ∷ []) c.read.new.done.items c.read-in-Tail.new.done.items tail done c.in_ok-read-in-Tail.ensures.1 in
    let deep = fits tail c.in_ok-read-in-Tail.ensures.3 in (
      list_before (front ++ x ∷ []) tail,
      c.in_ok-put_list-in-Tail.ensures c.args.done.now.items (front ++ x ∷ []) tail all len,
      sym so_far ∙ ap (before_list (front ++ x ∷ [])) (behind (term_at d) (pairs_at d) ∙ ap then_closed c.in_ok-read-in-Tail.ensures.2 ∙ c.in_ok-close-in-Tail.ensures tail),
      deep,
    )

pub read_tuple-returns-in_err-read : goal.read_tuple-returns-in_err-read
read_tuple-returns-in_err-read t c =
    let text = c.args.text.now.now in
    let front = c.loop.invariant.0 in
    let total = items_by (term_at (c.args.depth_left - 1)) (length text) text in
    let left : IsLeft (term_at (c.args.depth_left - 1)) front (length text) c.loop.counter c.loop.text.now total = record { more = omega (arith, c.loop-test.true); completes = c.loop.invariant.2 } in
    puts_stop _ _ _ _ _ _ c.from_residual.result c.in_err-read.field-0.0 c.from_residual.ensures.1
    (stopped_in (term_at (c.args.depth_left - 1) c.loop.text.now) (tuple_elements_at (c.args.depth_left - 1) text) c.read.new.place c.in_err-read.field-0.0
    (λ e h. ap (as_tuple text) (item_faults (faults.At e) (term_at (c.args.depth_left - 1)) front (length text) c.loop.counter c.loop.text.now total left h)) c.in_err-read.ensures)

pub read_tuple-returns-in_err-after_item : goal.read_tuple-returns-in_err-after_item
read_tuple-returns-in_err-after_item t c =
    let text = c.args.text.now.now in
    let front = c.loop.invariant.0 in
    let total = items_by (term_at (c.args.depth_left - 1)) (length text) text in
    let left : IsLeft (term_at (c.args.depth_left - 1)) front (length text) c.loop.counter c.loop.text.now total = record { more = omega (arith, c.loop-test.true); completes = c.loop.invariant.2 } in
    let x = c.in_ok-read.ensures.0 in
    let others = items_by (term_at (c.args.depth_left - 1)) (length text - (c.loop.counter + 1)) in
    let so_far = after (term_at (c.args.depth_left - 1)) front (length text) c.loop.counter c.loop.text.now total x c.read.new.text.now left c.in_ok-read.ensures.2 in
    puts_stop _ _ _ _ _ _ c.from_residual-in_err-after_item.result c.in_err-after_item.field-0.0 c.from_residual-in_err-after_item.ensures.1
    (stopped_in (items_after others c.read.new.text.now) (tuple_elements_at (c.args.depth_left - 1) text) c.after_item.new.place c.in_err-after_item.field-0.0
    (λ e h. ap (as_tuple text) (sym so_far ∙ ap (with_front (front ++ x ∷ [])) h)) (c.in_err-after_item.ensures others))

pub read_tuple-returns-then-len-start : goal.read_tuple-returns-then-len-start
read_tuple-returns-then-len-start t c =
    let text = c.args.text.now.now in
    let front = c.loop.invariant.0 in
    let total = items_by (term_at (c.args.depth_left - 1)) (length text) text in
    let left : IsLeft (term_at (c.args.depth_left - 1)) front (length text) c.loop.counter c.loop.text.now total = record { more = omega (arith, c.loop-test.true); completes = c.loop.invariant.2 } in
    let x = c.in_ok-read.ensures.0 in
    let others = items_by (term_at (c.args.depth_left - 1)) (length text - (c.loop.counter + 1)) in
    let so_far = after (term_at (c.args.depth_left - 1)) front (length text) c.loop.counter c.loop.text.now total x c.read.new.text.now left c.in_ok-read.ensures.2 in
    let done = one_more c.args.done.now.items front c.loop.done.items c.read.new.done.items x c.loop.invariant.1 c.in_ok-read.ensures.1 in
    let shallow : items_depth (terms_of (front ++ x ∷ [])) ≤ c.args.depth_left - 1 = omega (arith, items_depth-push front x, c.loop.invariant.3, c.in_ok-read.ensures.3) in
    let end = rw c.if-not-branch.true at c.in_ok-after_item.ensures in
    let ended : total ≡ Ok (front ++ x ∷ [], c.after_item.new.text.now) =
    sym so_far ∙ ap (with_front (front ++ x ∷ [])) (end others) ∙ ap (λ (xs : List TermValue). Ok (xs, c.after_item.new.text.now)) (append-nil (front ++ x ∷ [])) in
    let all : length c.read.new.done.items ≡ length c.args.done.now.items + length (front ++ x ∷ []) = ap length done ∙ length-append c.args.done.now.items (front ++ x ∷ []) in
    let len : length c.args.done.now.items ≡ c.len-start.result = omega (arith, c.args.done.now.ok, c.len-start.ensures) in
    let long : 2 ^ 32 ≤ length (front ++ x ∷ []) = omega (arith, c.if-len-start.true, c.len.ensures, len, c.read.new.done.ok, all) in
    ap (as_tuple text) ended ∙ tuple_long text (front ++ x ∷ []) c.after_item.new.text.now long

pub read_tuple-returns-in_err-put_tuple : goal.read_tuple-returns-in_err-put_tuple
read_tuple-returns-in_err-put_tuple t c =
    let text = c.args.text.now.now in
    let front = c.loop.invariant.0 in
    let total = items_by (term_at (c.args.depth_left - 1)) (length text) text in
    let left : IsLeft (term_at (c.args.depth_left - 1)) front (length text) c.loop.counter c.loop.text.now total = record { more = omega (arith, c.loop-test.true); completes = c.loop.invariant.2 } in
    let x = c.in_ok-read.ensures.0 in
    let others = items_by (term_at (c.args.depth_left - 1)) (length text - (c.loop.counter + 1)) in
    let so_far = after (term_at (c.args.depth_left - 1)) front (length text) c.loop.counter c.loop.text.now total x c.read.new.text.now left c.in_ok-read.ensures.2 in
    let done = one_more c.args.done.now.items front c.loop.done.items c.read.new.done.items x c.loop.invariant.1 c.in_ok-read.ensures.1 in
    let shallow : items_depth (terms_of (front ++ x ∷ [])) ≤ c.args.depth_left - 1 = omega (arith, items_depth-push front x, c.loop.invariant.3, c.in_ok-read.ensures.3) in
    let all : length c.read.new.done.items ≡ length c.args.done.now.items + length (front ++ x ∷ []) = ap length done ∙ length-append c.args.done.now.items (front ++ x ∷ []) in
    let len : length c.args.done.now.items ≡ c.len-start.result = omega (arith, c.args.done.now.ok, c.len-start.ensures) in
    let short : length (front ++ x ∷ []) < 2 ^ 32 = omega (arith, c.if-len-start.false, c.len.ensures, len, c.read.new.done.ok, all) in
    puts_term_stop _ _ _ _ _ _ c.from_residual-in_err-put_tuple.result c.in_err-put_tuple.field-0.0 c.from_residual-in_err-put_tuple.ensures.1
    (λ e. elim (c.in_err-put_tuple.ensures c.args.done.now.items (front ++ x ∷ []) done len e) [
      | inl deep ↦ omega (arith, deep, shallow, c.requires.shallow, c.requires.some)
      | inr long ↦ omega (arith, long, short)
    ])

pub read_tuple-returns-then-not-branch : goal.read_tuple-returns-then-not-branch
read_tuple-returns-then-not-branch t c =
    let text = c.args.text.now.now in
    let front = c.loop.invariant.0 in
    let total = items_by (term_at (c.args.depth_left - 1)) (length text) text in
    let left : IsLeft (term_at (c.args.depth_left - 1)) front (length text) c.loop.counter c.loop.text.now total = record { more = omega (arith, c.loop-test.true); completes = c.loop.invariant.2 } in
    let x = c.in_ok-read.ensures.0 in
    let others = items_by (term_at (c.args.depth_left - 1)) (length text - (c.loop.counter + 1)) in
    let so_far = after (term_at (c.args.depth_left - 1)) front (length text) c.loop.counter c.loop.text.now total x c.read.new.text.now left c.in_ok-read.ensures.2 in
    let done = one_more c.args.done.now.items front c.loop.done.items c.read.new.done.items x c.loop.invariant.1 c.in_ok-read.ensures.1 in
    let shallow : items_depth (terms_of (front ++ x ∷ [])) ≤ c.args.depth_left - 1 = omega (arith, items_depth-push front x, c.loop.invariant.3, c.in_ok-read.ensures.3) in
    let end = rw c.if-not-branch.true at c.in_ok-after_item.ensures in
    let ended : total ≡ Ok (front ++ x ∷ [], c.after_item.new.text.now) =
    sym so_far ∙ ap (with_front (front ++ x ∷ [])) (end others) ∙ ap (λ (xs : List TermValue). Ok (xs, c.after_item.new.text.now)) (append-nil (front ++ x ∷ [])) in
    let all : length c.read.new.done.items ≡ length c.args.done.now.items + length (front ++ x ∷ []) = ap length done ∙ length-append c.args.done.now.items (front ++ x ∷ []) in
    let len : length c.args.done.now.items ≡ c.len-start.result = omega (arith, c.args.done.now.ok, c.len-start.ensures) in
    let short : length (front ++ x ∷ []) < 2 ^ 32 = omega (arith, c.if-len-start.false, c.len.ensures, len, c.read.new.done.ok, all) in (
      tuple_of (front ++ x ∷ []),
      c.in_ok-put_tuple.ensures c.args.done.now.items (front ++ x ∷ []) done len,
      ap (as_tuple text) ended ∙ tuple_short text (front ++ x ∷ []) c.after_item.new.text.now short,
      omega (arith, shallow, c.requires.some),
    )

pub read_tuple-loop-preserved : goal.read_tuple-loop-preserved
read_tuple-loop-preserved t c =
    let text = c.args.text.now.now in
    let front = c.loop.invariant.0 in
    let total = items_by (term_at (c.args.depth_left - 1)) (length text) text in
    let left : IsLeft (term_at (c.args.depth_left - 1)) front (length text) c.loop.counter c.loop.text.now total = record { more = omega (arith, c.loop-test.true); completes = c.loop.invariant.2 } in
    let x = c.in_ok-read.ensures.0 in
    let others = items_by (term_at (c.args.depth_left - 1)) (length text - (c.loop.counter + 1)) in
    let so_far = after (term_at (c.args.depth_left - 1)) front (length text) c.loop.counter c.loop.text.now total x c.read.new.text.now left c.in_ok-read.ensures.2 in
    let done = one_more c.args.done.now.items front c.loop.done.items c.read.new.done.items x c.loop.invariant.1 c.in_ok-read.ensures.1 in
    let shallow : items_depth (terms_of (front ++ x ∷ [])) ≤ c.args.depth_left - 1 = omega (arith, items_depth-push front x, c.loop.invariant.3, c.in_ok-read.ensures.3) in
    let more = rw c.if-not-branch.false at c.in_ok-after_item.ensures in (
      front ++ x ∷ [],
      done,
      sym (ap (with_front (front ++ x ∷ [])) (more others)) ∙ so_far,
      shallow,
    )

pub read_tuple-returns : goal.read_tuple-returns
read_tuple-returns t c =
    let text = c.args.text.now.now in
    ap (as_tuple text)
    (items_spent (term_at (c.args.depth_left - 1)) c.loop.invariant.0 (length text) c.loop.counter c.loop.text.now (items_by (term_at (c.args.depth_left - 1)) (length text) text) c.loop-test.false c.loop.invariant.2)
