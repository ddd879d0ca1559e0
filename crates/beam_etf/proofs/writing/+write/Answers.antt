use Rattle.std.proofs.Common.{◌≡◌, ℕ, List, ◌∷◌, [], ◌++◌, length, sym, ap, subst, ◌∙◌, append_assoc, arith, OnOk, false, true}
use Rattle.std.specs.Int.{to_be_bytes, w32}
use Rattle.beam_model.specs.Prelude.{tuple_front, pair_count, written_part, all_written}
use Rattle.beam_term.specs.Prelude.{terms_of, IsInRange, count_of-terms_of}
use Rattle.beam_etf.proofs.Lists.{string_is, list_is, item_depth}
use Rattle.beam_etf.proofs.writing.+write.Goals as goal

pub write-overflow_cast-items : goal.write-overflow_cast-items
write-overflow_cast-items t c =
    let range = subst IsInRange (sym c.in-Tuple.ensures.value) c.in-Tuple.ensures.lawful.in_range in
    omega (arith, range.0, count_of-terms_of c.in-Tuple.items.now)

pub write-returns-in_ok-write_tuple_front-in-Tuple : goal.write-returns-in_ok-write_tuple_front-in-Tuple
write-returns-in_ok-write_tuple_front-in-Tuple t c =
    let xs = c.in-Tuple.items.now in
    let out = c.args.out.now.items in
    let path =
    ap (λ (o : List ℕ). o ++ all_written (terms_of xs)) c.in_ok-write_tuple_front-in-Tuple.ensures
    ∙ append_assoc out (tuple_front (length xs)) (all_written (terms_of xs))
    ∙ ap (λ (n : ℕ). out ++ (tuple_front n ++ all_written (terms_of xs))) (sym (count_of-terms_of xs))
    ∙ ap (λ t. out ++ written_part false t) c.in-Tuple.ensures.value in
    subst (λ (o : List ℕ). OnOk c.write_items.result (c.write_items.new.out.items ≡ o)) path c.write_items.ensures

pub write_items-write-requires : goal.write_items-write-requires
write_items-write-requires t c = omega (arith, c.decreases, item_depth c.args.items.now c.loop-item.item-index c.item-item.result (omega arith) c.item-item.is)

pub write_list-returns-then-is_byte_list : goal.write_list-returns-then-is_byte_list
write_list-returns-then-is_byte_list t c =
    let is = string_is c.args.head.now c.args.tail.now c.args.list.now c.requires (sym c.is_byte_list.ensures ∙ c.if-is_byte_list.true)
    (omega (arith, c.pair_count-count.ensures.value, c.pair_count-count.ensures.few)) in
    subst (λ (o : List ℕ). OnOk c.write_string.result (c.write_string.new.out.items ≡ c.args.out.now.items ++ o)) (sym is) c.write_string.ensures

pub write_list-returns : goal.write_list-returns
write_list-returns t c =
    let out = c.args.out.now.items in
    let elements = written_part false c.args.head.now ++ written_part true c.args.tail.now in
    let is = list_is c.args.head.now c.args.tail.now c.args.list.now c.requires (sym c.is_byte_list.ensures ∙ c.if-is_byte_list.false) in
    let path =
    ap (λ (o : List ℕ). o ++ elements) c.in_ok-write_list_front.ensures
    ∙ ap (λ (n : ℕ). (out ++ (108 ∷ to_be_bytes w32 n)) ++ elements) c.pair_count-count.ensures.value
    ∙ append_assoc out (108 ∷ to_be_bytes w32 (pair_count c.args.list.now)) elements
    ∙ ap (λ (o : List ℕ). out ++ o) (sym is) in
    subst (λ (o : List ℕ). OnOk c.write_elements.result (c.write_elements.new.out.items ≡ o)) path c.write_elements.ensures
