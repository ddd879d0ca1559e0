use Rattle.std.proofs.Common.{rules, sym, ◌∙◌, arith}
use Rattle.beam_etf.proofs.Lists.{item_depth}
use Rattle.beam_lengths.proofs.Forms.{string_length, list_length}
use Rattle.beam_lengths.proofs.external.+external.Goals as goal

pub after_items-after_term-requires : goal.after_items-after_term-requires
after_items-after_term-requires t c = (omega (arith, c.decreases, item_depth c.args.items.now c.loop-item.item-index c.item-item.result (omega arith) c.item-item.is), tt)

pub after_list-returns-then-is_byte_list : goal.after_list-returns-then-is_byte_list
after_list-returns-then-is_byte_list t c =
    let whole = string_length c.args.head.now c.args.tail.now c.args.list.now c.requires (sym c.is_byte_list.ensures ∙ c.if-is_byte_list.true)
    (omega (arith, c.pair_count.ensures.value, c.pair_count.ensures.few)) in
    search (rules, whole)

pub after_list-returns-in_err-checked_sub : goal.after_list-returns-in_err-checked_sub
after_list-returns-in_err-checked_sub t c =
    let whole = list_length c.args.head.now c.args.tail.now c.args.list.now c.requires (sym c.is_byte_list.ensures ∙ c.if-is_byte_list.false) in
    search (rules, whole)
