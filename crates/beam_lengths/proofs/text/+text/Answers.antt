use Rattle.std.proofs.Common.{arith}
use Rattle.beam_etf.proofs.Lists.{item_depth}
use Rattle.beam_lengths.proofs.text.+text.Goals as goal

pub after_items-after_term-requires : goal.after_items-after_term-requires
after_items-after_term-requires t c = (omega (arith, c.decreases, item_depth c.args.items.now c.loop-item.item-index c.item-item.result (omega arith) c.item-item.is), tt)
