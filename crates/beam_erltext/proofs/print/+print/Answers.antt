use Rattle.std.proofs.Common.{arith}
use Rattle.beam_erltext.proofs.Items.{item_depth}
use Rattle.beam_erltext.proofs.print.+print.Goals as goal

pub print_items-print_term-requires : goal.print_items-print_term-requires
print_items-print_term-requires t c = (omega (arith, c.decreases, item_depth c.args.items.now c.loop-item.item-index c.item-item.result (omega arith) c.item-item.is), tt)
