use Rattle.std.proofs.Common.{rules}
use Rattle.beam_print.proofs.Texts.{call_done}
use Rattle.beam_print.proofs.operand_text.print_split.Goals as goal

pub returns : goal.returns
returns c = call_done c.print_operand.result c.args.out.now.items c.print_operands.new.out.items c.extend_from_slice.new.self.items c.print_operand.new.out.items c.args.arguments.now c.args.dest.now (search rules) (search rules) c.print_operand.ensures
