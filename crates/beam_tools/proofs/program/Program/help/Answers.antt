use Rattle.std.proofs.Common.{ap, sym}
use Rattle.beam_tools.specs.Prelude.{help_of}
use Rattle.beam_tools.proofs.program.Program.help.Goals as goal

pub returns-in-Assembler : goal.returns-in-Assembler
returns-in-Assembler c = ap help_of (sym c.in-Assembler.is)

pub returns-in-Disassembler : goal.returns-in-Disassembler
returns-in-Disassembler c = ap help_of (sym c.in-Disassembler.is)

pub returns-in-Node : goal.returns-in-Node
returns-in-Node c = ap help_of (sym c.in-Node.is)
