use Rattle.beam_asm.proofs.Canonical.{assembled}
use Rattle.beam_asm.proofs.laws.assembled_is_disassembled.Goals as goal

pub returns : goal.returns
returns c = assembled
