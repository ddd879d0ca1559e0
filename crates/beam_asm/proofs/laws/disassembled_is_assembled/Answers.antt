use Rattle.beam_asm.proofs.Canonical.{file_canonical, reassembled}
use Rattle.beam_asm.proofs.laws.disassembled_is_assembled.Goals as goal

pub returns-clause-canonical : goal.returns-clause-canonical
returns-clause-canonical c = file_canonical

pub returns-clause-same : goal.returns-clause-same
returns-clause-same c = reassembled
