use Rattle.beam_disasm.proofs.Files.{file_told, file_read}
use Rattle.beam_disasm.proofs.laws.files_are_read.Goals as goal

pub returns : goal.returns
returns c bytes l = (file_read bytes l, file_told bytes l)
