use Rattle.beam_disasm.proofs.Files.{one_listing}
use Rattle.beam_disasm.proofs.laws.one_listing.Goals as goal

pub returns : goal.returns
returns c = one_listing
