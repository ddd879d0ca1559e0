use Rattle.beam_receipts.proofs.Moves.{begins}
use Rattle.beam_receipts.proofs.keeper.UnbrandedKeeper.new.Goals as goal

pub of_words-requires : goal.of_words-requires
of_words-requires c = begins
