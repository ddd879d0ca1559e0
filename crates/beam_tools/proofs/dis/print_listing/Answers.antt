use Rattle.beam_lemmas.proofs.AnyError.{on_err}
use Rattle.beam_model.specs.Prelude.{listing_text}
use Rattle.beam_tools.proofs.Left.{flushed}
use Rattle.beam_tools.proofs.dis.print_listing.Goals as goal

pub returns-in-Ok-clause-begun : goal.returns-in-Ok-clause-begun
returns-in-Ok-clause-begun g c =
    on_err c.flush.result _ (flushed _ _ _ (listing_text c.args.listing.now) c.in-Ok.ensures.written c.flush.ensures.kept)
