use Rattle.beam_iff.specs.Chunks.{form_of}
use Rattle.beam_tables.proofs.ReadResults.{spelled, only}
use Rattle.beam_tables.proofs.read.read_tables.Goals as goal

pub returns-clause-spelled : goal.returns-clause-spelled
returns-clause-spelled c = spelled (λ t. t) _ (form_of c.args.chunks.now) c.tables.ensures

pub returns-clause-only : goal.returns-clause-only
returns-clause-only c = only (λ t. t) _ (form_of c.args.chunks.now) c.tables.ensures
