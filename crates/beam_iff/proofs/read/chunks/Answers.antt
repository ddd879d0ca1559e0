use Rattle.beam_iff.proofs.ReadResults.{given, spelled, only, refused}
use Rattle.beam_iff.proofs.read.chunks.Goals as goal

pub returns-in_err-content-clause-only : goal.returns-in_err-content-clause-only
returns-in_err-content-clause-only c = λ form is. absurd (refused c.args.bytes.now c.in_err-content.field-0.0 c.in_err-content.ensures form is)

pub returns-clause-spelled : goal.returns-clause-spelled
returns-clause-spelled c = spelled _ c.args.bytes.now (given _ c.args.bytes.now c.in_ok-content.field-0.now c.in_ok-content.ensures c.all_chunks.ensures)

pub returns-clause-only : goal.returns-clause-only
returns-clause-only c = only _ c.args.bytes.now (given _ c.args.bytes.now c.in_ok-content.field-0.now c.in_ok-content.ensures c.all_chunks.ensures)
