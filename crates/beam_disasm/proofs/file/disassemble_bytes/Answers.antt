use Rattle.beam_iff.specs.Chunks.{form_of}
use Rattle.beam_disasm.proofs.ReadResults.{given, spelled, only}
use Rattle.beam_disasm.proofs.file.disassemble_bytes.Goals as goal

-- bytes that aren't a form aren't a file
pub returns-in_err-chunks-clause-only : goal.returns-in_err-chunks-clause-only
returns-in_err-chunks-clause-only c = λ l is. absurd (c.in_err-chunks.ensures.only is.form is.is_form)

pub returns-clause-spelled : goal.returns-clause-spelled
returns-clause-spelled c = spelled (λ d. d.listing) _ c.args.bytes.now (given (λ d. d.listing) _ c.args.bytes.now (form_of c.in_ok-chunks.field-0) c.in_ok-chunks.ensures.found c.of_form.ensures.listing)

pub returns-clause-only : goal.returns-clause-only
returns-clause-only c = only (λ d. d.listing) _ c.args.bytes.now (given (λ d. d.listing) _ c.args.bytes.now (form_of c.in_ok-chunks.field-0) c.in_ok-chunks.ensures.found c.of_form.ensures.listing)
