use Rattle.std.proofs.Common.{◌≡◌, ◌∙◌, ap, List, Option, ℕ}
use Rattle.std.specs.Io.KnownBytes.{append_known}
use Rattle.clap.specs.Walk.{texts}
use Rattle.beam_tools.specs.Prelude.{report_text}
use Rattle.beam_tools.specs.declared.program.Program.TheVariants.{Assembler}
use Rattle.beam_tools.proofs.AppendedTexts.{two}
use Rattle.beam_tools.proofs.listing_report.report_beside.Goals as goal

pub returns-clause-told : goal.returns-clause-told
returns-clause-told g c =
    let more = c.tell_more.ensures in
    let text : List ℕ = report_text Assembler (texts c.args.words.now) c.args.text.now c.args.fault.now in
    let told : Option (List ℕ) = g.E.Errors.told c.args.errors.now in
    (more.0, more.1 ∙ ap (λ (t : Option (List ℕ)). append_known t more.0) c.report-status.ensures.told ∙ two told text more.0, more.2)
