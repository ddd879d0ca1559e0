use Rattle.std.proofs.Common.{subst}
use Rattle.std.specs.List.{All}
use Rattle.beam_model.specs.Prelude.{numbering_of, without_line_numbers}
use Rattle.beam_term.specs.Prelude.{IsTerm}
use Rattle.beam_disasm.proofs.Files.{file_told}
use Rattle.beam_asm.proofs.Canonical.{assembled}
use Rattle.beam_asm.proofs.asm.assemble.Goals as goal

pub returns-clause-spells : goal.returns-clause-spells
returns-clause-spells c =
    let l = c.args.listing.now in
    let lawful : All IsTerm (numbering_of l).literals = subst (λ n. All IsTerm n.literals) c.in_ok-numbering.ensures.numbers c.in_ok-numbering.ensures.lawful in
    assembled l c.in_ok-bytes.bytes.items c.in_ok-check.ensures.loadable lawful c.in_ok-bytes.ensures.file

pub returns-clause-stands : goal.returns-clause-stands
returns-clause-stands c = file_told c.in_ok-bytes.bytes.items (without_line_numbers c.args.listing.now) (returns-clause-spells c)
