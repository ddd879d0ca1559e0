use Rattle.std.proofs.Common.{sym, ◌∙◌}
use Rattle.beam_codesrv.proofs.Homes.{tidy_removed, tidy_kept}
use Rattle.beam_codesrv.proofs.code_table.tidy.Goals as goal

pub returns-then-is_bare : goal.returns-then-is_bare
returns-then-is_bare c =
    c.shift_remove.ensures.entries ∙ tidy_removed c.args.name.now c.args.modules.now.entries (sym c.is_bare.ensures ∙ c.if-is_bare.true)

pub returns-else-is_bare : goal.returns-else-is_bare
returns-else-is_bare c = tidy_kept c.args.name.now c.args.modules.now.entries (sym c.is_bare.ensures ∙ c.if-is_bare.false)
