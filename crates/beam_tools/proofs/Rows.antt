-- The loops over the rows of a table.
use Rattle.std.proofs.Common.{◌≡◌, ◌<◌, ◌+◌, ◌∙◌, ap, drop, get_or, length, sym, List, ℕ}
use Rattle.std.proofs.lemmas.List.{at_drop_more}
use Rattle.clap.specs.Words.{App, with_rule, with_subcommand}
use Rattle.beam_tools.specs.Prelude.{rule_by, subcommand_app, with_rows, with_subcommands}
use Rattle.beam_tools.specs.declared.table.ArgumentRow.{ArgumentRow}
use Rattle.beam_tools.specs.declared.table.SubcommandRow.{SubcommandRow}

-- one argument more
pub row_more : (app next all : App) (rows : List ArgumentRow) (i : ℕ) (d : ArgumentRow) → i < length rows
    → next ≡ with_rule app (rule_by (get_or rows i d)) → with_rows app (drop i rows) ≡ all → with_rows next (drop (i + 1) rows) ≡ all
row_more app next all rows i d lt is so_far =
    ap (λ (a : App). with_rows a (drop (i + 1) rows)) is ∙ sym (at_drop_more (with_rows app) rows i d lt) ∙ so_far

-- one subcommand more
pub subcommand_more : (app next all : App) (rows : List SubcommandRow) (i : ℕ) (d : SubcommandRow) → i < length rows
    → next ≡ with_subcommand app (subcommand_app (get_or rows i d)).top → with_subcommands app (drop i rows) ≡ all
    → with_subcommands next (drop (i + 1) rows) ≡ all
subcommand_more app next all rows i d lt is so_far =
    ap (λ (a : App). with_subcommands a (drop (i + 1) rows)) is ∙ sym (at_drop_more (with_subcommands app) rows i d lt) ∙ so_far
