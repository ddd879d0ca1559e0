-- Parts of the programs' commands.
use Rattle.std.specs.Prelude.{◌∷◌, List, [], Some, codes, length, map, true}
use Rattle.clap.specs.Words.{App, Rule, Text, new_app, new_rule, with_rule, with_subcommand}
use Rattle.clap.specs.declared.builder.ArgAction.TheVariants.{Set, SetTrue}
use Rattle.clap.specs.declared.builder.value_parser.ValueParser.TheVariants.{Signed}
use Rattle.beam_tools.specs.declared.table.ArgumentRow.{ArgumentRow}
use Rattle.beam_tools.specs.declared.table.CommandTable.{CommandTable}
use Rattle.beam_tools.specs.declared.table.SubcommandRow.{SubcommandRow}
use Rattle.beam_tools.specs.declared.table.ArgumentForm.{ArgumentForm}
use Rattle.beam_tools.specs.declared.table.ArgumentForm.TheVariants.{Long, Number, Positional, Short}

-- `-v`, `--verbose`
abbrev pub verbose_rule : Rule
verbose_rule = record (new_rule (codes "verbose")) { short = Some 118; long = Some (codes "verbose"); action = Some SetTrue }

-- the command has a version
abbrev pub with_version : App → App
with_version a = record a { top = record a.top { has_version = true } }

-- one positional argument
abbrev pub positional_rule : Text → Rule
positional_rule id = record (new_rule id) { value_names = 1; action = Some Set; required = true }

-- the rule of an argument that is written in this form
abbrev pub written_as : ArgumentForm → Text → Rule → Rule
written_as Positional id rule = rule
written_as Long id rule = record rule { long = Some id }
written_as (Short letter) id rule = record rule { long = Some id; short = Some letter }
written_as (Number least most) id rule = record rule { long = Some id; parser = Some (Signed least most) }

-- the rule of an argument by its row, but for its form
abbrev pub placed_rule : ArgumentRow → Rule
placed_rule row = record (new_rule row.id.now) {
  value_names = length row.value_names.now;
  action = Some row.action;
  defaults = map (λ value. value.now) row.defaults.now;
  required = row.required;
}

-- the rule of an argument by its row
abbrev pub rule_by : ArgumentRow → Rule
rule_by row = written_as row.form row.id.now (placed_rule row)

-- a command with the arguments of these rows added
abbrev pub with_rows : App → List ArgumentRow → App
with_rows app [] = app
with_rows app (row ∷ rows) = with_rows (with_rule app (rule_by row)) rows

-- a subcommand by its row
abbrev pub subcommand_app : SubcommandRow → App
subcommand_app row = with_rows (new_app row.name.now) row.arguments.now

abbrev pub with_subcommands : App → List SubcommandRow → App
with_subcommands app [] = app
with_subcommands app (row ∷ rows) = with_subcommands (with_subcommand app (subcommand_app row).top) rows

-- a program's command by its table, at first without its subcommands
abbrev pub top_app : CommandTable → App
top_app table = with_rows (with_version (new_app table.name.now)) table.arguments.now

abbrev pub app_by : CommandTable → App
app_by table = with_subcommands (top_app table) table.subcommands.now
