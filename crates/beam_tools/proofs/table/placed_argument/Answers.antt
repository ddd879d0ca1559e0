use Rattle.std.proofs.Common.{ap, ◌∙◌, Some, length, map}
use Rattle.clap.specs.Words.{Rule, rule_of}
use Rattle.clap.specs.declared.builder.arg.Arg.{Arg}
use Rattle.beam_tools.proofs.table.placed_argument.Goals as goal

pub returns-clause-rule : goal.returns-clause-rule
returns-clause-rule c =
    let row = c.args.row.now in
    let defaults = map (λ value. value.now) row.defaults.now in
    let names = length row.value_names.now in
    ap rule_of c.required.ensures
    ∙ ap (λ (a : Arg). record (rule_of a) { required = row.required }) c.default_values.ensures
    ∙ ap (λ (a : Arg). record (rule_of a) { required = row.required; defaults = defaults }) c.value_names.ensures
    ∙ ap (λ (a : Arg). record (rule_of a) { required = row.required; defaults = defaults; value_names = names }) c.action.ensures
    ∙ ap (λ (r : Rule). record r { required = row.required; defaults = defaults; value_names = names; action = Some row.action }) c.new.ensures.rule

pub returns-clause-local : goal.returns-clause-local
returns-clause-local c =
    ap (λ (a : Arg). a.global) c.required.ensures ∙ ap (λ (a : Arg). a.global) c.default_values.ensures
    ∙ ap (λ (a : Arg). a.global) c.value_names.ensures ∙ ap (λ (a : Arg). a.global) c.action.ensures ∙ c.new.ensures.optional.1
