use Rattle.std.proofs.Common.{◌≡◌, rules}
use Rattle.beam_model.specs.Prelude.{row_of_label}
use Rattle.beam_shapes.proofs.Labels.{row_is}
use Rattle.beam_shapes.proofs.rows.LabelledCode.row_of.Goals as goal

pub returns-clause-within : goal.returns-clause-within
returns-clause-within c =
    let is : c.row.result ≡ row_of_label c.args.label 0 c.args.self.now = search rules in
    row_is c.row.result c.args.label c.args.self.now is
