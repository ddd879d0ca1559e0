use Rattle.std.proofs.Common.{rules, ◌≡◌}
use Rattle.beam_tools.specs.Prelude.{value_line}
use Rattle.beam_tools.proofs.Left.{left_begun}
use Rattle.beam_tools.proofs.node.print_value.Goals as goal

pub returns-clause-left : goal.returns-clause-left
returns-clause-left g c =
    let is : c.deref.result.now ≡ value_line c.args.value.now = search rules in
    left_begun g.O.Write.contents (λ t. t ≡ value_line c.args.value.now) c.print.result c.args.output.now c.print.new.output c.deref.result.now is
    c.print.ensures.fault c.print.ensures.begun
