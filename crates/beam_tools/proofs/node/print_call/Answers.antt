use Rattle.std.proofs.Common.{◌≡◌}
use Rattle.beam_tools.specs.Prelude.{Contents, IsValueLine, value_line, call_line}
use Rattle.beam_tools.proofs.Left.{left_more, untouched}
use Rattle.beam_tools.proofs.node.print_call.Goals as goal

pub returns-in-Ok-clause-left : goal.returns-in-Ok-clause-left
returns-in-Ok-clause-left g c =
    let files : Contents = g.F.Files.contents c.args.files.now in
    let line = call_line c.args.line.now in
    left_more g.O.Write.contents (λ t. t ≡ value_line c.in-Ok.value) (IsValueLine files line) c.print_value.result c.args.output.now c.print_value.new.output
    (λ t h. (c.in-Ok.value, c.in-Ok.ensures.value, h)) c.print_value.ensures.left

pub returns-in-Err-clause-left : goal.returns-in-Err-clause-left
returns-in-Err-clause-left g c =
    untouched g.O.Write.contents (IsValueLine (g.F.Files.contents c.args.files.now) (call_line c.args.line.now)) c.in-Err.fault c.args.output.now
    c.in-Err.ensures.unprinted
