use Rattle.std.proofs.Common.{ap, ◌∙◌}
use Rattle.beam_machine.specs.Prelude.{listing_of}
use Rattle.beam_codesrv.proofs.code_table.CodeTable.image_of.Goals as goal

pub returns : goal.returns
returns c = c.get.ensures.value ∙ (c.self.invariant.homes c.args.number ∙ ap (λ code. listing_of code c.args.number) c.self.view_is)
