use Rattle.std.proofs.Common.{ap, ◌∙◌}
use Rattle.beam_codesrv.specs.Homes.{code_of}
use Rattle.beam_codesrv.proofs.Copies.{same_entries, copied_stands}
use Rattle.beam_codesrv.proofs.code_table.CodeTable.try_copy.Goals as goal

pub invariant_of-result : goal.invariant_of-result
invariant_of-result c =
    copied_stands _ _ _ _ (same_entries _ _ c.in_ok-clone-2.ensures.cases) (same_entries _ _ c.in_ok-clone.ensures.cases) c.self.invariant

pub returns : goal.returns
returns c = ap code_of (same_entries _ _ c.in_ok-clone.ensures.cases) ∙ c.self.view_is
