use Rattle.std.proofs.Common.{nat_eq, ap, subst, ◌∙◌, ◌≤◌}
use Rattle.indexmap.specs.IndexMap.{get}
use Rattle.beam_laws.specs.Prelude.{how_many}
use Rattle.beam_machine.specs.Prelude.{is_live}
use Rattle.beam_codesrv.specs.Homes.{code_of}
use Rattle.beam_codesrv.proofs.Homes.{live_is}
use Rattle.beam_codesrv.proofs.code_table.CodeTable.is_live.Goals as goal

pub returns-clause-live : goal.returns-clause-live
returns-clause-live c =
    c.contains_key.ensures ∙ (live_is (get nat_eq c.self.inside.homes) c.args.number (code_of c.self.inside.modules.entries) c.self.invariant ∙ ap (λ code. is_live code c.args.number) c.self.view_is)

pub returns-clause-once : goal.returns-clause-once
returns-clause-once c = subst (λ code. how_many c.args.number code ≤ 1) c.self.view_is (c.self.invariant.once c.args.number)
