use Rattle.std.proofs.Common.{nat_eq, None, ap, ◌∙◌}
use Rattle.indexmap.specs.IndexMap.{get}
use Rattle.beam_codesrv.proofs.Homes.{named_once, tidied_change, deleted_stands, deleted_code}
use Rattle.beam_codesrv.specs.Homes.{tidied}
use Rattle.beam_codesrv.proofs.code_table.CodeTable.retire.Goals as goal

pub invariant_of-self : goal.invariant_of-self
invariant_of-self c =
    let ms = c.self.inside.modules.entries in
    let name = c.args.name.now in
    let done = c.delete_in-dropped.ensures in
    deleted_stands (get nat_eq c.self.inside.homes) (get nat_eq c.forget.new.homes) c.delete_in-dropped.result name ms c.tidy.new.modules.entries (named_once ms done.unique) c.self.invariant done.dropped (c.tidy.ensures ∙ (ap (tidied name) done.entries ∙ tidied_change (λ v. (None, v.0)) name ms)) c.forget.ensures

pub returns : goal.returns
returns c =
    let ms = c.self.inside.modules.entries in
    let name = c.args.name.now in
    let done = c.delete_in-dropped.ensures in
    deleted_code name ms c.tidy.new.modules.entries c.args.self.now c.self.view_is (named_once ms done.unique) (c.tidy.ensures ∙ (ap (tidied name) done.entries ∙ tidied_change (λ v. (None, v.0)) name ms))
