-- What is told of modules, as tokens of JSON.
use Rattle.std.specs.Prelude.{List, ◌++◌, codes}
use Rattle.json.specs.Token.{Token}
use Rattle.beam_page.specs.Json.{array, count, member, object, or_null, text, truth}
use Rattle.beam_page.specs.declared.module.InstanceFacts.{InstanceFacts}
use Rattle.beam_page.specs.declared.module.ModuleFacts.{ModuleFacts}
use Rattle.beam_page.specs.declared.module.ModuleList.{ModuleList}
use Rattle.beam_page.specs.declared.module.OldInstance.{OldInstance}

unfoldable pub instance_tokens : InstanceFacts → List Token
instance_tokens i = object (member (codes "instance") (count i.instance) ++ member (codes "instructions") (count i.instructions))

unfoldable pub old_instance_tokens : OldInstance → List Token
old_instance_tokens o = object (
    member (codes "instance") (count o.instance) ++ member (codes "instructions") (count o.instructions) ++
    member (codes "lingering") (count o.lingering) ++ member (codes "first") (array count o.first.items))

unfoldable pub module_tokens : ModuleFacts → List Token
module_tokens m = object (
    member (codes "name") (text m.name) ++ member (codes "current") (or_null instance_tokens m.current) ++
    member (codes "old") (or_null old_instance_tokens m.old))

unfoldable pub module_list_tokens : ModuleList → List Token
module_list_tokens l = object (
    member (codes "modules") (array module_tokens l.modules.items) ++ member (codes "next") (or_null count l.next) ++
    member (codes "partial") (truth l.is_partial))
