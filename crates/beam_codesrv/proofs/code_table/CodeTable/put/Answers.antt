use Rattle.std.proofs.Common.{nat_eq, sym, ap, ◌∙◌}
use Rattle.indexmap.specs.IndexMap.{get}
use Rattle.beam_machine.specs.Prelude.{Instance}
use Rattle.beam_codesrv.specs.Homes.{with_home, without, dropped_of}
use Rattle.beam_codesrv.proofs.Homes.{again_stands, again_code, first_stands, first_code}
use Rattle.beam_codesrv.proofs.code_table.CodeTable.put.Goals as goal

pub invariant_of-self-then-contains_key : goal.invariant_of-self-then-contains_key
invariant_of-self-then-contains_key c =
    let i : Instance = record { number = c.args.number; listing = c.in_ok-try_share.field-0 } in
    let done = c.in_ok-load_again.ensures in
    let home = get nat_eq c.self.inside.homes in
    let ms = c.self.inside.modules.entries in
    let name = c.in_ok-name.name in
    again_stands home (get nat_eq c.load_again.new.homes) i name ms c.load_again.new.modules.entries c.args.self.now c.self.view_is c.self.invariant c.requires.fresh (c.in_ok-name.ensures.cases ∙ (c.module.ensures ∙ ap (λ x. x.name) (sym c.in_ok-try_share.ensures))) (sym c.if-contains_key.true ∙ c.contains_key.ensures) done.modules
    (λ n. done.homes n ∙ ap (λ l. without (dropped_of name ms) (with_home c.args.number l home) n) (c.in_ok-home.ensures ∙ sym c.in_ok-try_share.ensures))

pub invariant_of-self-in_ok-load_first : goal.invariant_of-self-in_ok-load_first
invariant_of-self-in_ok-load_first c =
    let i : Instance = record { number = c.args.number; listing = c.in_ok-try_share.field-0 } in
    let done = c.in_ok-load_first.ensures in
    let home = get nat_eq c.self.inside.homes in
    first_stands home (get nat_eq c.load_first.new.homes) i c.in_ok-name.name c.self.inside.modules.entries c.load_first.new.modules.entries c.args.self.now c.self.view_is c.self.invariant c.requires.fresh (c.in_ok-name.ensures.cases ∙ (c.module.ensures ∙ ap (λ x. x.name) (sym c.in_ok-try_share.ensures))) (sym c.if-contains_key.false ∙ c.contains_key.ensures) done.modules
    (λ n. done.homes n ∙ ap (λ l. with_home c.args.number l home n) (c.in_ok-home.ensures ∙ sym c.in_ok-try_share.ensures))

pub returns-in_ok-load_again-clause-ok : goal.returns-in_ok-load_again-clause-ok
returns-in_ok-load_again-clause-ok c =
    again_code (record { number = c.args.number; listing = c.in_ok-try_share.field-0 }) c.args.image.now c.in_ok-name.name c.self.inside.modules.entries c.load_again.new.modules.entries c.args.self.now c.self.view_is c.in_ok-try_share.ensures (c.in_ok-name.ensures.cases ∙ c.module.ensures) (sym c.if-contains_key.true ∙ c.contains_key.ensures) c.in_ok-load_again.ensures.modules

pub returns-in_ok-load_first-clause-ok : goal.returns-in_ok-load_first-clause-ok
returns-in_ok-load_first-clause-ok c =
    first_code (record { number = c.args.number; listing = c.in_ok-try_share.field-0 }) c.args.image.now c.in_ok-name.name c.self.inside.modules.entries c.load_first.new.modules.entries c.args.self.now c.self.view_is c.in_ok-try_share.ensures (c.in_ok-name.ensures.cases ∙ c.module.ensures) (sym c.if-contains_key.false ∙ c.contains_key.ensures) c.in_ok-load_first.ensures.modules
