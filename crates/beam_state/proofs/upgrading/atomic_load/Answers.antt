use Rattle.std.proofs.Common.{rules, ◌≡◌, ◌+◌, ◌<◌, ◌≤◌, ◌^◌, true, false, length, sym, ◌∙◌}
use Rattle.std.specs.List.{list_any}
use Rattle.beam_machine.specs.Prelude.{State, are_apart, stands_in_way, end_olds}
use Rattle.beam_model.specs.Prelude.{is_erlang}
use Rattle.beam_state.specs.Prelude.{node, parts}
use Rattle.beam_state.proofs.Upgrades.{unpurged, too_many, done}
use Rattle.beam_state.proofs.upgrading.atomic_load.Goals as goal

pub returns-then-any_stands_in_way-clause-next : goal.returns-then-any_stands_in_way-clause-next
returns-then-any_stands_in_way-clause-next c = λ clock count.
    let s : State = node c.args.code.now (parts c.args.processes.now clock c.args.instances.now count) in
    let ordinary : list_any (λ l. is_erlang l.name) c.args.images.now ≡ false = search rules in
    let once : are_apart c.args.images.now ≡ true = search rules in
    let stands = rw c.as_slice.ensures at (c.any_stands_in_way.ensures c.args.code.now c.args.images.now clock c.args.instances.now count c.in_ok-old.ensures) in
    unpurged s c.args.mode c.args.images.now ordinary once (sym stands ∙ c.if-any_stands_in_way.true)

pub returns-in_default-clause-next : goal.returns-in_default-clause-next
returns-in_default-clause-next c = λ clock count.
    let s : State = node c.args.code.now (parts c.args.processes.now clock c.args.instances.now count) in
    let ordinary : list_any (λ l. is_erlang l.name) c.args.images.now ≡ false = search rules in
    let once : are_apart c.args.images.now ≡ true = search rules in
    let many : 2 ^ 32 ≤ c.args.instances.now + length c.args.images.now = search rules in
    let stands = rw c.as_slice.ensures at (c.any_stands_in_way.ensures c.args.code.now c.args.images.now clock c.args.instances.now count c.in_ok-old.ensures) in
    too_many s c.args.mode c.args.images.now ordinary once (sym stands ∙ c.if-any_stands_in_way.false) many

pub returns-clause-next : goal.returns-clause-next
returns-clause-next c = λ clock count.
    let s : State = node c.args.code.now (parts c.args.processes.now clock c.args.instances.now count) in
    let ordinary : list_any (λ l. is_erlang l.name) c.args.images.now ≡ false = search rules in
    let once : are_apart c.args.images.now ≡ true = search rules in
    let few : c.args.instances.now + length c.args.images.now < 2 ^ 32 = search rules in
    let stands = rw c.as_slice.ensures at (c.any_stands_in_way.ensures c.args.code.now c.args.images.now clock c.args.instances.now count c.in_ok-old.ensures) in
    let clear : list_any (λ l. stands_in_way c.args.mode s l.name) c.args.images.now ≡ false = sym stands ∙ c.if-any_stands_in_way.false in
    let ended : c.make_way.new.processes ≡ (end_olds s c.args.images.now).processes
    = c.in_ok-make_way.ensures.ok c.args.code.now c.args.images.now clock c.args.instances.now count c.in_ok-old.ensures clear in
    let is = done s c.args.mode c.args.images.now ordinary once clear few in
    search rules
