use Rattle.std.proofs.Common.{◌≡◌, sym, ◌∙◌, rules, Some, option_map}
use Rattle.beam_machine.specs.Prelude.{versions_of, row_in, instance_of_version}
use Rattle.beam_debug.proofs.Named.{found_by_number}
use Rattle.beam_debug.proofs.spot.place_named.Goals as goal

pub returns : goal.returns
returns c =
    let code = c.args.table.now in
    let spot = c.args.spot.now in
    let number : option_map (λ i. i.number) (instance_of_version spot.version (versions_of code spot.«module»)) ≡ Some c.in_ok-number.number = search rules in
    c.row_of.ensures ∙ sym (found_by_number spot.version code spot.«module» c.in_ok-number.number (row_in spot.label spot.rows) c.is_live-live.ensures.once number)
