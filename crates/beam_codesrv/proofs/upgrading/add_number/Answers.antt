use Rattle.std.proofs.Common.{◌||◌, sym, ap, ◌∙◌}
use Rattle.std.specs.List.{list_any}
use Rattle.beam_codesrv.specs.Several.{passes}
use Rattle.beam_codesrv.proofs.Several.{added, or_false}
use Rattle.beam_codesrv.proofs.upgrading.add_number.Goals as goal

pub returns-in-None : goal.returns-in-None
returns-in-None c = λ test.
    let ns = c.args.numbers.now.keys in
    or_false (list_any test ns) ∙ ap (λ o. list_any test ns || passes test o) (sym c.in-None.is)

pub returns-in_ok-insert-in-Some : goal.returns-in_ok-insert-in-Some
returns-in_ok-insert-in-Some c = λ test.
    let ns = c.args.numbers.now.keys in
    ap (list_any test) c.in_ok-insert-in-Some.ensures.keys ∙ (added test c.in-Some.number ns ∙ ap (λ o. list_any test ns || passes test o) (sym c.in-Some.is))
