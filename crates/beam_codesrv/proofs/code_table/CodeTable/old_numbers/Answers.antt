use Rattle.std.proofs.Common.{◌≡◌, ◌||◌, sym, ap, ◌∙◌}
use Rattle.std.proofs.lemmas.List.{nil_from_length}
use Rattle.std.specs.List.{list_any}
use Rattle.beam_machine.specs.Prelude.{old_of}
use Rattle.beam_codesrv.specs.Several.{passes}
use Rattle.beam_codesrv.proofs.Several.{passes_so_far, one_further, no_further}
use Rattle.beam_codesrv.proofs.code_table.CodeTable.old_numbers.Goals as goal

pub loop-image-preserved : goal.loop-image-preserved
loop-image-preserved c = λ test.
    let code = c.args.self.now in
    let before = c.loop-image.numbers.keys in
    let after = c.add_number.new.numbers.keys in
    let others = c.in-Some.others.now in
    let here : list_any test after ≡ (list_any test before || passes test (old_of code c.in-Some.image.now.name))
    = c.in_ok-add_number.ensures test ∙ ap (λ o. list_any test before || passes test o) (c.old.ensures ∙ ap (old_of code) c.module.ensures) in
    one_further test before after code c.in-Some.image.now others here
    ∙ (ap (passes_so_far test before code) (sym c.in-Some.ensures.cases.0) ∙ c.loop-image.invariant test)

pub returns : goal.returns
returns c = λ test.
    let rest = c.loop-image.rest.now in
    no_further test c.loop-image.numbers.keys c.args.self.now rest (nil_from_length rest c.in_default.ensures.cases) ∙ c.loop-image.invariant test
