use Rattle.std.proofs.Common.{◌≡◌, ap, ◌∙◌}
use Rattle.beam_model.specs.Prelude.{uncommented}
use Rattle.beam_listing.proofs.ReadResults.{spelled, only}
use Rattle.beam_listing.proofs.read.read_listing.Goals as goal

pub returns-clause-spelled : goal.returns-clause-spelled
returns-clause-spelled c =
    let shown : c.deref.result.now ≡ uncommented c.args.text.now = c.deref.ensures.value ∙ c.in_ok-shown.ensures ∙ ap uncommented c.as_bytes.ensures.value in
    spelled c.read_forms.result c.args.text.now c.deref.result.now shown c.read_forms.ensures.value

pub returns-clause-only : goal.returns-clause-only
returns-clause-only c =
    let shown : c.deref.result.now ≡ uncommented c.args.text.now = c.deref.ensures.value ∙ c.in_ok-shown.ensures ∙ ap uncommented c.as_bytes.ensures.value in
    only c.read_forms.result c.args.text.now c.deref.result.now shown c.read_forms.ensures.value c.read_forms.ensures.syntax c.read_forms.ensures.unknown
