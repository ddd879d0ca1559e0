use Rattle.std.proofs.Common.{sym, ap, ◌∙◌}
use Rattle.beam_model.specs.Prelude.{byte_at}
use Rattle.beam_model.specs.declared.external.Form.TheVariants as forms
use Rattle.beam_etf.proofs.Empty.{no_empty}
use Rattle.beam_etf.proofs.Tags.{tag_is}
use Rattle.beam_etf.proofs.reading.read_front.Goals as goal

pub returns-in_ok-count-in-List-clause-some : goal.returns-in_ok-count-in-List-clause-some
returns-in_ok-count-in-List-clause-some c =
    let form = sym c.form_of.ensures ∙ c.in-List.is in
    no_empty c.args.bytes.now c.in_ok-tag.rest.now c.in_ok-count-in-List.rest.now c.in_ok-tag.tag c.in_ok-count-in-List.count
    (ap byte_at (sym c.after_empty_lists.ensures) ∙ c.in_ok-tag.ensures) (tag_is c.in_ok-tag.tag forms.List form) c.in_ok-count-in-List.ensures
