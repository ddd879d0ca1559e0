use Rattle.beam_iff.proofs.Forms.{form_told, form_read}
use Rattle.beam_iff.proofs.laws.forms_are_read.Goals as goal

pub returns : goal.returns
returns c bytes form = (form_read bytes form, form_told bytes form)
