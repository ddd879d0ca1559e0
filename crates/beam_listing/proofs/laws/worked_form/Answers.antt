use Rattle.beam_listing.proofs.WorkedForm.{move_form}
use Rattle.beam_listing.proofs.laws.worked_form.Goals as goal

pub returns : goal.returns
returns c = move_form
