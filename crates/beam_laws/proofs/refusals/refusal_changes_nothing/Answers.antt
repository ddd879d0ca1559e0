use Rattle.beam_laws.proofs.Refusing.{refusal}
use Rattle.beam_laws.proofs.refusals.refusal_changes_nothing.Goals as goal

pub returns : goal.returns
returns c = refusal
