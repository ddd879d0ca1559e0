use Rattle.std.proofs.Common.{rules}
use Rattle.beam_state.proofs.Keeping.{delivery_keeps}
use Rattle.beam_state.proofs.arrivals.deliver_at.Goals as goal

pub change-requires-clause-keeps : goal.change-requires-clause-keeps
change-requires-clause-keeps c = λ p q result there given. delivery_keeps p q result (search rules) (search rules)
