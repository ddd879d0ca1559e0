use Rattle.std.proofs.Common.{◌≡◌}
use Rattle.beam_mailbox.proofs.Mailbox.seal_all.Given as goal

abbrev pub invariant-loop : goal.invariant-loop
invariant-loop l = l.self ≡ l.fn.self
