use Rattle.std.proofs.Common.{rules}
use Rattle.beam_shared.proofs.checkout.Checkout.run.Goals as goal

pub invariant_of-result : goal.invariant_of-result
invariant_of-result g c = (search rules, search rules, (c.args.limit, search rules))
