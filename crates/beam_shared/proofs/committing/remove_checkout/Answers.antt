use Rattle.std.proofs.Common.{◌==◌, not, rules, tests}
use Rattle.std.proofs.lemmas.Fn.{filter_same}
use Rattle.beam_shared.specs.declared.checked_out.CheckoutEntry.{CheckoutEntry}
use Rattle.beam_shared.proofs.committing.remove_checkout.Goals as goal

pub returns : goal.returns
returns c = filter_same _ (λ (entry : CheckoutEntry). not (entry.pid == c.args.pid)) _ (λ entry kept g step. search (rules, tests)) _ _ c.retain.ensures.filtered
