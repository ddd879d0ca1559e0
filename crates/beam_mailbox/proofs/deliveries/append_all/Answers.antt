use Rattle.std.proofs.Common.{◌≡◌, ◌++◌, length, ap, rules, arith, length-append}
use Rattle.beam_mailbox.specs.Messages.{messages_of}
use Rattle.beam_mailbox.proofs.Short.{messages_short}
use Rattle.beam_mailbox.proofs.deliveries.append_all.Goals as goal

pub returns-clause-few : goal.returns-clause-few
returns-clause-few c =
    let all : c.loop-signal.messages.items ≡ c.args.messages.now.items ++ messages_of c.args.signals.now.items = search rules in
    omega (arith, ap length all, length-append c.args.messages.now.items (messages_of c.args.signals.now.items), messages_short c.args.signals.now.items)
