-- There are no more messages than signals.
use Rattle.std.proofs.Common.{◌≤◌, List, [], ◌∷◌, length, arith}
use Rattle.beam_machine.specs.declared.process.Signal.{Signal}
use Rattle.beam_machine.specs.declared.process.Signal.TheVariants.{Message, Exit, Down}
use Rattle.beam_mailbox.specs.Messages.{messages_of}

pub messages_short : (signals : List Signal) → length (messages_of signals) ≤ length signals
messages_short [] = omega arith
messages_short (Message t ∷ rest) = omega (arith, messages_short rest)
messages_short (Exit sender reason ∷ rest) = omega (arith, messages_short rest)
messages_short (Down reference reason ∷ rest) = omega (arith, messages_short rest)
