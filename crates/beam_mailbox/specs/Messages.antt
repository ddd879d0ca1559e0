-- The messages among signals.
use Rattle.std.specs.Prelude.{Bool, false, List, [], ◌∷◌, ◌++◌, Option, Some, None}
use Rattle.beam_model.specs.Prelude.{Mailbox}
use Rattle.beam_machine.specs.declared.process.Signal.{Signal}
use Rattle.beam_machine.specs.declared.process.Signal.TheVariants.{Message, Exit, Down}
use Rattle.beam_machine.specs.Prelude.{is_of_reference}
use Rattle.beam_term.specs.Prelude.{TermValue}

-- the messages, in their order
abbrev pub messages_of : List Signal → List TermValue
messages_of [] = []
messages_of (Message t ∷ rest) = t ∷ messages_of rest
messages_of (Exit sender reason ∷ rest) = messages_of rest
messages_of (Down reference reason ∷ rest) = messages_of rest

-- messages are delivered: they stand last, in their order
abbrev pub with_messages : Mailbox → List TermValue → Mailbox
with_messages m ts = record m { messages = m.messages ++ ts }

-- whether there is a message, and it is one of a reference
abbrev pub is_one_of_reference : TermValue → Option TermValue → Bool
is_one_of_reference reference (Some t) = is_of_reference reference t
is_one_of_reference reference None = false
