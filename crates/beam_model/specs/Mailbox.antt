-- A mailbox: messages in the order of their delivery, with a save pointer (genop.tab, loop_rec, loop_rec_end and remove_message; the manual
-- of module erlang, demonitor/2).
use Rattle.std.specs.Prelude.{ℕ, Bool, ◌+◌, Option, List, [], ◌∷◌, ◌++◌, length, slice_get, remove, nat_lt, if◌then◌else◌}
use Rattle.beam_term.specs.Prelude.{TermValue}

pub record Mailbox : Type 0 where
  pub messages : List TermValue
  -- how many messages stand before the save pointer
  pub position : ℕ

-- a mailbox without messages
abbrev pub empty_mailbox : Mailbox
empty_mailbox = record { messages = []; position = 0 }

-- a message is delivered: it stands last
abbrev pub with_message : Mailbox → TermValue → Mailbox
with_message m t = record m { messages = m.messages ++ t ∷ [] }

-- the message at the save pointer
abbrev pub message_at : Mailbox → Option TermValue
message_at m = slice_get m.messages m.position

-- the save pointer after its message; where there is none it stays
abbrev pub with_next : Mailbox → Mailbox
with_next m = if nat_lt m.position (length m.messages) then record m { position = m.position + 1 } else m

-- the message at the save pointer taken out, and the pointer at the start; where there is none nothing changes
abbrev pub with_removed : Mailbox → Mailbox
with_removed m = if nat_lt m.position (length m.messages) then record { messages = remove m.messages m.position; position = 0 } else m

-- the save pointer at the start
abbrev pub with_reset : Mailbox → Mailbox
with_reset m = record m { position = 0 }

-- messages without the first one that passes a test
abbrev pub without_first : (TermValue → Bool) → List TermValue → List TermValue
without_first test [] = []
without_first test (t ∷ rest) = if test t then rest else t ∷ without_first test rest

-- the mailbox without the first message that passes a test, and with the save pointer at the start in any case
abbrev pub with_flushed : (TermValue → Bool) → Mailbox → Mailbox
with_flushed test m = with_reset (record m { messages = without_first test m.messages })
