-- The entries that leave a node's memory, and the file to which they are written. (This node's own.)
use Rattle.std.specs.Prelude.{◌≡◌, ◌++◌, List, map}
use Rattle.beam_journal_file.specs.WrittenJournal.{HasTaken, HasWritten, WrittenJournal}
use Rattle.beam_machine.specs.Prelude.{Entry, SentEvent, sent_event_of}

-- of these events the file and its page have all, in their order, but for those at the end
abbrev pub HasAllBut : List SentEvent → WrittenJournal → List SentEvent → Type 0
HasAllBut sent j end = (written taken : List SentEvent) × HasWritten j written × HasTaken j taken × (sent ≡ (written ++ taken) ++ end)

-- the file and its page have the first of these events, in their order
abbrev pub HasFirst : List SentEvent → WrittenJournal → Type 0
HasFirst sent j = (end : List SentEvent) × HasAllBut sent j end

-- the entries that left a node's memory, the file that takes them with its page, and the events of those that neither has yet
pub record NodeFile : Type 0 where
  pub drained : List Entry
  pub writer : WrittenJournal
  pub rest : List SentEvent

-- these entries left the node's memory too, and neither the file nor its page has them
pub record TakesMore (old new : NodeFile) : Type 0 where
  pub more : List SentEvent
  pub drained : map sent_event_of new.drained ≡ map sent_event_of old.drained ++ more
  pub rest : new.rest ≡ old.rest ++ more
  pub writer : new.writer ≡ old.writer
