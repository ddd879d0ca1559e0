-- The file of a journal that is written. (This node's own.)
use Rattle.std.specs.Prelude.{◌≡◌, ◌<◌, ℕ, List, length, IfSome}
use Rattle.beam_blocks.specs.Blocks.{blocks_of}
use Rattle.beam_block_file.specs.StoredBlocks.{StoredBlocks}
use Rattle.beam_machine.specs.Prelude.{SentEvent}
use Rattle.beam_records.specs.JournalFile.{IsPage, Keeps}

-- a file, and the page that isn't written yet; how many entries stand in each
pub record WrittenJournal : Type 0 where
  pub file : StoredBlocks
  pub page : List ℕ
  pub written : ℕ
  pub taken : ℕ

-- these entries stand in the file, as far as its device tells
abbrev pub HasWritten : WrittenJournal → List SentEvent → Type 0
HasWritten j ss = (length ss ≡ j.written) × IfSome j.file.known (λ known. Keeps (blocks_of known.contents) ss)

-- the page has these entries, which follow those of the file
abbrev pub HasTaken : WrittenJournal → List SentEvent → Type 0
HasTaken j ss = (length ss ≡ j.taken) × (0 < j.taken → IsPage j.written j.page ss)
