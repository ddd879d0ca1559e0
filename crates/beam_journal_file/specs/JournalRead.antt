-- A journal's file that is read. (This node's own.)
use Rattle.std.specs.Prelude.{◌≡◌, ◌<◌, ◌≤◌, ◌+◌, ◌⊎◌, ℕ, List, [], ◌∷◌, ◌++◌, length, Option, Some, None, option_map, IfSome}
use Rattle.byteorder.specs.Endian.{big_bytes}
use Rattle.beam_block_file.specs.declared.front.Front.TheVariants.{Cut}
use Rattle.beam_block_file.specs.Fronts.{front_in}
use Rattle.beam_block_file.specs.StoredBlocks.{IsNext, KnownBlocks, with_next}
use Rattle.beam_machine.specs.Prelude.{SentEvent}
use Rattle.beam_records.specs.JournalFile.{IsPage, IsRecord, head_of}

-- the blocks that were read, as far as the device tells them, and the records of the last of them that are still to be given; the number of
-- the next entry, and of the one before which the reader ends
pub record JournalRead : Type 0 where
  pub known : Option KnownBlocks
  pub rest : List ℕ
  pub number : ℕ
  pub upto : ℕ

-- of the bytes that a device tells one block was read, the first
abbrev pub HasReadFirst : Option (List ℕ) → Option KnownBlocks → Type 0
HasReadFirst told known = (content : List ℕ) × (known ≡ option_map (λ bytes. with_next content (record { contents = []; rest = bytes })) told)

-- the next page is read, which begins with the next entry
pub record ReadsPage (old new : JournalRead) : Type 0 where
  pub is_over : old.rest ≡ []
  pub is_next : IfSome old.known (IsNext (big_bytes 8 old.number ++ new.rest))
  pub known : new.known ≡ option_map (with_next (big_bytes 8 old.number ++ new.rest)) old.known
  pub number : new.number ≡ old.number
  pub upto : new.upto ≡ old.upto

-- the entry of the next record is given
pub record GivesRecord (old : JournalRead) (s : SentEvent) (new : JournalRead) : Type 0 where
  pub bytes : List ℕ
  pub stands : old.rest ≡ bytes ++ new.rest
  pub is_record : IsRecord bytes s
  pub known : new.known ≡ old.known
  pub number : new.number ≡ old.number + 1
  pub upto : new.upto ≡ old.upto

-- nothing stands behind the blocks that were read, or a torn end
abbrev pub IsAtEnd : KnownBlocks → Type 0
IsAtEnd known = (known.rest ≡ []) ⊎ (front_in known.rest ≡ Cut)

-- the reader has given all: it comes to the entry before which it ends, or nothing but a torn end stands behind what it gave
abbrev pub IsOver : JournalRead → Type 0
IsOver r = (r.upto ≤ r.number) ⊎ ((r.rest ≡ []) × IfSome r.known IsAtEnd)

-- what the reader gives next: an entry of the page that it has or of the next one; or none, before the entry at which it ends and at the
-- file's end
abbrev pub gives : JournalRead → Option SentEvent → JournalRead → Type 0
gives old (Some s) new = (old.number < old.upto) × (GivesRecord old s new ⊎ ((middle : JournalRead) × ReadsPage old middle × GivesRecord middle s new))
gives old None new = (new ≡ old) × IsOver old

-- ---- what the reader gave since the beginning of its file

-- of pages that follow one another, from the entry of that number on, these entries were given: all of them but those of that rest of the
-- last page
abbrev pub AreGiven : ℕ → List (List ℕ) → List ℕ → List SentEvent → Type 0
AreGiven number [] rest ss = (rest ≡ []) × (ss ≡ [])
AreGiven number (page ∷ []) rest ss = (given : List ℕ) × (page ≡ given ++ rest) × IsPage number given ss
AreGiven number (page ∷ next ∷ pages) rest ss =
    (here later : List SentEvent) × (ss ≡ here ++ later) × IsPage number page here × AreGiven (number + length here) (next ∷ pages) rest later

-- the blocks are the head of a journal's file and pages, of which these entries were given
pub record HasGiven (contents : List (List ℕ)) (rest : List ℕ) (ss : List SentEvent) : Type 0 where
  pub id : List ℕ
  pub pages : List (List ℕ)
  pub is_id : length id ≡ 16
  pub stand : contents ≡ head_of id ∷ pages
  pub are_given : AreGiven 0 pages rest ss

-- these are all entries that were given, as far as the device tells
abbrev pub HasRead : JournalRead → List SentEvent → Type 0
HasRead r ss = (length ss ≡ r.number) × IfSome r.known (λ known. HasGiven known.contents r.rest ss)

-- these and the next entry, if there is one
abbrev pub with_next_event : List SentEvent → Option SentEvent → List SentEvent
with_next_event ss None = ss
with_next_event ss (Some s) = ss ++ s ∷ []

-- ---- a reader that reads on in its file

-- these blocks were read, one after another, each of which stood next
abbrev pub ReadsBlocks : KnownBlocks → List (List ℕ) → KnownBlocks → Type 0
ReadsBlocks old [] new = new ≡ old
ReadsBlocks old (content ∷ contents) new = IsNext content old × ReadsBlocks (with_next content old) contents new

-- some blocks were read, as far as the device tells them
abbrev pub KnowsMore : Option KnownBlocks → Option KnownBlocks → Type 0
KnowsMore None new = new ≡ None
KnowsMore (Some old) new = (contents : List (List ℕ)) × (known : KnownBlocks) × (new ≡ Some known) × ReadsBlocks old contents known

-- the same file is read further, up to the same entry
pub record ReadsOn (old new : JournalRead) : Type 0 where
  pub known : KnowsMore old.known new.known
  pub upto : new.upto ≡ old.upto
