-- The file of a journal: the events that a node accepted, each with the seat that sent it, in pages. (This node's own.)
use Rattle.std.specs.Prelude.{◌≡◌, ◌<◌, ◌^◌, ◌+◌, ◌==◌, ◌||◌, ℕ, if◌then◌else◌, List, [], ◌∷◌, ◌++◌, length, codes, Option, Some, None, IfSome}
use Rattle.byteorder.specs.Endian.{big_bytes}
use Rattle.beam_blocks.specs.Blocks.{AreShort, blocks_of}
use Rattle.beam_machine.specs.declared.debug.DebugEvent.{DebugEvent}
use Rattle.beam_machine.specs.declared.debug.DebugEvent.TheVariants.{Node}
use Rattle.beam_machine.specs.declared.event.Event.TheVariants.{Load, LoadStrict, AtomicLoad, Steps, Deliver}
use Rattle.beam_machine.specs.Prelude.{Command, IsNumber, SentEvent, SpellsCommand, event_of}
use Rattle.beam_model.specs.Prelude.{CanLoad, IsFile, Listing}

-- ---- the event of a command

-- the file spells this listing, which can be loaded
pub record IsImage (file : List ℕ) (l : Listing) : Type 0 where
  pub is_file : IsFile file l
  pub can_load : CanLoad l

-- the files spell these listings, one after another
abbrev pub AreImages : List (List ℕ) → List Listing → Type 0
AreImages [] [] = Unit {0}
AreImages [] (l ∷ ls) = ⊥
AreImages (file ∷ files) [] = ⊥
AreImages (file ∷ files) (l ∷ ls) = IsImage file l × AreImages files ls

-- the event that a command is; a load is that of the listings which its files spell
abbrev pub IsEventOf : Command → DebugEvent Listing → Type 0
IsEventOf (Node (Load file)) event = (l : Listing) × IsImage file l × (event ≡ Node (Load l))
IsEventOf (Node (LoadStrict file)) event = (l : Listing) × IsImage file l × (event ≡ Node (LoadStrict l))
IsEventOf (Node (AtomicLoad mode files)) event = (ls : List Listing) × AreImages files ls × (event ≡ Node (AtomicLoad mode ls))
IsEventOf c event = event_of c ≡ Some event

-- ---- a record: the bytes of one event

-- a body of its kind spells a command: as in a frame, or, where numbers of two bytes do, by a short kind
pub data SpellsBody : ℕ → List ℕ → Command → Type 0 where
  framed : (kind : ℕ) (body : List ℕ) (c : Command) → SpellsCommand kind body c → SpellsBody kind body c
  short_steps : (first second : List ℕ) (pid rows : ℕ) → IsNumber 2 first pid → IsNumber 2 second rows
      → SpellsBody 32 (first ++ second) (Node (Steps pid rows))
  short_deliver : (field : List ℕ) (pid : ℕ) → IsNumber 2 field pid → SpellsBody 33 field (Node (Deliver pid))

-- how many bytes a body of a kind has, where the kind says it: two numbers of four bytes or a time have eight
unfoldable pub width_of : ℕ → Option ℕ
width_of kind =
    if kind == 8 || kind == 10 then Some 8
    else (if kind == 9 || kind == 11 || kind == 14 || kind == 15 || kind == 16 || kind == 32 then Some 4
    else (if kind == 33 then Some 2 else None))

-- a body after its size in four bytes, which is left out where the kind says it
abbrev pub sized_by : Option ℕ → List ℕ → List ℕ
sized_by (Some width) body = body
sized_by None body = big_bytes 4 (length body) ++ body

abbrev pub sized : ℕ → List ℕ → List ℕ
sized kind body = sized_by (width_of kind) body

-- a kind; 128 more, and the number of the seat in two bytes, where a seat sent the event
abbrev pub opening : Option ℕ → ℕ → List ℕ
opening None kind = kind ∷ []
opening (Some seat) kind = (kind + 128) ∷ big_bytes 2 seat

-- a node has fewer than 4,096 seats
abbrev pub IsSeat : Option ℕ → Type 0
IsSeat seat = IfSome seat (λ n. n < 4096)

-- the bytes are a record of what was sent: a command, of which it is the event
pub record IsRecord (bytes : List ℕ) (s : SentEvent) : Type 0 where
  pub kind : ℕ
  pub body : List ℕ
  pub command : Command
  pub stands : bytes ≡ opening s.seat kind ++ sized kind body
  pub is_seat : IsSeat s.seat
  pub short : length body < 2 ^ 32
  pub spells : SpellsBody kind body command
  pub is_event : IsEventOf command s.event

-- ---- a page: the records of events that follow one another

-- the bytes are records of these, one after another
abbrev pub AreRecords : List ℕ → List SentEvent → Type 0
AreRecords bytes [] = bytes ≡ []
AreRecords bytes (s ∷ ss) = (first rest : List ℕ) × (bytes ≡ first ++ rest) × IsRecord first s × AreRecords rest ss

-- the bytes are the page of these, the first of which is the journal's entry of that number
abbrev pub IsPage : ℕ → List ℕ → List SentEvent → Type 0
IsPage number bytes ss = (records : List ℕ) × (bytes ≡ big_bytes 8 number ++ records) × AreRecords records ss

-- pages that follow one another, from the entry of that number on
abbrev pub ArePages : ℕ → List (List ℕ) → List SentEvent → Type 0
ArePages number [] ss = ss ≡ []
ArePages number (page ∷ pages) ss =
    (here later : List SentEvent) × (ss ≡ here ++ later) × IsPage number page here × ArePages (number + length here) pages later

-- ---- the file

-- what each journal's file begins with, of any version
abbrev pub signature : List ℕ
signature = codes "KANGURIWE" ++ 0 ∷ []

-- the signature, version 1, sixteen bytes that were drawn when the file was made, and the number of its first entry
abbrev pub head_of : List ℕ → List ℕ
head_of id = signature ++ (1 ∷ (id ++ big_bytes 8 0))

-- the head of a file of another version
abbrev pub IsOtherVersion : List ℕ → Type 0
IsOtherVersion bytes = (version : ℕ) × (rest : List ℕ) × (bytes ≡ signature ++ version ∷ rest) × (version ≡ 1 → ⊥)

-- the file keeps these events and no others: a block of its head, and a block for each page
pub record Keeps (file : List ℕ) (ss : List SentEvent) : Type 0 where
  pub id : List ℕ
  pub pages : List (List ℕ)
  pub is_id : length id ≡ 16
  pub are_short : AreShort pages
  pub stands : file ≡ blocks_of (head_of id ∷ pages)
  pub are_pages : ArePages 0 pages ss
