-- The pieces of a record, read from the front of bytes; and what has no record. (This node's own.)
use Rattle.std.specs.Prelude.{◌≡◌, ◌<◌, ◌≤◌, ◌^◌, ◌⊎◌, ◌&&◌, ℕ, Bool, true, false, nat_lt, if◌then◌else◌, List, ◌++◌, length, Option, Some, None, IfSome}
use Rattle.byteorder.specs.Endian.{big_bytes}
use Rattle.beam_command_writer.specs.Bodies.{IsUnspelled, command_body}
use Rattle.beam_machine.specs.declared.debug.DebugEvent.{DebugEvent}
use Rattle.beam_machine.specs.declared.debug.DebugEvent.TheVariants.{Node}
use Rattle.beam_machine.specs.declared.event.Event.TheVariants.{Load, LoadStrict, AtomicLoad, Steps, Deliver}
use Rattle.beam_machine.specs.Prelude.{Command, SentEvent}
use Rattle.beam_model.specs.Prelude.{Listing}
use Rattle.beam_records.specs.JournalFile.{IsEventOf, IsRecord, IsSeat, SpellsBody, opening, sized, width_of}

-- a seat and a kind that a record can begin with, which stand at the front of bytes, before the rest
pub record OpensWith (bytes : List ℕ) (seat : Option ℕ) (kind : ℕ) (rest : List ℕ) : Type 0 where
  pub stands : bytes ≡ opening seat kind ++ rest
  pub is_seat : IsSeat seat
  pub is_kind : kind < 128

-- the body has the width of its kind, and four bytes can say how many bytes it has
pub record HasWidth (kind : ℕ) (body : List ℕ) : Type 0 where
  pub width : IfSome (width_of kind) (λ n. length body ≡ n)
  pub short : length body < 2 ^ 32

-- a body after its size stands at the front of bytes, before the rest
abbrev pub Sized : List ℕ → List ℕ → List ℕ → Type 0
Sized bytes body rest = (bytes ≡ big_bytes 4 (length body) ++ (body ++ rest)) × (length body < 2 ^ 32)

-- a body of the kind, with its size where it has one, stands at the front of bytes, before the rest
pub record HasBody (bytes : List ℕ) (kind : ℕ) (body rest : List ℕ) : Type 0 where
  pub stands : bytes ≡ sized kind body ++ rest
  pub has_width : HasWidth kind body

-- a body of a kind spells a command that is this event
abbrev pub SpellsEvent : ℕ → List ℕ → DebugEvent Listing → Type 0
SpellsEvent kind body e = (c : Command) × SpellsBody kind body c × IsEventOf c e

-- bytes begin with a record of what was sent, after which the rest stands
abbrev pub Begins : List ℕ → List ℕ → SentEvent → Type 0
Begins bytes rest s = (first : List ℕ) × (bytes ≡ first ++ rest) × IsRecord first s

-- a record of what was sent stands after the bytes that were there
abbrev pub Adds : List ℕ → List ℕ → SentEvent → Type 0
Adds old new s = (bytes : List ℕ) × (new ≡ old ++ bytes) × IsRecord bytes s

-- the record of a short kind, of an event that has one
abbrev pub short_record : Option ℕ → DebugEvent Listing → Option (List ℕ)
short_record seat (Node (Steps pid rows)) =
    if nat_lt pid (2 ^ 16) && nat_lt rows (2 ^ 16) then Some (opening seat 32 ++ (big_bytes 2 pid ++ big_bytes 2 rows)) else None
short_record seat (Node (Deliver pid)) = if nat_lt pid (2 ^ 16) then Some (opening seat 33 ++ big_bytes 2 pid) else None
short_record seat event = None

-- no body spells the command, or the one that is written for it has more bytes than four bytes can say
abbrev pub HasNoBody : Command → Type 0
HasNoBody c = IsUnspelled c ⊎ (2 ^ 32 ≤ length (command_body c))

-- what was sent isn't written: its seat is none of a node; or a command that it is the event of, with files for its listings, has no body
abbrev pub IsUnwritten : SentEvent → Type 0
IsUnwritten s = (IsSeat s.seat → ⊥) ⊎ ((c : Command) × IsEventOf c s.event × HasNoBody c)

-- whether the event loads code
abbrev pub loads_code : DebugEvent Listing → Bool
loads_code (Node (Load l)) = true
loads_code (Node (LoadStrict l)) = true
loads_code (Node (AtomicLoad mode ls)) = true
loads_code event = false
