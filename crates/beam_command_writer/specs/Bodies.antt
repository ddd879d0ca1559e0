-- The body that is written for a command, and the commands that have none. (This node's own.)
use Rattle.std.specs.Prelude.{◌<◌, ◌^◌, ℕ, pos, Bool, nat_lt, List, [], ◌∷◌, ◌++◌, length, get_or}
use Rattle.std.specs.List.{flat_map}
use Rattle.byteorder.specs.Endian.{big_bytes}
use Rattle.beam_term.specs.Prelude.{TermValue, atom_term, tuple_of, list_of}
use Rattle.beam_model.specs.Prelude.{external_bytes}
use Rattle.beam_machine.specs.declared.debug.DebugEvent.TheVariants.{Node, SetBreak, ClearBreak, Resume, StepOne, Inspect}
use Rattle.beam_machine.specs.declared.debug.Spot.{Spot}
use Rattle.beam_machine.specs.declared.event.Event.TheVariants as event
use Rattle.beam_machine.specs.Prelude.{Command, SpellsCommand, mode_number, spot_term}

-- the number of a command's kind
abbrev pub kind_number : Command → ℕ
kind_number (Node (event.Load file)) = 1
kind_number (Node (event.LoadStrict file)) = 2
kind_number (Node (event.Delete name)) = 3
kind_number (Node (event.SoftPurge name)) = 4
kind_number (Node (event.Purge name)) = 5
kind_number (Node (event.Spawn name function arguments)) = 6
kind_number (Node (event.Send to message)) = 7
kind_number (Node (event.Steps pid rows)) = 8
kind_number (Node (event.Deliver pid)) = 9
kind_number (Node (event.Clock now)) = 10
kind_number (Node (event.Timeout pid)) = 11
kind_number (SetBreak spot) = 12
kind_number (ClearBreak spot) = 13
kind_number (Resume pid) = 14
kind_number (StepOne pid) = 15
kind_number (Inspect pid) = 16
kind_number (Node (event.Versions name)) = 17
kind_number (Node (event.AtomicLoad mode files)) = 18

-- {Module, Function, Arguments}
abbrev pub spawn_term : List ℕ → List ℕ → List TermValue → TermValue
spawn_term name function arguments = tuple_of (atom_term name ∷ atom_term function ∷ list_of arguments ∷ [])

-- {PidOrName, Message}
abbrev pub send_term : TermValue → TermValue → TermValue
send_term to message = tuple_of (to ∷ message ∷ [])

-- a spot by its tuple, with its numbers as they are
abbrev pub term_of_spot : Spot → TermValue
term_of_spot spot = spot_term spot.version spot.«module» (pos spot.label) (pos spot.rows)

-- a file after its size
abbrev pub sized_bytes : List ℕ → List ℕ
sized_bytes file = big_bytes 4 (length file) ++ file

-- the body that is written for a command: each term in the one spelling that is written
abbrev pub command_body : Command → List ℕ
command_body (Node (event.Load file)) = file
command_body (Node (event.LoadStrict file)) = file
command_body (Node (event.Delete name)) = name
command_body (Node (event.SoftPurge name)) = name
command_body (Node (event.Purge name)) = name
command_body (Node (event.Spawn name function arguments)) = external_bytes (spawn_term name function arguments)
command_body (Node (event.Send to message)) = external_bytes (send_term to message)
command_body (Node (event.Steps pid rows)) = big_bytes 4 pid ++ big_bytes 4 rows
command_body (Node (event.Deliver pid)) = big_bytes 4 pid
command_body (Node (event.Clock now)) = big_bytes 8 now
command_body (Node (event.Timeout pid)) = big_bytes 4 pid
command_body (SetBreak spot) = external_bytes (term_of_spot spot)
command_body (ClearBreak spot) = external_bytes (term_of_spot spot)
command_body (Resume pid) = big_bytes 4 pid
command_body (StepOne pid) = big_bytes 4 pid
command_body (Inspect pid) = big_bytes 4 pid
command_body (Node (event.Versions name)) = name
command_body (Node (event.AtomicLoad mode files)) = mode_number mode ∷ (big_bytes 4 (length files) ++ flat_map sized_bytes files)

-- each of these numbers is a byte
abbrev pub AreBytes : List ℕ → Type 0
AreBytes bytes = (i : ℕ) → get_or bytes i 0 < 256

-- no kind and no body spell the command
abbrev pub IsUnspelled : Command → Type 0
IsUnspelled c = (kind : ℕ) (body : List ℕ) → AreBytes body → SpellsCommand kind body c → ⊥

-- whether four bytes can say how many bytes a file has
abbrev pub is_short : List ℕ → Bool
is_short file = nat_lt (length file) (2 ^ 32)
