-- A file that is read to its end and loaded. (This node's own.)
use Rattle.std.specs.Prelude.{◌≡◌, ◌<◌, ℕ, List, length, Result, Ok, Err}
use Rattle.beam_machine.specs.declared.command.Response.{Response}
use Rattle.beam_machine.specs.declared.debug.DebugEvent.{DebugEvent}
use Rattle.beam_machine.specs.declared.event.Event.TheVariants.{Load}
use Rattle.beam_machine.specs.declared.command.Response.TheVariants as response
use Rattle.beam_machine.specs.declared.debug.DebugEvent.TheVariants.{Node}
use Rattle.beam_model.specs.Prelude.{Listing}
use Rattle.beam_remote.specs.declared.error.LoadError.{LoadError}
use Rattle.beam_remote.specs.declared.error.LoadError.TheVariants.{ReadFailed, TooLong, Refused, Busy, JournalFull, BadFile, NoMemory}
use Rattle.beam_remote.specs.Serving.{IsPrepared, IsBadFile}
use Rattle.beam_remote.specs.DeviceHistory.{saturating_increment}

-- the most bytes of a file
abbrev pub longest_file : ℕ
longest_file = 8388608

-- the load of a file that can be loaded gets this answer
abbrev pub IsLoaded : {S : Type 0} → (S → DebugEvent Listing → Response → S → Type 0) → S → List ℕ → Response → S → Type 0
IsLoaded answers s file r t = (l : Listing) × IsPrepared file l × answers s (Node (Load l)) r t

-- why bytes that were read aren't made into a file
abbrev pub IsUnread : List ℕ → LoadError → Type 0
IsUnread bytes TooLong = longest_file < length bytes
IsUnread bytes ReadFailed = Unit {0}
IsUnread bytes NoMemory = Unit {0}
IsUnread bytes (Refused refusal) = ⊥
IsUnread bytes Busy = ⊥
IsUnread bytes JournalFull = ⊥
IsUnread bytes (BadFile layer number) = ⊥

-- why the file of these bytes isn't loaded. Only a refusal of the desk may change its state
abbrev pub IsNotLoaded : {S : Type 0} → (S → DebugEvent Listing → Response → S → Type 0) → S → List ℕ → LoadError → S → Type 0
IsNotLoaded answers s file (Refused refusal) t = IsLoaded answers s file (response.Refused refusal) t
IsNotLoaded answers s file Busy t = IsLoaded answers s file response.Busy t
IsNotLoaded answers s file JournalFull t = IsLoaded answers s file response.JournalFull t
IsNotLoaded answers s file (BadFile layer number) t = IsBadFile file layer number × (t ≡ s)
IsNotLoaded answers s file TooLong t = (longest_file < length file) × (t ≡ s)
IsNotLoaded answers s file ReadFailed t = t ≡ s
IsNotLoaded answers s file NoMemory t = t ≡ s

-- a statement, where the file was read to its end
abbrev pub IfWhole : Result Response LoadError → Type 0 → Type 0
IfWhole (Ok r) P = P
IfWhole (Err (Refused refusal)) P = P
IfWhole (Err Busy) P = P
IfWhole (Err JournalFull) P = P
IfWhole (Err (BadFile layer number)) P = P
IfWhole (Err e) P = Unit {0}

-- how many calls of the source had failed after a load
abbrev pub failures_loading : {T : Type 0} → Result T LoadError → ℕ → ℕ
failures_loading (Err ReadFailed) n = saturating_increment n
failures_loading result n = n
