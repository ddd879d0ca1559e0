-- The entries that a seat keeps of a session, and the refusals that it notes. (This node's own.)
use Rattle.std.specs.Prelude.{◌≡◌, ◌++◌, ◌∷◌, [], ◌⊎◌, ◌≤◌, ⊤, ℕ, List, length, Ok}
use Rattle.beam_machine.specs.declared.event.Refused.TheVariants as refused
use Rattle.beam_machine.specs.declared.command.Response.{Response}
use Rattle.beam_machine.specs.Prelude.{response_of, Entry}
use Rattle.beam_machine.specs.declared.command.Response.TheVariants as response
use Rattle.beam_receipts.specs.Receipts.{RefusedCommand, SeatHistory}
use Rattle.beam_remote.specs.Prelude.{reply_frames}
use Rattle.beam_serve.specs.Answers.{response_to}

-- a response to a load whose files can't be loaded: the command never gets to the node
abbrev pub IsUnloadedResponse : Response → Type 0
IsUnloadedResponse (response.BadFile layer number) = ⊤
IsUnloadedResponse (response.Refused refused.NoMemory) = ⊤
IsUnloadedResponse _ = ⊥

-- what holds of the first of these and of those after it, if there is one
abbrev pub IfFirst : {A : Type 0} → List A → (A → List A → Type 0) → Type 0
IfFirst [] holds = ⊥
IfFirst (x ∷ xs) holds = holds x xs

-- the responses of a session report the replies of these entries and these refusals, each once and in their order; all others are to loads
-- that never got to the node
abbrev pub AreRepliesOf : List Response → List Entry → List RefusedCommand → Type 0
AreRepliesOf [] es fs = (es ≡ []) × (fs ≡ [])
AreRepliesOf (r ∷ rs) es fs =
    IfFirst es (λ e rest. (r ≡ response_of (Ok e.reply)) × AreRepliesOf rs rest fs)
    ⊎ (IfFirst fs (λ f rest. (r ≡ response_to f.refusal) × AreRepliesOf rs es rest)
    ⊎ (IsUnloadedResponse r × AreRepliesOf rs es fs))

-- the seat keeps of a session the entries that its responses report, and notes the refusals that they report
pub record KeepsReplied (s : SeatHistory) (responses : List Response) (t : SeatHistory) : Type 0 where
  pub entries : List Entry
  pub refusals : List RefusedCommand
  pub kept : t ≡ record s { kept = s.kept ++ entries; refused = s.refused ++ refusals }
  pub told : AreRepliesOf responses entries refusals

-- these bytes are the responses of a session, and the seat keeps the entries and notes the refusals that they report
pub record IsWrittenAndKept (s : SeatHistory) (written : List ℕ) (t : SeatHistory) : Type 0 where
  pub responses : List Response
  pub is_written : written ≡ reply_frames responses
  pub keeps : KeepsReplied s responses t

-- a session that stopped: its responses were written, but for the last if that wasn't written whole, and other bytes may follow; the seat
-- keeps the entries and notes the refusals that all its responses report
pub record IsPartlyWrittenAndKept (s : SeatHistory) (written : List ℕ) (t : SeatHistory) : Type 0 where
  pub responses : List Response
  pub untold : List Response
  pub begun : List ℕ
  pub last : length untold ≤ 1
  pub is_written : written ≡ reply_frames responses ++ begun
  pub keeps : KeepsReplied s (responses ++ untold) t
