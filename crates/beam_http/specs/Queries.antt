-- What the faults of a query are.
use Rattle.std.specs.Prelude.{◌≡◌, ⊤}
use Rattle.beam_http.specs.declared.refusal.Fault.{Fault}
use Rattle.beam_http.specs.declared.refusal.Fault.TheVariants.{Refused, NoMemory}
use Rattle.beam_http.specs.declared.refusal.RequestRefusal.TheVariants.{BadRequest}

-- a query is refused as a bad request alone; memory may always be short
abbrev pub IsQueryFault : Fault → Type 0
IsQueryFault (Refused refusal) = refusal ≡ BadRequest
IsQueryFault (NoMemory error) = ⊤
