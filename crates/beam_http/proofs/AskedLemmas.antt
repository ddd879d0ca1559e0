-- What bytes ask for is asked.
use Rattle.std.proofs.Common.{ℕ, List}
use Rattle.std.specs.Prelude.{Result, Ok, Err, IfOk}
use Rattle.beam_http.specs.declared.access.Door.{Door}
use Rattle.beam_http.specs.declared.refusal.RequestRefusal.{RequestRefusal}
use Rattle.beam_http.specs.declared.request.Request.{Request}
use Rattle.beam_http.specs.Requests.{Asks, IsAsked}

-- the bytes that ask are the ones
pub asked_by : (door : Door) (bytes : List ℕ) (answer : Result Request RequestRefusal) → IfOk answer (Asks door bytes) → IfOk answer (IsAsked door)
asked_by door bytes (Ok request) asks = (bytes, asks)
asked_by door bytes (Err refusal) asks = asks
