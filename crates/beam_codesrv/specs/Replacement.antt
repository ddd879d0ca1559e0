-- What the code server makes of the node's state.
use Rattle.std.specs.Prelude.{ℕ, List, Result, Ok, Err}
use Rattle.beam_codesrv.specs.declared.error.CodeError.{CodeError}
use Rattle.beam_machine.specs.declared.event.Reply.{Reply}
use Rattle.beam_machine.specs.Prelude.{Code, Process, State, Answer}
use Rattle.beam_codesrv.specs.Refusal.{refusal_of}

-- a state of the node, by its parts
abbrev pub node : Code → List Process → ℕ → ℕ → ℕ → State
node code ps clock instances references =
    record { code = code; processes = ps; clock = clock; instances = instances; references = references }

-- an answer of the code server, as an answer of the node
abbrev pub said : Result Reply CodeError → Answer
said (Ok reply) = Ok reply
said (Err e) = Err (refusal_of e)
