-- What the node makes of a native, where memory may be refused.
use Rattle.std.specs.Prelude.{◌≡◌, ◌<◌, ◌+◌, ◌^◌, ℕ, Bool, true, false, List, [], ◌∷◌, ◌++◌, Option, Some, None, unwrap_or, Result, Ok, Err}
use Rattle.std.specs.declared.alloc.AllocError.{AllocError}
use Rattle.beam_machine.specs.Prelude.{Answered, answer, fault, Sent, Process, posted}
use Rattle.beam_machine.specs.declared.process.Signal.{Signal}
use Rattle.beam_model.specs.declared.exception.Fault.{Fault}
use Rattle.beam_model.specs.declared.native.NodeNative.{NodeNative}
use Rattle.beam_model.specs.declared.native.NodeNative.TheVariants.{Exit, Send, MakeRef}
use Rattle.beam_term.specs.Prelude.{TermValue}

-- a native that makes no reference: its value or its fault, and the processes after it; or memory was refused, and nothing changed
abbrev pub Returns : List Process → Answered → Result (Result TermValue Fault) AllocError → List Process → Type 0
Returns old answered (Ok value) new = answered ≡ record { processes = new; made = None; value = value }
Returns old answered (Err refused) new = new ≡ old

-- any native: its value or its fault, the processes after it, and how many references the node has made then; or memory was refused, and
-- nothing changed
abbrev pub ReturnsCounting : ℕ → List Process → Answered → Result (Result TermValue Fault) AllocError → ℕ → List Process → Type 0
ReturnsCounting references old answered (Ok value) count new =
    (answered.processes ≡ new) × (answered.value ≡ value) × (unwrap_or answered.made references ≡ count)
ReturnsCounting references old answered (Err refused) count new = (new ≡ old) × (count ≡ references)

-- ---- natives that send a signal and change nothing else

-- a signal is posted, if there is one
abbrev pub posted_if : List Process → Option Sent → List Process
posted_if ps (Some sent) = posted ps sent.to sent.signal
posted_if ps None = ps

-- the value of a native that sends, and its signal, if that goes to a process of this node; or its fault; or memory was refused
abbrev pub Sends : List Process → Answered → Result (Result (TermValue × Option Sent) Fault) AllocError → Type 0
Sends ps answered (Ok (Ok (value, sent))) = answered ≡ answer (posted_if ps sent) value
Sends ps answered (Ok (Err f)) = answered ≡ fault ps f
Sends ps answered (Err refused) = Unit {0}

-- whether a native sends a signal and changes nothing else
abbrev pub does_send : NodeNative → Bool
does_send Exit = true
does_send Send = true
does_send _ = false

-- ---- make_ref

-- whether a native is make_ref
abbrev pub is_make_ref : NodeNative → Bool
is_make_ref MakeRef = true
is_make_ref _ = false

-- the next reference, if there can be one more; or the fault of make_ref; or memory was refused
abbrev pub IsNext : ℕ → List Process → Answered → Result (Result TermValue Fault) AllocError → Type 0
IsNext references ps answered (Ok (Ok reference)) =
    (answered ≡ record { processes = ps; made = Some (references + 1); value = Ok reference }) × (references + 1 < 2 ^ 32)
IsNext references ps answered (Ok (Err f)) = answered ≡ fault ps f
IsNext references ps answered (Err refused) = Unit {0}

-- ---- monitor

-- a process with one monitor more, and with a signal in transit to it, if there is one
abbrev pub with_monitor : Process → ℕ → TermValue → Option Signal → Process
with_monitor p n pid (Some down) = record p { transit = p.transit ++ down ∷ []; monitors = p.monitors ++ record { reference = n; pid = pid } ∷ [] }
with_monitor p n pid None = record p { monitors = p.monitors ++ record { reference = n; pid = pid } ∷ [] }
