-- A process after the signals in transit to it.
use Rattle.std.specs.Prelude.{ℕ, Bool, true, false, not, nat_eq, ◌==◌, ◌&&◌, if◌then◌else◌, List, [], ◌∷◌, fold, filter, Option, Some, None, option_map, codes}
use Rattle.std.specs.List.{list_any}
use Rattle.beam_model.specs.Prelude.{same_text, around}
use Rattle.beam_machine.specs.declared.process.Signal.{Signal}
use Rattle.beam_machine.specs.declared.process.Signal.TheVariants.{Message, Exit, Down}
use Rattle.beam_machine.specs.declared.process.Monitor.{Monitor}
use Rattle.beam_machine.specs.declared.process.Status.{Status}
use Rattle.beam_machine.specs.declared.process.Status.TheVariants.{Running}
use Rattle.beam_machine.specs.Prelude.{Process, ended, killed, monitor_of, without_monitor, down_term}
use Rattle.beam_term.specs.Prelude.{TermValue, atom_term, nil_term}
use Rattle.beam_mailbox.specs.Messages.{with_messages}

-- the reason of the end that a process makes of an exit signal, if it ends
abbrev pub ends_by : ℕ → ℕ → TermValue → Option TermValue
ends_by pid sender (atom_term text) =
    if same_text text (codes "kill") then Some killed
    else if same_text text (codes "normal") && not (sender == pid) then None
    else Some (atom_term text)
ends_by pid sender reason = Some reason

abbrev pub this_reason : Option TermValue → Option TermValue → Option TermValue
this_reason (Some reason) later = Some reason
this_reason None later = later

-- the reason of the first signal that ends the process, if one does
abbrev pub ending : ℕ → List Signal → Option TermValue
ending pid [] = None
ending pid (Message t ∷ rest) = ending pid rest
ending pid (Exit sender reason ∷ rest) = this_reason (ends_by pid sender reason) (ending pid rest)
ending pid (Down reference reason ∷ rest) = ending pid rest

-- ---- messages and monitors

abbrev pub is_down : Signal → Bool
is_down (Down reference reason) = true
is_down _ = false

-- the message that a signal brings to a process with these monitors, if it brings one
abbrev pub message_by : List Monitor → Signal → Option TermValue
message_by ms (Message t) = Some t
message_by ms (Exit sender reason) = None
message_by ms (Down reference reason) = option_map (λ m. around (down_term m) reason) (monitor_of reference ms)

-- the monitors after a signal
abbrev pub left_by : List Monitor → Signal → List Monitor
left_by ms (Message t) = ms
left_by ms (Exit sender reason) = ms
left_by ms (Down reference reason) = without_monitor reference ms

abbrev pub added : Option TermValue → List TermValue → List TermValue
added (Some t) ts = t ∷ ts
added None ts = ts

-- the messages that signals bring, one signal after another
abbrev pub arriving : List Monitor → List Signal → List TermValue
arriving ms [] = []
arriving ms (signal ∷ rest) = added (message_by ms signal) (arriving (left_by ms signal) rest)

-- the monitors without those of some references
abbrev pub but_of : List ℕ → List Monitor → List Monitor
but_of references ms = filter (λ m. not (list_any (nat_eq m.reference) references)) ms

-- ---- the process

abbrev pub woken : List TermValue → Status → Status
woken [] status = status
woken (t ∷ ts) status = Running

-- a process with more messages, and with other monitors
abbrev pub with_delivered : Process → List TermValue → List Monitor → Process
with_delivered p ts ms = record p { mailbox = with_messages p.mailbox ts; status = woken ts p.status; monitors = ms }

-- the process after the signals: it has ended with this reason, or has their messages
abbrev pub received_all : Process → Option TermValue → List Signal → Process
received_all p (Some reason) signals = ended p reason nil_term
received_all p None signals = with_delivered p (arriving p.monitors signals) (fold left_by p.monitors signals)
