-- Signals in the order in which they are sent, and in which they arrive.
use Rattle.std.specs.Prelude.{ℕ, zero, suc, ◌+◌, ◌==◌, Bool, false, if◌then◌else◌, List, [], ◌∷◌, ◌++◌, map, flat_map, Option, Some, None, is_some, is_ok, codes}
use Rattle.beam_machine.specs.declared.callee.After.{After}
use Rattle.beam_machine.specs.declared.event.Event.{Event}
use Rattle.beam_machine.specs.declared.process.Monitor.{Monitor as MonitorValue}
use Rattle.beam_machine.specs.declared.process.Signal.{Signal}
use Rattle.beam_machine.specs.declared.process.Signal.TheVariants.{Message, Exit as ExitSignal, Down}
use Rattle.beam_machine.specs.Prelude.{lingers_in_old, lingers_in_olds, pids_of, Answered, answer_of, is_alive, Process, killed, monitor_of, without_monitor, Outcome, makes, sends, asks, sleeps, own_number, answers, arguments_of, outcome, State, process_of, live_process, with_process, receiver_of, downs, raised, running, row, delivered, down_term, next, Sent}
use Rattle.beam_model.specs.declared.native.NodeNative.{NodeNative}
use Rattle.beam_model.specs.declared.native.NodeNative.TheVariants.{Exit, Send, Monitor}
use Rattle.beam_model.specs.Prelude.{around, Listing}
use Rattle.beam_term.specs.Prelude.{TermValue, atom_term}
use Rattle.beam_machine.specs.declared.event.Event.TheVariants as event
use Rattle.beam_laws.specs.Private.{downs_of_end}

-- ---- sent signals

-- a signal to a process; no signal, if the process has ended or was never started
abbrev pub signal_to : List Process → ℕ → Signal → List Sent
signal_to ps to signal = if is_some (live_process ps to) then record { to = to; signal = signal } ∷ [] else []

abbrev pub signal_if : List Process → Option ℕ → Signal → List Sent
signal_if ps (Some to) signal = signal_to ps to signal
signal_if ps None signal = []

-- the signals that a function has for each process of a list, whose first process has that number
abbrev pub each_sent : ℕ → (Process → List Signal) → List Process → List Sent
each_sent at signals [] = []
each_sent at signals (p ∷ rest) = map (λ signal. record { to = at; signal = signal }) (signals p) ++ each_sent (at + 1) signals rest

-- the DOWNs that a process sends after a row or a delivery, if that ended it, to all processes that monitor it
abbrev pub end_sends : List Process → ℕ → Process → List Sent
end_sends ps pid p = each_sent 1 (downs_of_end pid p.status) (with_process ps pid p)

-- monitor sends its caller a DOWN where no process of that pid lives
abbrev pub noproc_sends : List Process → ℕ → TermValue → Option ℕ → List Sent
noproc_sends ps caller pid (Some n) =
    if is_alive ps (own_number pid) then [] else signal_to ps caller (Down n (atom_term (codes "noproc")))
noproc_sends ps caller pid None = []

-- the signals of a native of the node, which has made this many references before
abbrev pub native_sends : ℕ → List Process → ℕ → NodeNative → List TermValue → List Sent
native_sends references ps caller Exit (to ∷ reason ∷ []) = signal_if ps (own_number to) (ExitSignal caller reason)
native_sends references ps caller Send (to ∷ message ∷ []) = signal_if ps (receiver_of ps to) (Message message)
native_sends references ps caller Monitor (kind ∷ pid ∷ []) =
    noproc_sends ps caller pid (answer_of references ps caller Monitor (kind ∷ pid ∷ [])).made
native_sends references ps caller _ _ = []

-- the DOWNs of the process that asked, if its return ends it
abbrev pub asker_sends : ℕ → After → Answered → Option Process → List Sent
asker_sends pid after a (Some p) = end_sends a.processes pid (answers p after (raised a.value))
asker_sends pid after a None = []

abbrev pub native_row_sends : ℕ → List Process → ℕ → NodeNative → List TermValue → After → List Sent
native_row_sends references ps pid native arguments after =
    let a = answer_of references ps pid native arguments in
    native_sends references ps pid native arguments ++ asker_sends pid after a (process_of a.processes pid)

-- the signals that a row of a process sends
abbrev pub row_sends : State → ℕ → Outcome → List Sent
row_sends s pid (makes p) = end_sends s.processes pid p
row_sends s pid (sends p to signal) = signal_to (with_process s.processes pid p) to signal
row_sends s pid (asks p native arity after) =
    native_row_sends s.references (with_process s.processes pid p) pid native (arguments_of p arity) after
row_sends s pid (sleeps p n after) = []

abbrev pub row_and_send : (State → List Sent) → State → ℕ → Option Process → List Sent
row_and_send rest s pid (Some p) = row_sends s pid (outcome s.code p) ++ rest (row s pid p)
row_and_send rest s pid None = []

-- the signals that n rows of a process send, in their order
abbrev pub steps_send : State → ℕ → ℕ → List Sent
steps_send s pid zero = []
steps_send s pid (suc n) = row_and_send (λ t. steps_send t pid n) s pid (running (process_of s.processes pid))

-- the DOWNs of a process that a delivery ends
abbrev pub deliver_sends : List Process → ℕ → Option Process → List Sent
deliver_sends ps pid (Some p) = end_sends ps pid (delivered (record p { transit = [] }) p.transit)
deliver_sends ps pid None = []

-- whether a process ends by a change of code
abbrev pub ends_by : State → Event Listing → Process → Bool
ends_by s (event.Load l) p = lingers_in_old s.code l.name p
ends_by s (event.AtomicLoad mode ls) p = lingers_in_olds s.code (map (λ l. l.name) ls) p
ends_by s (event.Purge name) p = lingers_in_old s.code name p
ends_by s e p = false

-- the DOWNs of all processes that end by a change of code, if it isn't refused
abbrev pub change_sends : State → Event Listing → List Sent
change_sends s e =
    if is_ok (next s e).answer
    then each_sent 1 (λ q. flat_map (λ pid. downs pid killed q.monitors) (pids_of (ends_by s e) s.processes)) s.processes
    else []

abbrev pub event_sends : State → Event Listing → List Sent
event_sends s (event.Send to message) = signal_if s.processes (receiver_of s.processes to) (Message message)
event_sends s (event.Steps pid n) = steps_send s pid n
event_sends s (event.Deliver pid) = deliver_sends s.processes pid (live_process s.processes pid)
event_sends s (event.Load l) = change_sends s (event.Load l)
event_sends s (event.AtomicLoad mode ls) = change_sends s (event.AtomicLoad mode ls)
event_sends s (event.Purge name) = change_sends s (event.Purge name)
event_sends s _ = []

-- the signals that events send, in their order
abbrev pub sent : State → List (Event Listing) → List Sent
sent s [] = []
sent s (e ∷ events) = event_sends s e ++ sent (next s e).state events

-- of sent signals, those to one process
abbrev pub signals_to : ℕ → List Sent → List Signal
signals_to pid [] = []
signals_to pid (sent ∷ rest) = if sent.to == pid then sent.signal ∷ signals_to pid rest else signals_to pid rest

-- ---- arriving signals

-- the signals in transit to a process, if it hasn't ended
abbrev pub on_its_way : Option Process → List Signal
on_its_way (Some p) = p.transit
on_its_way None = []

-- the signals that an event delivers to a process: a delivery takes all in transit
abbrev pub event_brings : ℕ → State → Event Listing → List Signal
event_brings pid s (event.Deliver to) = if to == pid then on_its_way (live_process s.processes pid) else []
event_brings pid s _ = []

-- the signals that events deliver to a process, in their order
abbrev pub brought : ℕ → State → List (Event Listing) → List Signal
brought pid s [] = []
brought pid s (e ∷ events) = event_brings pid s e ++ brought pid (next s e).state events

-- a DOWN brings a message where its monitor is kept, which then goes
abbrev pub down_brings : TermValue → (List MonitorValue → List TermValue) → List MonitorValue → Option MonitorValue → List TermValue
down_brings reason more ms (Some m) = around (down_term m) reason ∷ more (without_monitor m.reference ms)
down_brings reason more ms None = more ms

-- the messages among signals that arrive at a process with these monitors
abbrev pub messages_for : List MonitorValue → List Signal → List TermValue
messages_for ms [] = []
messages_for ms (Message t ∷ rest) = t ∷ messages_for ms rest
messages_for ms (ExitSignal sender reason ∷ rest) = messages_for ms rest
messages_for ms (Down reference reason ∷ rest) = down_brings reason (λ left. messages_for left rest) ms (monitor_of reference ms)
