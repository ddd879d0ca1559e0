-- The node after one event (Erlang Reference Manual, Processes: Signals; the manuals of modules erlang and code; else this node's own).
use Rattle.std.specs.Prelude.{ℕ, suc, zero, Bool, true, false, ◌+◌, ◌-◌, ◌^◌, ◌==◌, ◌&&◌, not, nat_lt, nat_le, if◌then◌else◌, List, [], ◌∷◌, ◌++◌, length, map, Option, Some, None, is_some, unwrap_or, Result, Ok, Err, codes}
use Rattle.std.specs.List.{list_any}
use Rattle.beam_term.specs.Prelude.{TermValue, atom_term, nil_term, tuple_of}
use Rattle.beam_machine.specs.declared.callee.After.{After}
use Rattle.beam_machine.specs.declared.event.Event.{Event}
use Rattle.beam_machine.specs.declared.event.Event.TheVariants as event
use Rattle.beam_machine.specs.declared.event.UpgradeMode.{UpgradeMode}
use Rattle.beam_machine.specs.declared.event.UpgradeMode.TheVariants.{Strict, Soft, Hard}
use Rattle.beam_machine.specs.declared.event.Numbers.{Numbers}
use Rattle.beam_machine.specs.declared.event.Reply.{Reply}
use Rattle.beam_machine.specs.declared.event.Reply.TheVariants.{Done, Changed, Versions, Upgraded, Started, Ran}
use Rattle.beam_machine.specs.declared.event.Refused.{Refused}
use Rattle.beam_machine.specs.declared.event.Refused.TheVariants.{NoProcess, BackwardClock, NotReady, Sticky, NotPurged, Duplicated, TooMany}
use Rattle.beam_model.specs.declared.exception.Fault.{Fault}
use Rattle.beam_model.specs.declared.exception.Exception.{Exception}
use Rattle.beam_model.specs.Prelude.{Place, Listing, around, with_message, same_text, is_erlang}
use Rattle.beam_model.specs.declared.exception.Exception.TheVariants as exception
use Rattle.beam_machine.specs.declared.process.Deadline.{Deadline}
use Rattle.beam_machine.specs.declared.process.Monitor.{Monitor}
use Rattle.beam_machine.specs.declared.process.Signal.{Signal}
use Rattle.beam_machine.specs.declared.process.Signal.TheVariants.{Message, Exit, Down}
use Rattle.beam_machine.specs.declared.process.Status.TheVariants.{Running}
use Rattle.beam_machine.specs.Code.{Code}
use Rattle.beam_machine.specs.Process.{Process, is_running, is_ended, is_waiting, then_of, started, ended, killed, own_reference, monitor_of, without_monitor}
use Rattle.beam_machine.specs.Row.{Outcome, makes, sends, asks, sleeps, answers, goes_on, arguments_of, outcome}
use Rattle.beam_machine.specs.State.{State, process_of, live_process, with_process, receiver_of, posted, with_made}
use Rattle.beam_machine.specs.NodeNative.{Answered, answer_of, most_processes}
use Rattle.beam_machine.specs.Change.{current_of, old_of, loaded, deleted, purged, lingers_in_old, lingers_in_olds, killing}

abbrev pub Answer : Type 0
Answer = Result Reply Refused

-- an answer, and the state after it
pub record Next : Type 0 where
  pub answer : Answer
  pub state : State

-- a refusal changes nothing
abbrev pub refused : State → Refused → Next
refused s refusal = record { answer = Err refusal; state = s }

abbrev pub replied : State → Reply → Next
replied s reply = record { answer = Ok reply; state = s }

-- ---- one row

abbrev pub put_process : State → ℕ → Process → State
put_process s pid p = record s { processes = with_process s.processes pid p }

-- the state with a process as a row, or a signal, made it
abbrev pub made_process : State → ℕ → Process → State
made_process s pid p = record s { processes = with_made s.processes pid p }

-- the value of a native, or its fault
abbrev pub raised : Result TermValue Fault → Result TermValue Exception
raised (Ok value) = Ok value
raised (Err fault) = Err (exception.Fault fault)

-- the process that asked goes on with the answer; the native may have given it a name, a monitor, or a signal
abbrev pub continues : State → ℕ → After → Result TermValue Fault → Option Process → State
continues s pid after value (Some p) = made_process s pid (answers p after (raised value))
continues s pid after value None = s

abbrev pub goes_on_with : State → ℕ → After → Answered → State
goes_on_with s pid after a =
    continues (record s { processes = a.processes; references = unwrap_or a.made s.references }) pid after a.value (process_of a.processes pid)

-- the clock's greatest time is 2^64 - 1
abbrev pub deadline_at : ℕ → ℕ → Place → Deadline
deadline_at clock n next = record { at = if nat_lt (clock + n) (2 ^ 64) then clock + n else 2 ^ 64 - 1; after = next }

abbrev pub done_by : State → ℕ → Outcome → State
done_by s pid (makes p) = made_process s pid p
done_by s pid (sends p to signal) = record s { processes = posted (with_process s.processes pid p) to signal }
done_by s pid (asks p native arity after) =
    goes_on_with s pid after (answer_of s.references (with_process s.processes pid p) pid native (arguments_of p arity))
done_by s pid (sleeps p n next) = put_process s pid (record p { deadline = Some (deadline_at s.clock n next) })

-- one row of a process
abbrev pub row : State → ℕ → Process → State
row s pid p = done_by s pid (outcome s.code p)

-- ---- running

-- how many rows were done, and the state after them
pub record Rows : Type 0 where
  pub count : ℕ
  pub state : State

-- the rest, and one row before it
abbrev pub one_more : Rows → Rows
one_more rest = record rest { count = rest.count + 1 }

abbrev pub running : Option Process → Option Process
running (Some p) = if is_running p.status then Some p else None
running None = None

-- a row, if the process runs, and then the rest
abbrev pub row_and : (State → Rows) → State → ℕ → Option Process → Rows
row_and rest s pid (Some p) = one_more (rest (row s pid p))
row_and rest s pid None = record { count = 0; state = s }

-- rows until n are done, or the process waits or ends
abbrev pub steps : State → ℕ → ℕ → Rows
steps s pid zero = record { count = 0; state = s }
steps s pid (suc n) = row_and (λ t. steps t pid n) s pid (running (process_of s.processes pid))

abbrev pub ran_to : Rows → Option Process → Next
ran_to rows (Some p) = replied rows.state (Ran rows.count (then_of p.status))
ran_to rows None = refused rows.state NoProcess

abbrev pub ran : ℕ → Rows → Next
ran pid rows = ran_to rows (process_of rows.state.processes pid)

abbrev pub next_steps : State → ℕ → ℕ → Option Process → Next
next_steps s pid n (Some p) = if is_waiting p.status then refused s NotReady else ran pid (steps s pid n)
next_steps s pid n None = refused s NoProcess

-- ---- signals that arrive

-- a message makes a waiting process running
abbrev pub received : Process → TermValue → Process
received p t = record p { mailbox = with_message p.mailbox t; status = Running }

-- an exit signal: kill ends the process with killed; normal is ignored, except by its own sender; any other reason ends the process with it
abbrev pub signalled : Process → ℕ → TermValue → Process
signalled p sender (atom_term text) =
    if same_text text (codes "kill") then ended p killed nil_term
    else if same_text text (codes "normal") && not (sender == p.pid) then p
    else ended p (atom_term text) nil_term
signalled p sender reason = ended p reason nil_term

-- {'DOWN',Reference,process,Pid,Reason}
abbrev pub down_term : Monitor → TermValue → TermValue
down_term m reason =
    tuple_of (atom_term (codes "DOWN") ∷ own_reference m.reference ∷ atom_term (codes "process") ∷ m.pid ∷ reason ∷ [])

-- a DOWN of a monitor that is kept takes the monitor away and brings its message; any other brings nothing
abbrev pub notified : Process → TermValue → Option Monitor → Process
notified p reason (Some m) = received (record p { monitors = without_monitor m.reference p.monitors }) (around (down_term m) reason)
notified p reason None = p

abbrev pub arrived : Process → Signal → Process
arrived p (Message t) = received p t
arrived p (Exit sender reason) = signalled p sender reason
arrived p (Down reference reason) = notified p reason (monitor_of reference p.monitors)

-- one signal after another; the end of the process drops the others
abbrev pub delivered : Process → List Signal → Process
delivered p [] = p
delivered p (signal ∷ rest) = if is_ended p.status then p else delivered (arrived p signal) rest

abbrev pub is_nothing : List Signal → Bool
is_nothing [] = true
is_nothing (signal ∷ rest) = false

abbrev pub next_deliver : State → ℕ → Option Process → Next
next_deliver s pid (Some p) =
    if is_nothing p.transit then refused s NotReady
    else replied (made_process s pid (delivered (record p { transit = [] }) p.transit)) Done
next_deliver s pid None = refused s NoProcess

-- ---- time

abbrev pub next_clock : State → ℕ → Next
next_clock s now = if nat_lt now s.clock then refused s BackwardClock else replied (record s { clock = now }) Done

abbrev pub timed_out : State → ℕ → Process → Option Deadline → Next
timed_out s pid p (Some d) =
    if is_waiting p.status && nat_le d.at s.clock
    then replied (put_process s pid (record (goes_on p d.after) { deadline = None; status = Running })) Done
    else refused s NotReady
timed_out s pid p None = refused s NotReady

abbrev pub next_timeout : State → ℕ → Option Process → Next
next_timeout s pid (Some p) = timed_out s pid p p.deadline
next_timeout s pid None = refused s NoProcess

-- ---- starting and sending

abbrev pub next_spawn : State → List ℕ → List ℕ → List TermValue → Next
next_spawn s «module» function arguments =
    if nat_lt (length s.processes) most_processes
    then replied (record s { processes = s.processes ++ started (length s.processes + 1) «module» function arguments ∷ [] }) (Started (length s.processes + 1))
    else refused s TooMany

abbrev pub sent_to : State → Option Process → ℕ → TermValue → Next
sent_to s (Some p) pid message = replied (record s { processes = posted s.processes pid (Message message) }) Done
sent_to s None pid message = refused s NoProcess

abbrev pub next_send : State → Option ℕ → TermValue → Next
next_send s (Some pid) message = sent_to s (live_process s.processes pid) pid message
next_send s None message = refused s NoProcess

-- ---- changes of code

abbrev pub versions_reply : Code → List ℕ → Reply
versions_reply code name = Versions (current_of code name) (old_of code name)

-- the processes that linger in a module's old code end
abbrev pub end_old : State → List ℕ → State
end_old s name = record s { processes = killing (lingers_in_old s.code name) s.processes }

-- the processes that linger in a module's old code end, and the old code goes
abbrev pub purge_old : State → List ℕ → State
purge_old s name = record s { code = purged s.code name; processes = killing (lingers_in_old s.code name) s.processes }

-- instances are numbered 1, 2, .. over the node's life
abbrev pub load_new : State → Listing → Next
load_new s l =
    let code = loaded s.code (s.instances + 1) l in
    replied (record s { code = code; instances = s.instances + 1 }) (versions_reply code l.name)

abbrev pub has_instances_left : State → Bool
has_instances_left s = nat_lt s.instances (2 ^ 32 - 1)

abbrev pub next_load : State → Listing → Next
next_load s l =
    if is_erlang l.name then refused s Sticky
    else if has_instances_left s then load_new (end_old s l.name) l
    else refused s TooMany

abbrev pub next_load_strict : State → Listing → Next
next_load_strict s l =
    if is_erlang l.name then refused s Sticky
    else if is_some (old_of s.code l.name) then refused s NotPurged
    else if has_instances_left s then load_new s l
    else refused s TooMany

-- delete: only where there is current code and no old code
abbrev pub next_delete : State → List ℕ → Next
next_delete s name =
    if is_some (current_of s.code name) && not (is_some (old_of s.code name))
    then replied (record s { code = deleted s.code name }) (Changed true)
    else replied s (Changed false)

-- whether a process lingers in a module's old code
abbrev pub is_lingered_in : State → List ℕ → Bool
is_lingered_in s name = list_any (lingers_in_old s.code name) s.processes

-- purge: answers whether a process was ended
abbrev pub next_purge : State → List ℕ → Next
next_purge s name = replied (purge_old s name) (Changed (is_lingered_in s name))

-- soft_purge: answers false where a process lingers, and then nothing changes
abbrev pub next_soft_purge : State → List ℕ → Next
next_soft_purge s name =
    if is_lingered_in s name then replied s (Changed false) else replied (record s { code = purged s.code name }) (Changed true)

-- ---- upgrade lists

-- whether no module is there twice
abbrev pub are_apart : List Listing → Bool
are_apart [] = true
are_apart (l ∷ rest) = not (list_any (λ other. same_text l.name other.name) rest) && are_apart rest

-- whether a module's old code stands in the way of its upgrade
abbrev pub stands_in_way : UpgradeMode → State → List ℕ → Bool
stands_in_way Strict s name = is_some (old_of s.code name)
stands_in_way Soft s name = is_lingered_in s name
stands_in_way Hard s name = false

-- the processes that linger in the old code of one of these modules end
abbrev pub end_olds : State → List Listing → State
end_olds s ls = record s { processes = killing (lingers_in_olds s.code (map (λ l. l.name) ls)) s.processes }

-- listings are loaded one after another
abbrev pub load_each : State → List Listing → State
load_each s [] = s
load_each s (l ∷ rest) = load_each (next_load s l).state rest

abbrev pub numbers_of : Code → Listing → Numbers
numbers_of code l = record { current = current_of code l.name; old = old_of code l.name }

abbrev pub upgraded : State → List Listing → Next
upgraded s ls = replied s (Upgraded (map (numbers_of s.code) ls))

-- an upgrade list: the processes that linger in removed code end, and then all are loaded in their order; or nothing changes
abbrev pub next_atomic : State → UpgradeMode → List Listing → Next
next_atomic s mode ls =
    if list_any (λ l. is_erlang l.name) ls then refused s Sticky
    else if not (are_apart ls) then refused s Duplicated
    else if list_any (λ l. stands_in_way mode s l.name) ls then refused s NotPurged
    else if nat_lt (s.instances + length ls) (2 ^ 32) then upgraded (load_each (end_olds s ls) ls) ls
    else refused s TooMany

-- ---- one event

abbrev pub next : State → Event Listing → Next
next s (event.Load l) = next_load s l
next s (event.LoadStrict l) = next_load_strict s l
next s (event.AtomicLoad mode ls) = next_atomic s mode ls
next s (event.Delete name) = next_delete s name
next s (event.SoftPurge name) = next_soft_purge s name
next s (event.Purge name) = next_purge s name
next s (event.Versions name) = replied s (versions_reply s.code name)
next s (event.Spawn «module» function arguments) = next_spawn s «module» function arguments
next s (event.Send to message) = next_send s (receiver_of s.processes to) message
next s (event.Steps pid n) = next_steps s pid n (live_process s.processes pid)
next s (event.Deliver pid) = next_deliver s pid (live_process s.processes pid)
next s (event.Clock now) = next_clock s now
next s (event.Timeout pid) = next_timeout s pid (live_process s.processes pid)
