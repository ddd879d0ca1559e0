-- The natives that the node answers (the manual of module erlang: spawn/3, register/2, unregister/1, whereis/1, is_process_alive/1, exit/2, send/2,
-- make_ref/0, monitor/2).
use Rattle.std.specs.Prelude.{ℕ, Bool, true, false, ◌+◌, ◌-◌, ◌^◌, ◌&&◌, not, nat_lt, if◌then◌else◌, List, [], ◌∷◌, ◌++◌, length, Option, Some, None, is_some, Result, Ok, Err, codes}
use Rattle.beam_model.specs.declared.native.NodeNative.{NodeNative}
use Rattle.beam_model.specs.declared.native.NodeNative.TheVariants.{Spawn, Register, Unregister, Whereis, IsProcessAlive, Exit, Send, MakeRef, Monitor}
use Rattle.beam_model.specs.declared.exception.Fault.{Fault}
use Rattle.beam_model.specs.declared.exception.Fault.TheVariants.{Badarg, SystemLimit}
use Rattle.beam_model.specs.Prelude.{truth, elements_in, same_text}
use Rattle.beam_term.specs.Prelude.{TermValue, atom_term, pid_term}
use Rattle.beam_machine.specs.declared.process.Signal.{Signal}
use Rattle.beam_machine.specs.declared.process.Signal.TheVariants.{Message, Exit as ExitSignal, Down}
use Rattle.beam_machine.specs.Process.{Process, started, own_pid, own_reference}
use Rattle.beam_machine.specs.Row.{own_number}
use Rattle.beam_machine.specs.State.{live_process, with_process, registered, posted}

-- the processes after a native, the number of the reference that it made, and its value or its fault, which changes nothing
pub record Answered : Type 0 where
  pub processes : List Process
  pub made : Option ℕ
  pub value : Result TermValue Fault

abbrev pub answer : List Process → TermValue → Answered
answer ps value = record { processes = ps; made = None; value = Ok value }

abbrev pub fault : List Process → Fault → Answered
fault ps f = record { processes = ps; made = None; value = Err f }

-- ---- spawn

abbrev pub most_processes : ℕ
most_processes = 2 ^ 28 - 1

abbrev pub spawns : List Process → List ℕ → List ℕ → List TermValue → Answered
spawns ps «module» function arguments =
    if nat_lt 255 (length arguments) then fault ps Badarg
    else if nat_lt (length ps) most_processes
    then answer (ps ++ started (length ps + 1) «module» function arguments ∷ []) (own_pid (length ps + 1))
    else fault ps SystemLimit

abbrev pub spawns_with : List Process → List ℕ → List ℕ → Option (List TermValue) → Answered
spawns_with ps «module» function (Some arguments) = spawns ps «module» function arguments
spawns_with ps «module» function None = fault ps Badarg

-- ---- names

abbrev pub is_free : List Process → List ℕ → Bool
is_free ps name = not (is_some (registered ps name)) && not (same_text name (codes "undefined"))

-- register: a process that has no name gets this one, if no other has it
abbrev pub names : List Process → List ℕ → ℕ → Option Process → Answered
names ps name pid (Some p) =
    if is_free ps name && not (is_some p.name) then answer (with_process ps pid (record p { name = Some name })) (truth true) else fault ps Badarg
names ps name pid None = fault ps Badarg

abbrev pub registers : List Process → List ℕ → Option ℕ → Answered
registers ps name (Some pid) = names ps name pid (live_process ps pid)
registers ps name None = fault ps Badarg

-- unregister: the process of the name loses it
abbrev pub unnames : List Process → ℕ → Option Process → Answered
unnames ps pid (Some p) = answer (with_process ps pid (record p { name = None })) (truth true)
unnames ps pid None = fault ps Badarg

abbrev pub unregisters : List Process → Option ℕ → Answered
unregisters ps (Some pid) = unnames ps pid (live_process ps pid)
unregisters ps None = fault ps Badarg

abbrev pub pid_or_undefined : Option ℕ → TermValue
pid_or_undefined (Some pid) = own_pid pid
pid_or_undefined None = atom_term (codes "undefined")

-- ---- signals

abbrev pub is_alive : List Process → Option ℕ → Bool
is_alive ps (Some pid) = is_some (live_process ps pid)
is_alive ps None = false

-- a pid that names no process of this node gets nothing
abbrev pub posted_if_own : List Process → Option ℕ → Signal → List Process
posted_if_own ps (Some pid) signal = posted ps pid signal
posted_if_own ps None signal = ps

-- a message to the process of a name
abbrev pub sends_named : List Process → Option ℕ → TermValue → Answered
sends_named ps (Some pid) message = answer (posted ps pid (Message message)) message
sends_named ps None message = fault ps Badarg

-- ---- references and monitors

abbrev pub most_references : ℕ
most_references = 2 ^ 32 - 1

-- the next reference, if there can be one more, and the processes that its number makes
abbrev pub makes_reference : ℕ → List Process → (ℕ → List Process) → Answered
makes_reference references ps processes =
    if nat_lt references most_references
    then record { processes = processes (references + 1); made = Some (references + 1); value = Ok (own_reference (references + 1)) }
    else fault ps SystemLimit

-- where no process of that pid lives, the caller gets a DOWN with noproc at once
abbrev pub or_noproc : List Process → ℕ → ℕ → TermValue → List Process
or_noproc ps caller n pid = if is_alive ps (own_number pid) then ps else posted ps caller (Down n (atom_term (codes "noproc")))

-- the caller keeps one monitor more
abbrev pub put_monitor : List Process → ℕ → ℕ → TermValue → Option Process → List Process
put_monitor ps caller n pid (Some p) = with_process ps caller (record p { monitors = p.monitors ++ record { reference = n; pid = pid } ∷ [] })
put_monitor ps caller n pid None = ps

abbrev pub with_new_monitor : List Process → ℕ → ℕ → TermValue → List Process
with_new_monitor ps caller n pid = put_monitor ps caller n pid (live_process ps caller)

abbrev pub monitored : List Process → ℕ → TermValue → ℕ → List Process
monitored ps caller pid n = with_new_monitor (or_noproc ps caller n pid) caller n pid

-- only processes are monitored, by their pids
abbrev pub monitors_by : ℕ → List Process → ℕ → List ℕ → TermValue → Answered
monitors_by references ps caller kind pid =
    if same_text kind (codes "process") then makes_reference references ps (monitored ps caller pid) else fault ps Badarg

-- ---- all of them

-- the node's answer to a process that calls a native with these arguments; `references` is how many references the node has made
abbrev pub answer_of : ℕ → List Process → ℕ → NodeNative → List TermValue → Answered
answer_of references ps caller Spawn (atom_term «module» ∷ atom_term function ∷ arguments ∷ []) = spawns_with ps «module» function (elements_in arguments)
answer_of references ps caller Register (atom_term name ∷ pid_term host id serial creation ∷ []) = registers ps name (own_number (pid_term host id serial creation))
answer_of references ps caller Unregister (atom_term name ∷ []) = unregisters ps (registered ps name)
answer_of references ps caller Whereis (atom_term name ∷ []) = answer ps (pid_or_undefined (registered ps name))
answer_of references ps caller IsProcessAlive (pid_term host id serial creation ∷ []) =
    answer ps (truth (is_alive ps (own_number (pid_term host id serial creation))))
answer_of references ps caller Exit (pid_term host id serial creation ∷ reason ∷ []) =
    answer (posted_if_own ps (own_number (pid_term host id serial creation)) (ExitSignal caller reason)) (truth true)
answer_of references ps caller Send (pid_term host id serial creation ∷ message ∷ []) =
    answer (posted_if_own ps (own_number (pid_term host id serial creation)) (Message message)) message
answer_of references ps caller Send (atom_term name ∷ message ∷ []) = sends_named ps (registered ps name) message
answer_of references ps caller MakeRef [] = makes_reference references ps (λ n. ps)
answer_of references ps caller Monitor (atom_term kind ∷ pid_term host id serial creation ∷ []) =
    monitors_by references ps caller kind (pid_term host id serial creation)
answer_of references ps caller _ _ = fault ps Badarg
