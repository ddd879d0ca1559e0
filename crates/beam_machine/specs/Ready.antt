-- Which process can go on, and which deadline comes next. (This node's own.)
use Rattle.std.specs.Prelude.{ℕ, ◌&&◌, ◌||◌, Bool, not, nat_le, if◌then◌else◌, List, [], ◌∷◌, drop, Option, Some, None}
use Rattle.beam_machine.specs.Process.{Process, is_running, is_waiting, is_ended}
use Rattle.beam_machine.specs.declared.process.Deadline.{Deadline}
use Rattle.beam_machine.specs.Next.{is_nothing}

-- a process that hasn't ended, and runs or has a signal in transit to it
abbrev pub is_ready : Process → Bool
is_ready p = not (is_ended p.status) && (is_running p.status || not (is_nothing p.transit))

-- the number of the first process that is ready
abbrev pub first_ready : List Process → Option ℕ
first_ready [] = None
first_ready (p ∷ rest) = if is_ready p then Some p.pid else first_ready rest

-- the number of the first ready process after process n, which is the n-th of the list
abbrev pub ready_after : ℕ → List Process → Option ℕ
ready_after n ps = first_ready (drop n ps)

-- the deadline of a waiting process, with its number
abbrev pub due_at : ℕ → Option Deadline → Option (ℕ × ℕ)
due_at pid (Some d) = Some (d.at, pid)
due_at pid None = None

abbrev pub due_of : Process → Option (ℕ × ℕ)
due_of p = if is_waiting p.status then due_at p.pid p.deadline else None

-- the earlier of two deadlines, and of two equal ones the first
abbrev pub sooner : Option (ℕ × ℕ) → Option (ℕ × ℕ) → Option (ℕ × ℕ)
sooner (Some a) (Some b) = if nat_le a.0 b.0 then Some a else Some b
sooner (Some a) None = Some a
sooner None b = b

-- the least deadline of a waiting process, and the least number of a process that has it
abbrev pub next_deadline : List Process → Option (ℕ × ℕ)
next_deadline [] = None
next_deadline (p ∷ rest) = sooner (due_of p) (next_deadline rest)
