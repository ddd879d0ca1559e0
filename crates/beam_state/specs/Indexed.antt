-- What the indexes hold of the processes.
use Rattle.std.specs.Prelude.{◌≡◌, ℕ, if◌then◌else◌, List, map, slice_get, Option, Some, None, option_map}
use Rattle.beam_agenda.specs.declared.entry.AgendaEntry.{AgendaEntry}
use Rattle.beam_machine.specs.declared.process.Deadline.{Deadline}
use Rattle.beam_machine.specs.declared.process.Status.{Status}
use Rattle.beam_machine.specs.Prelude.{Process, is_waiting, is_ready, has_name}
use Rattle.beam_state.specs.MonitorKeys.{MonitorNoMore}

-- the time at which a process goes on without a message
abbrev pub due_time : Status → Option Deadline → Option ℕ
due_time status deadline = if is_waiting status then option_map (λ d. d.at) deadline else None

abbrev pub entry_of : Process → AgendaEntry
entry_of p = record { ready = is_ready p; due = due_time p.status p.deadline }

-- each process that has a name is found by its name
abbrev pub AreFound : (List ℕ → Option ℕ) → List Process → Type 0
AreFound find ps = (i : ℕ) (p : Process) (name : List ℕ) → slice_get ps i ≡ Some p → p.name ≡ Some name → find name ≡ Some i

-- the agenda has the entry of each process, and each process that has a name is found by its name; names that are no longer in use may be
-- found too
unfoldable pub IsIndexed : (List ℕ → Option ℕ) → List AgendaEntry → List Process → Type 0
IsIndexed find agenda ps = (agenda ≡ map entry_of ps) × AreFound find ps

-- the second process has the name of the first, or none
abbrev pub KeepsName : Process → Process → Type 0
KeepsName p q = (name : List ℕ) → q.name ≡ Some name → p.name ≡ Some name

-- the second process goes on from the first: it has the first one's name, or none, and no monitors but the first one's
abbrev pub GoesOnFrom : Process → Process → Type 0
GoesOnFrom p q = KeepsName p q × MonitorNoMore p.monitors q.monitors

-- the number of a process, if it has this name
abbrev pub if_named : List ℕ → Option Process → Option ℕ
if_named name None = None
if_named name (Some p) = if has_name name p.name then Some p.pid else None
