-- What lists of processes tell. (This node's own.)
use Rattle.std.specs.Prelude.{ℕ, ◌-◌, ◌^◌, min, if◌then◌else◌, List, length, map, take, drop, Some, None}
use Rattle.beam_term.specs.Prelude.{TermValue}
use Rattle.beam_machine.specs.declared.process.Status.{Status}
use Rattle.beam_machine.specs.declared.process.Status.TheVariants as status
use Rattle.beam_machine.specs.Prelude.{Debugged, Process, is_among, is_waiting, words_of}
use Rattle.beam_looks.specs.Places.{place_of}
use Rattle.beam_looks.specs.declared.process_rows.ProcessRow.{ProcessRow}
use Rattle.beam_page.specs.declared.process.ProcessState.{ProcessState}
use Rattle.beam_page.specs.declared.process.ProcessState.TheVariants.{Running, Waiting, Held, Ended}
use Rattle.beam_looks.specs.declared.places.RowPlace.TheVariants.{Nowhere}

-- how a process stands that hasn't ended
abbrev pub state_of : Debugged → Process → ProcessState
state_of d p = if is_among p.pid d.held then Held else (if is_waiting p.status then Waiting else Running)

abbrev pub live_row : Debugged → Process → ProcessRow
live_row d p = record {
  pid = p.pid;
  name = p.name;
  state = state_of d p;
  mailbox = length p.mailbox.messages;
  transit = length p.transit;
  stack_words = words_of p.frames;
  monitors = min (length p.monitors) (2 ^ 64 - 1);
  place = place_of d.node.code p.goes;
  reason = None;
}

abbrev pub ended_row : ℕ → TermValue → ProcessRow
ended_row pid reason = record {
  pid = pid;
  name = None;
  state = Ended;
  mailbox = 0;
  transit = 0;
  stack_words = 0;
  monitors = 0;
  place = Nowhere;
  reason = Some reason;
}

abbrev pub row_by : Status → Debugged → Process → ProcessRow
row_by status.Running d p = live_row d p
row_by status.Waiting d p = live_row d p
row_by (status.Ended reason value) d p = ended_row p.pid reason

-- the row of a process
abbrev pub row_of : Debugged → Process → ProcessRow
row_of d p = row_by p.status d p

-- the first processes above a number, at most so many
abbrev pub processes_after : Debugged → ℕ → ℕ → List Process
processes_after d after most = take most (drop after d.node.processes)

abbrev pub rows_after : Debugged → ℕ → ℕ → List ProcessRow
rows_after d after most = map (row_of d) (processes_after d after most)
