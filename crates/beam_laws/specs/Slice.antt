-- The rows of a process that is checked out, and their effect on the node when they are committed. (This node's own.)
use Rattle.std.specs.Prelude.{◌≡◌, ℕ, ◌+◌, Bool, false, nat_lt, if◌then◌else◌, Some}
use Rattle.beam_machine.specs.Prelude.{Debugged, Halting, Rows, Private, End, at_limit, after_row, before_node_row, at_spot, private_to_spot, Process, State, process_of}
use Rattle.beam_machine.specs.Next.{steps}
use Rattle.beam_laws.specs.Private.{after_private, before, with_name_and_transit_of}
use Rattle.beam_laws.specs.Origin.{Origin}
use Rattle.beam_laws.specs.Out.{IsAsItWas}

-- the private rows of a process as it was checked out, n at most
abbrev pub slice_of : Origin → ℕ → Private
slice_of o n = private_to_spot o.spots o.passes o.code n o.process

-- the process is q now, still as it was checked out, and the node has the code and the break spots of the checkout
abbrev pub CanCommit : Debugged → Origin → Process → Type 0
CanCommit d o q = (process_of d.node.processes o.pid ≡ Some q) × IsAsItWas d o q × (d.node.code ≡ o.code) × (d.spots ≡ o.spots)

-- private rows as rows of the node in which the process is q now
abbrev pub committed : State → ℕ → Process → Private → Rows
committed s pid q rows = record { count = rows.count; state = after_private s pid (with_name_and_transit_of q rows) }

-- rows, and the next row of the process
abbrev pub and_next_row : Rows → ℕ → Rows
and_next_row rows pid = record { count = rows.count + 1; state = (steps rows.state pid 1).state }

-- after a row a process may no longer pass a break spot
abbrev pub passes_after : ℕ → Bool → Bool
passes_after count passes = if nat_lt 0 count then false else passes

-- n rows, and then others
abbrev pub before_halting : ℕ → Halting → Halting
before_halting count h = record h { rows = before count h.rows }

-- how many rows a slice's event has beside the slice's own: 1 for a row of the node, and for a break spot's, before which the process stops
abbrev pub rows_at_end : End → ℕ
rows_at_end at_limit = 0
rows_at_end after_row = 0
rows_at_end before_node_row = 1
rows_at_end at_spot = 1

-- how many rows the event of a committed slice asks for
abbrev pub rows_of_event : Private → ℕ
rows_of_event rows = rows.count + rows_at_end rows.end
