-- Moments at which the node is to be scanned. (This node's own.)
use Rattle.std.specs.Prelude.{ℕ, Bool, true, false, min, nat_lt, Option, Some, None, option_map}
use Rattle.beam_machine.specs.Prelude.{Process, due_of}

-- the earlier of two moments
abbrev pub earlier : Option ℕ → Option ℕ → Option ℕ
earlier (Some a) (Some b) = Some (min a b)
earlier (Some a) None = Some a
earlier None b = b

-- whether a moment is earlier than another one; none is later than all
abbrev pub is_earlier : Option ℕ → Option ℕ → Bool
is_earlier (Some a) (Some b) = nat_lt a b
is_earlier (Some a) None = true
is_earlier None b = false

-- the deadline of a process, if there is one and it waits
abbrev pub deadline_of : Option Process → Option ℕ
deadline_of (Some p) = option_map (λ due. due.0) (due_of p)
deadline_of None = None
