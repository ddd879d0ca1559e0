-- Times that may be missing.
use Rattle.std.specs.Prelude.{ℕ, Bool, false, nat_le, if◌then◌else◌, Option, Some, None}

-- the earlier of two times
abbrev pub earlier : Option ℕ → Option ℕ → Option ℕ
earlier (Some a) (Some b) = if nat_le a b then Some a else Some b
earlier (Some a) None = Some a
earlier None b = b

abbrev pub is_due_by : ℕ → Option ℕ → Bool
is_due_by at (Some due) = nat_le due at
is_due_by at None = false
