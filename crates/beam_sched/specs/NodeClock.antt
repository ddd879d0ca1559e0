-- Moments: the time of a clock, advanced where the node's clock is ahead of it. (This node's own.)
use Rattle.std.specs.Prelude.{ℕ, ◌+◌, ◌-◌, ◌^◌, min, nat_lt, if◌then◌else◌}

-- the later of two moments
abbrev pub later : ℕ → ℕ → ℕ
later a b = if nat_lt a b then b else a

-- the moment at a time: the time and the advance, but never before the node's clock
abbrev pub moment_at : ℕ → ℕ → ℕ → ℕ
moment_at time ahead clock = later (min (time + ahead) (2 ^ 64 - 1)) clock
