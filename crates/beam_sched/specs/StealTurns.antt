-- Which takes of a worker begin with a steal. (This node's own.)
use Rattle.std.specs.Prelude.{ℕ, zero, suc}

-- how many takes are left before one begins with a steal, after a take, by how many were left before it: one of 16 begins with a steal
abbrev pub after_take : ℕ → ℕ
after_take zero = 15
after_take (suc left) = left
