-- What is left of a limit, in bytes.
use Rattle.std.specs.Prelude.{◌≡◌, ℕ, ◌+◌, ◌<◌, Option, MatchOption}

-- what is left of a limit once `taken` bytes are counted, if the limit has them
abbrev pub IsLeft : Option ℕ → ℕ → ℕ → Type 0
IsLeft result limit taken = MatchOption result (limit < taken) (λ left. left + taken ≡ limit)
