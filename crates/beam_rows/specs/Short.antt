-- Rows of a short turn, which stop before a row that may take long. (This node's own.)
use Rattle.std.specs.Prelude.{ℕ}
use Rattle.beam_rows.specs.declared.run.StopReason.{StopReason}
use Rattle.beam_rows.specs.declared.run.StopReason.TheVariants.{AtLimit}

-- the limit of rows by which they would have ended so: `limit`, or the count that was executed, where they end though the process runs on
abbrev pub asked_for : ℕ → ℕ → StopReason → ℕ
asked_for limit count AtLimit = count
asked_for limit count stop = limit
