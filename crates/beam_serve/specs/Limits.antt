-- How many entries of a node's journal can be in memory. (This node's own.)
use Rattle.std.specs.Prelude.{ℕ, min, Option, Some, None}
use Rattle.beam_journal.specs.Entering.{most_entries}

-- how many entries of a node's journal can be in memory, where the command line has this name of a file and this limit: with a file they
-- leave memory, so the limit is only what a node can have
abbrev pub limit_for : {A : Type 0} → Option A → ℕ → ℕ
limit_for None limit = min limit most_entries
limit_for (Some file) limit = most_entries
