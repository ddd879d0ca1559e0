use Rattle.std.proofs.Common.{◌≡◌, ◌+◌, vec_len}
use Rattle.vectors.proofs.program.check_rows.Given as goal

abbrev pub invariant-loop-row : goal.invariant-loop-row
invariant-loop-row g l = vec_len l.report.held + vec_len l.report.failures ≡ l.row-index
