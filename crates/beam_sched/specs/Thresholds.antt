-- How much of a journal is filled. (This node's own.)
use Rattle.std.specs.Prelude.{ℕ, ◌*◌, ◌==◌, Bool, nat_lt, if◌then◌else◌, Option, Some, None}
use Rattle.beam_sched.specs.declared.journal_threshold.JournalThreshold.{JournalThreshold}
use Rattle.beam_sched.specs.declared.journal_threshold.JournalThreshold.TheVariants.{Half, ThreeQuarters, NineTenths, NinetyNine, Full}

abbrev pub percent_of : JournalThreshold → ℕ
percent_of Half = 50
percent_of ThreeQuarters = 75
percent_of NineTenths = 90
percent_of NinetyNine = 99
percent_of Full = 100

-- whether `entered` entries are fewer than `percent` percent of the limit
abbrev pub is_below : ℕ → ℕ → ℕ → Bool
is_below percent entered limit = nat_lt (100 * entered) (percent * limit)

-- the greatest threshold that `entered` entries reach
abbrev pub threshold_of : ℕ → ℕ → Option JournalThreshold
threshold_of entered limit =
    if is_below 50 entered limit then None
    else if is_below 75 entered limit then Some Half
    else if is_below 90 entered limit then Some ThreeQuarters
    else if is_below 99 entered limit then Some NineTenths
    else if is_below 100 entered limit then Some NinetyNine
    else Some Full

-- ---- thresholds by their rank, from the least one on

abbrev pub rank_of : JournalThreshold → ℕ
rank_of Half = 1
rank_of ThreeQuarters = 2
rank_of NineTenths = 3
rank_of NinetyNine = 4
rank_of Full = 5

abbrev pub threshold_at : ℕ → Option JournalThreshold
threshold_at rank =
    if rank == rank_of Half then Some Half
    else if rank == rank_of ThreeQuarters then Some ThreeQuarters
    else if rank == rank_of NineTenths then Some NineTenths
    else if rank == rank_of NinetyNine then Some NinetyNine
    else if rank == rank_of Full then Some Full
    else None
